-- A sink that is ended, once the last text was written.
use Rattle.std.proofs.Common.{ℕ, ◌≡◌, Bool, true, false, List, [], length, Option, Some, None, sym, ◌∙◌, ap, subst, inl, inr, arith}
use Rattle.std.proofs.Math.Seq.{take-length}
use Rattle.slice_base.specs.Causes.{counted}
use Rattle.outside.specs.declared.pens.Pen.{Pen}
use Rattle.outside.specs.Holding.{Gained, GainedFront}
use Rattle.outside.specs.Output.{Output, Put}
use Rattle.outside.specs.Pens.{bytes_after, WroteAll, WroteFront, IsWritten, Wrote}
use Rattle.gcode_write.specs.Writing.{Broke}

all_of : (a b : Output) (n m : ℕ) (f g : Bool) (text : List ℕ) → IsWritten f a n text g b m → f ≡ false → g ≡ false → WroteAll a n text b m
all_of a b n m true g text p e h = cc
all_of a b n m false true text p e h = cc
all_of a b n m false false text p e h = p

front_of : (a b : Output) (n m : ℕ) (f g : Bool) (text : List ℕ) → IsWritten f a n text g b m → f ≡ false → g ≡ true → WroteFront a n text b m
front_of a b n m true g text p e h = cc
front_of a b n m false false text p e h = cc
front_of a b n m false true text p e h = p

-- a pen that hadn't failed wrote all, where it hasn't failed now
pub wrote_all : {S : Type 0} (out : S → Output) (a b : Pen S) (text : List ℕ) → Wrote out a text b → a.failed ≡ false → b.failed ≡ false → WroteAll (out a.sink) a.bytes text (out b.sink) b.bytes
wrote_all out a b text w e h = all_of (out a.sink) (out b.sink) a.bytes b.bytes a.failed b.failed text w.is_written e h

-- and a front of it, where it has
pub wrote_front : {S : Type 0} (out : S → Output) (a b : Pen S) (text : List ℕ) → Wrote out a text b → a.failed ≡ false → b.failed ≡ true → WroteFront (out a.sink) a.bytes text (out b.sink) b.bytes
wrote_front out a b text w e h = front_of (out a.sink) (out b.sink) a.bytes b.bytes a.failed b.failed text w.is_written e h

-- a put of the last text failed
pub broke_behind : {S : Type 0} (out : S → Output) (a b : Pen S) (text : List ℕ) → Wrote out a text b → a.failed ≡ false → b.failed ≡ true → Broke out text a b
broke_behind out a b text w e h =
    let p = wrote_front out a b text w e h in
    record {
      front = p.front;
      bytes = p.bytes;
      name = p.kept.name;
      begun = p.kept.begun;
      begins = p.kept.begins;
      ends = inl p.kept.ends;
      cause = p.cause;
    }

-- the last text was put, and then the end failed
pub broke_at_end : {S : Type 0} (out : S → Output) (a b d : Pen S) (text : List ℕ) → Wrote out a text b → a.failed ≡ false → b.failed ≡ false →
    (out d.sink).content ≡ (out b.sink).content → (out d.sink).name ≡ (out b.sink).name → (out d.sink).begun ≡ (out b.sink).begun → (out d.sink).begins ≡ (out b.sink).begins →
    (out d.sink).ends ≡ counted (out b.sink).ends → (out d.sink).faults ≡ counted (out b.sink).faults → d.bytes ≡ b.bytes → Broke out text a d
broke_at_end out a b d text w e h content named begun begins ends cause bytes =
    let p = wrote_all out a b text w e h in
    record {
      front = record {
        taken = length text;
        within = omega arith;
        held = rw (take-length text) (subst (λ held. Gained (out a.sink).content text held) (sym content) p.put.held);
      };
      bytes = bytes ∙ p.bytes;
      name = named ∙ p.put.kept.name;
      begun = begun ∙ p.put.kept.begun;
      begins = begins ∙ p.put.kept.begins;
      ends = inr (ends ∙ ap counted p.put.kept.ends);
      cause = cause ∙ ap counted p.put.quiet;
    }

nothing : (a b : Output) (n m : ℕ) (f g : Bool) (text : List ℕ) → IsWritten f a n text g b m → f ≡ true → IsWritten f a n [] g b m
nothing a b n m true g text p e = p
nothing a b n m false g text p e = cc

-- a pen that had failed puts nothing
pub nothing_more : {S : Type 0} (out : S → Output) (a b : Pen S) (text : List ℕ) → Wrote out a text b → a.failed ≡ true → Wrote out a [] b
nothing_more out a b text w e = record { is_written = nothing (out a.sink) (out b.sink) a.bytes b.bytes a.failed b.failed text w.is_written e }
