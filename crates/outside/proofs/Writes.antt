-- Texts that a pen writes one after another.
use Rattle.std.proofs.Common.{ℕ, ◌≡◌, ◌+◌, ◌-◌, ◌^◌, ◌≤◌, min, max, Bool, true, false, List, [], ◌++◌, length, refl, sym, ap, ◌∙◌, subst, arith}
use Rattle.std.proofs.lemmas.List.{append_assoc, append-nil, length-append}
use Rattle.outside.specs.Output.{Output, OnlyPut, Put}
use Rattle.outside.specs.declared.pens.Pen.{Pen}
use Rattle.outside.specs.Pens.{bytes_after, WroteAll, WroteFront, IsWritten, Wrote, Going, PenLaws}
use Rattle.outside.proofs.Pieces.{Gained-append}
use Rattle.outside.proofs.Puts.{Put-none, Put-append, OnlyPut-then}
use Rattle.std.proofs.lemmas.List.{take-append-le}
use Rattle.std.proofs.Math.Seq.{take-append-add}
use Rattle.std.specs.Prelude.{take}
use Rattle.outside.specs.Holding.{Gained}
use Rattle.slice_base.specs.Causes.{counted}

-- no more bytes, and some more and then more, up to the same most
none_more : (count most : ℕ) → count ≡ max count (min (count + 0) most)
none_more count most = grind arith

more_then_more : (count more last most : ℕ) → max (max count (min (count + more) most)) (min (max count (min (count + more) most) + last) most) ≡ max count (min (count + (more + last)) most)
more_then_more count more last most = grind arith

rises : (count more most : ℕ) → count ≤ most → min (count + more) most ≡ max count (min (count + more) most)
rises count more most small = grind arith

pub bytes_then : (n more last : ℕ) → bytes_after (bytes_after n more) last ≡ bytes_after n (more + last)
bytes_then n more last = more_then_more n more last (2 ^ 128 - 1)

-- the count of a piece, which saturates
pub counted_next : (before count at taken sum : ℕ) → count ≡ bytes_after before at → sum ≡ min (count + taken) (2 ^ 128 - 1) → count ≤ 2 ^ 128 - 1 → sum ≡ bytes_after before (at + taken)
counted_next before count at taken sum now is small =
    let same : min (count + taken) (2 ^ 128 - 1) ≡ bytes_after count taken = rises count taken (2 ^ 128 - 1) small in
    is ∙ same ∙ ap (λ z. bytes_after z taken) now ∙ bytes_then before at taken

-- a put failed behind what was put
pub failed_behind : (a b c : Output) (n m at : ℕ) (text : List ℕ) → at ≤ length text → Put a (take at text) b → m ≡ bytes_after n at → c.content ≡ b.content → OnlyPut b c → c.faults ≡ counted b.faults → WroteFront a n text c m
failed_behind a b c n m at text within put bytes content only cause = record {
  front = record { taken = at; within = within; held = subst (λ held. Gained a.content (take at text) held) (sym content) put.held };
  bytes = bytes;
  kept = OnlyPut-then a b c put.kept only;
  cause = cause ∙ ap counted put.quiet;
}

nothing : (a : Output) (n : ℕ) (f : Bool) → IsWritten f a n [] f a n
nothing a n true = (refl, refl, refl)
nothing a n false = record { put = Put-none a; bytes = none_more n (2 ^ 128 - 1) }

front_more : (a b : Output) (n m : ℕ) (x y : List ℕ) → WroteFront a n x b m → WroteFront a n (x ++ y) b m
front_more a b n m x y p = record {
  front = record {
    taken = p.front.taken;
    within = let w = p.front.within in omega (arith, length-append x y);
    held = rw (take-append-le p.front.taken x y p.front.within) p.front.held;
  };
  bytes = p.bytes;
  kept = p.kept;
  cause = p.cause;
}

front_after : (a b c : Output) (n m k : ℕ) (x y : List ℕ) → WroteAll a n x b m → WroteFront b m y c k → WroteFront a n (x ++ y) c k
front_after a b c n m k x y p q = record {
  front = record {
    taken = length x + q.front.taken;
    within = let w = q.front.within in omega (arith, length-append x y);
    held = rw (take-append-add x y q.front.taken) (Gained-append a.content b.content c.content x (take q.front.taken y) p.put.held q.front.held);
  };
  bytes = q.bytes ∙ ap (λ z. bytes_after z q.front.taken) p.bytes ∙ bytes_then n (length x) q.front.taken;
  kept = OnlyPut-then a b c p.put.kept q.kept;
  cause = q.cause ∙ ap counted p.put.quiet;
}

all_then : (a b c : Output) (n m k : ℕ) (x y : List ℕ) → WroteAll a n x b m → WroteAll b m y c k → WroteAll a n (x ++ y) c k
all_then a b c n m k x y p q = record {
  put = Put-append a b c x y p.put q.put;
  bytes = q.bytes ∙ ap (λ z. bytes_after z (length y)) p.bytes ∙ bytes_then n (length x) (length y) ∙ ap (bytes_after n) (sym (length-append x y));
}

both : (a b c : Output) (n m k : ℕ) (f g h : Bool) (x y : List ℕ) → IsWritten f a n x g b m → IsWritten g b m y h c k → IsWritten f a n (x ++ y) h c k
both a b c n m k true true h x y p q = (q.0 ∙ p.0, q.1 ∙ p.1, q.2)
both a b c n m k true false h x y p q = cc
both a b c n m k false true true x y p q =
    subst (λ (o : Output). WroteFront a n (x ++ y) o k) (sym q.0) (subst (λ z. WroteFront a n (x ++ y) b z) (sym q.1) (front_more a b n m x y p))
both a b c n m k false true false x y p q = cc
both a b c n m k false false true x y p q = front_after a b c n m k x y p q
both a b c n m k false false false x y p q = all_then a b c n m k x y p q

none : {S : Type 0} (out : S → Output) (a : Pen S) → Wrote out a [] a
none out a = record { is_written = nothing (out a.sink) a.bytes a.failed }

append : {S : Type 0} (out : S → Output) (a b c : Pen S) (x y : List ℕ) → Wrote out a x b → Wrote out b y c → Wrote out a (x ++ y) c
append out a b c x y p q = record {
  is_written = both (out a.sink) (out b.sink) (out c.sink) a.bytes b.bytes c.bytes a.failed b.failed c.failed x y p.is_written q.is_written;
}

same : {S : Type 0} (out : S → Output) (a b : Pen S) (x y : List ℕ) → x ≡ y → Wrote out a x b → Wrote out a y b
same out a b x y e p = subst (λ t. Wrote out a t b) e p

start : {S : Type 0} (out : S → Output) (a : Pen S) (whole : List ℕ) → Going out a whole whole a
start out a whole = record { done = []; wrote = none out a; left = refl }

step : {S : Type 0} (out : S → Output) (a b c : Pen S) (whole rest x more : List ℕ) → Going out a whole rest b → rest ≡ x ++ more → Wrote out b x c → Going out a whole more c
step out a b c whole rest x more w cut p = record {
  done = w.done ++ x;
  wrote = append out a b c w.done x w.wrote p;
  left = append_assoc w.done x more ∙ ap (λ r. w.done ++ r) (sym cut) ∙ w.left;
}

last : {S : Type 0} (out : S → Output) (a b : Pen S) (whole rest : List ℕ) → Going out a whole rest b → rest ≡ [] → Wrote out a whole b
last out a b whole rest w e = same out a b w.done whole (sym (append-nil w.done) ∙ ap (λ r. w.done ++ r) (sym e) ∙ w.left) w.wrote

pub pen_laws : {S : Type 0} (out : S → Output) → PenLaws out
pen_laws out = record { none = none out; append = append out; same = same out; start = start out; step = step out; last = last out }
