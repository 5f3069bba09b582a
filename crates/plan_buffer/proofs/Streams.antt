-- A stream goes on, and ends.
use Rattle.std.proofs.Common.{ℕ, ◌+◌, ◌-◌, ◌^◌, ◌≡◌, ◌≤◌, min, max, Bool, true, false, List, [], ◌++◌, length, take, Option, Some, None, Result, Ok, Err, OnOk, OnErr, refl, sym, ap, ◌∙◌, subst, arith, ◌⊎◌, ⊎_elim, inl, inr}
use Rattle.std.specs.Prelude.{is_err}
use Rattle.std.proofs.lemmas.List.{length-append, length-take-le, take-append-le}
use Rattle.std.proofs.lemmas.Bool.{cases_Bool}
use Rattle.std.proofs.Math.Seq.{take-append-add}
use Rattle.slice_base.specs.Causes.{counted}
use Rattle.slice_base.specs.Shapes.{Bytes}
use Rattle.outside.specs.declared.pens.Pen.{Pen}
use Rattle.outside.specs.Holding.{Gained, GainedFront, HasLength, filled_of, emptied_of}
use Rattle.outside.specs.Output.{Output, OnlyPut, Put}
use Rattle.outside.specs.Pens.{bytes_after, WroteAll, WroteFront, IsWritten, Wrote}
use Rattle.gcode_write.specs.declared.writer.WriteFault.{WriteFault}
use Rattle.gcode_write.specs.Writing.{Began, Ended, Broke}
use Rattle.plan_buffer.specs.Streams.{Broken, Streamed}
use Rattle.plan_buffer.specs.Accepted.{Finished, BrokeOff}

-- the same, by cases on whether a put failed
abbrev pub IsStream : Bytes → Bytes → Output → Bool → Output → ℕ → Type 0
IsStream name text before true now count = Broken name text before now count
IsStream name text before false now count = Began name text before now × (count ≡ bytes_after 0 (length text))

to_stream : (name text : Bytes) (before : Output) (f : Bool) (now : Output) (count : ℕ) → (f ≡ false → Began name text before now) → (f ≡ false → count ≡ bytes_after 0 (length text)) → (f ≡ true → Broken name text before now count) → IsStream name text before f now count
to_stream name text before true now count w c b = b refl
to_stream name text before false now count w c b = (w refl, c refl)

of_whole : (name text : Bytes) (before : Output) (f : Bool) (now : Output) (count : ℕ) → IsStream name text before f now count → f ≡ false → Began name text before now × (count ≡ bytes_after 0 (length text))
of_whole name text before true now count s e = cc
of_whole name text before false now count s e = s

of_broken : (name text : Bytes) (before : Output) (f : Bool) (now : Output) (count : ℕ) → IsStream name text before f now count → f ≡ true → Broken name text before now count
of_broken name text before true now count s e = s
of_broken name text before false now count s e = cc

filled_more : (before b c : Option Bytes) (x y : Bytes) → b ≡ filled_of before x → Gained b y c → c ≡ filled_of before (x ++ y)
filled_more None b c x y e p = subst (λ (b : Option Bytes). Gained b y c → c ≡ None) (sym e) (λ q. q) p
filled_more (Some held) b c x y e p = subst (λ (b : Option Bytes). Gained b y c → c ≡ Some (x ++ y)) (sym e) (λ q. q) p

-- a told content that was emptied gained this
gained_empty : (before c : Option Bytes) (t : Bytes) → c ≡ filled_of before t → Gained (emptied_of before) t c
gained_empty None c t e = e
gained_empty (Some held) c t e = e

from_empty : (before c : Option Bytes) (t : Bytes) → Gained (emptied_of before) t c → c ≡ filled_of before t
from_empty None c t e = e
from_empty (Some held) c t e = e

front_more : (before b c : Option Bytes) (x y : Bytes) → b ≡ filled_of before x → GainedFront b y c → GainedFront (emptied_of before) (x ++ y) c
front_more before b c x y e p = record {
  taken = length x + p.taken;
  within = omega (arith, p.within, length-append x y);
  held = gained_empty before c (take (length x + p.taken) (x ++ y)) (filled_more before b c x (take p.taken y) e p.held ∙ ap (filled_of before) (sym (take-append-add x y p.taken)));
}

front_still : (before c : Option Bytes) (x y : Bytes) → GainedFront (emptied_of before) x c → GainedFront (emptied_of before) (x ++ y) c
front_still before c x y p = record {
  taken = p.taken;
  within = omega (arith, p.within, length-append x y);
  held = gained_empty before c (take p.taken (x ++ y)) (from_empty before c (take p.taken x) p.held ∙ ap (filled_of before) (sym (take-append-le p.taken x y p.within)));
}

-- a count goes on
counts_on : (m p q : ℕ) → m ≡ bytes_after 0 p → bytes_after m q ≡ bytes_after 0 (p + q)
counts_on m p q e = rw e (on p q (2 ^ 128 - 1))
  where
    on : (p q k : ℕ) → max (max 0 (min (0 + p) k)) (min (max 0 (min (0 + p) k) + q) k) ≡ max 0 (min (0 + (p + q)) k)
    on p q k = omega arith

on : (name x y : Bytes) (a b c : Output) (m n : ℕ) (f g : Bool) → IsStream name x a f b m → IsWritten f b m y g c n → IsStream name (x ++ y) a g c n
unfolding front_more front_still
on name x y a b c m n true true s p =
    let now : b ≡ c = sym p.0 in
    let count : m ≡ n = sym p.1 in
    subst (λ (o : Output). Broken name (x ++ y) a o n) now (subst (λ k. Broken name (x ++ y) a b k) count (record { front = front_still a.content b.content x y s.front; bytes = s.bytes; named = s.named; begun = s.begun; begins = s.begins; ends = s.ends; failed_once = s.failed_once }))
on name x y a b c m n true false s p = let bad = p.2 in cc
on name x y a b c m n false true s p = record {
  front = front_more a.content b.content c.content x y s.0.content p.front;
  bytes = p.bytes ∙ counts_on m (length x) p.front.taken s.1;
  named = p.kept.name ∙ s.0.named;
  begun = p.kept.begun ∙ s.0.begun;
  begins = p.kept.begins ∙ s.0.begins;
  ends = p.kept.ends ∙ s.0.ends;
  failed_once = p.cause ∙ ap counted s.0.quiet;
}
on name x y a b c m n false false s p = (
  record {
    content = filled_more a.content b.content c.content x y s.0.content p.put.held;
    named = p.put.kept.name ∙ s.0.named;
    begun = p.put.kept.begun ∙ s.0.begun;
    begins = p.put.kept.begins ∙ s.0.begins;
    ends = p.put.kept.ends ∙ s.0.ends;
    quiet = p.put.quiet ∙ s.0.quiet;
  },
  p.bytes ∙ counts_on m (length x) (length y) s.1 ∙ ap (bytes_after 0) (sym (length-append x y)),
)

-- what is written next
pub streamed_then : {S : Type 0} (output : S → Output) (name x y : Bytes) (before : Output) (a b : Pen S) → Streamed output name x before a → Wrote output a y b → Streamed output name (x ++ y) before b
streamed_then output name x y before a b s w =
    let from = to_stream name x before a.failed (output a.sink) a.bytes s.whole s.bytes s.broken in
    let to = on name x y before (output a.sink) (output b.sink) a.bytes b.bytes a.failed b.failed from w.is_written in
    record {
      whole = λ e. (of_whole name (x ++ y) before b.failed (output b.sink) b.bytes to e).0;
      bytes = λ e. (of_whole name (x ++ y) before b.failed (output b.sink) b.bytes to e).1;
      broken = λ e. of_broken name (x ++ y) before b.failed (output b.sink) b.bytes to e;
    }

pub streamed_as : {S : Type 0} (output : S → Output) (name x y : Bytes) (before : Output) (a : Pen S) → x ≡ y → Streamed output name x before a → Streamed output name y before a
streamed_as output name x y before a e s = subst (λ (t : Bytes). Streamed output name t before a) e s

-- once a put had failed nothing is done
still : (a c : Output) (m n : ℕ) (t : Bytes) (f g : Bool) → f ≡ true → IsWritten f a m t g c n → (c ≡ a) × (n ≡ m) × (g ≡ true)
still a c m n t true g e p = p
still a c m n t false g e p = cc

pub still_pen : {S : Type 0} (output : S → Output) (a b : Pen S) (t : Bytes) → a.failed ≡ true → Wrote output a t b → (output b.sink ≡ output a.sink) × (b.bytes ≡ a.bytes) × (b.failed ≡ true)
still_pen output a b t e w = still (output a.sink) (output b.sink) a.bytes b.bytes t a.failed b.failed e w.is_written

-- whatever the text, nothing of it is written once a put had failed
any_text : (a c : Output) (m n : ℕ) (t u : Bytes) (f g : Bool) → f ≡ true → IsWritten f a m t g c n → IsWritten f a m u g c n
any_text a c m n t u true g e p = p
any_text a c m n t u false g e p = cc

pub wrote_nothing : {S : Type 0} (output : S → Output) (a b : Pen S) (t u : Bytes) → a.failed ≡ true → Wrote output a t b → Wrote output a u b
wrote_nothing output a b t u e w = record { is_written = any_text (output a.sink) (output b.sink) a.bytes b.bytes t u a.failed b.failed e w.is_written }

finished : (name text footer : Bytes) (a b c : Output) → Began name text a b → Ended footer b c → Finished name (text ++ footer) a c
finished name text footer a b c s e = record {
  content = filled_more a.content b.content c.content text footer s.content e.held;
  whole = e.whole;
  named = e.name ∙ s.named;
  begun = e.begun ∙ s.begun;
  begins = e.begins ∙ s.begins;
  ends = e.ends ∙ ap counted s.ends;
  quiet = e.quiet ∙ s.quiet;
}

-- the whole file is there, where the sink was ended
pub flush_ok : {S : Type 0} (output : S → Output) (r : Result (Unit {0}) WriteFault) (name text footer : Bytes) (before : Output) (m d : Pen S) → Streamed output name text before m → (m.failed ≡ true → Wrote output m [] d) → d.failed ≡ is_err r → OnOk r (Ended footer (output m.sink) (output d.sink)) → OnOk r (Finished name (text ++ footer) before (output d.sink))
flush_ok output (Err x) name text footer before m d s again failed e = e
flush_ok output (Ok u) name text footer before m d s again failed e =
    ⊎_elim
    (λ (t : m.failed ≡ true). let bad : d.failed ≡ true = (still_pen output m d [] t (again t)).2 in cc)
    (λ (f : m.failed ≡ false). finished name text footer before (output m.sink) (output d.sink) (s.whole f) e)
    (cases_Bool m.failed)

pub flush_bytes : {S : Type 0} (output : S → Output) (r : Result (Unit {0}) WriteFault) (name text footer : Bytes) (before : Output) (m d : Pen S) → Streamed output name text before m → (m.failed ≡ true → Wrote output m [] d) → d.failed ≡ is_err r → OnOk r (d.bytes ≡ bytes_after m.bytes (length footer)) → OnOk r (d.bytes ≡ bytes_after 0 (length (text ++ footer)))
flush_bytes output (Err x) name text footer before m d s again failed e = e
flush_bytes output (Ok u) name text footer before m d s again failed e =
    ⊎_elim
    (λ (t : m.failed ≡ true). let bad : d.failed ≡ true = (still_pen output m d [] t (again t)).2 in cc)
    (λ (f : m.failed ≡ false). e ∙ counts_on m.bytes (length text) (length footer) (s.bytes f) ∙ ap (bytes_after 0) (sym (length-append text footer)))
    (cases_Bool m.failed)

broke_on : {S : Type 0} (output : S → Output) (name text footer : Bytes) (before : Output) (m d : Pen S) → Began name text before (output m.sink) → Broke output footer m d → BrokeOff name (text ++ footer) before (output d.sink)
broke_on output name text footer before m d s e = record {
  front = front_more before.content (output m.sink).content (output d.sink).content text footer s.content e.front;
  named = e.name ∙ s.named;
  begun = e.begun ∙ s.begun;
  begins = e.begins ∙ s.begins;
  ends = subst (λ n. ((output d.sink).ends ≡ n) ⊎ ((output d.sink).ends ≡ counted n)) s.ends e.ends;
  failed_once = e.cause ∙ ap counted s.quiet;
}

broke_still : (name text footer : Bytes) (before now : Output) (count : ℕ) → Broken name text before now count → BrokeOff name (text ++ footer) before now
broke_still name text footer before now count s = record {
  front = front_still before.content now.content text footer s.front;
  named = s.named;
  begun = s.begun;
  begins = s.begins;
  ends = inl s.ends;
  failed_once = s.failed_once;
}

-- a front of the file is there, where a call failed
pub flush_err : {S : Type 0} (output : S → Output) (r : Result (Unit {0}) WriteFault) (name text footer : Bytes) (before : Output) (m d : Pen S) → Streamed output name text before m → (m.failed ≡ true → Wrote output m [] d) → OnErr r (m.failed ≡ false → Broke output footer m d) → OnErr r (BrokeOff name (text ++ footer) before (output d.sink))
flush_err output (Ok u) name text footer before m d s again e = e
flush_err output (Err x) name text footer before m d s again e =
    ⊎_elim
    (λ (t : m.failed ≡ true). subst (λ (o : Output). BrokeOff name (text ++ footer) before o) (sym (still_pen output m d [] t (again t)).0) (broke_still name text footer before (output m.sink) m.bytes (s.broken t)))
    (λ (f : m.failed ≡ false). broke_on output name text footer before m d (s.whole f) (e f))
    (cases_Bool m.failed)
