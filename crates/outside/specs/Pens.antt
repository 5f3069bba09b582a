-- What a pen writes: once a put failed, nothing more.
use Rattle.std.specs.Prelude.{ℕ, ◌≡◌, ◌+◌, ◌-◌, ◌^◌, min, max, Bool, true, false, [], ◌++◌, length}
use Rattle.slice_base.specs.Shapes.{Bytes}
use Rattle.slice_base.specs.Causes.{counted}
use Rattle.outside.specs.Holding.{GainedFront}
use Rattle.outside.specs.Output.{Output, OnlyPut, Put}
use Rattle.outside.specs.declared.pens.Pen.{Pen}

-- a count of bytes after so many more; it never falls, and at the greatest number of 128 bits it stands still
abbrev pub bytes_after : ℕ → ℕ → ℕ
bytes_after count more = max count (min (count + more) (2 ^ 128 - 1))

-- exactly this text was put, its bytes were counted, and no put failed
pub record WroteAll (before : Output) (count : ℕ) (text : Bytes) (now : Output) (count_now : ℕ) : Type 0 where
  pub put : Put before text now
  pub bytes : count_now ≡ bytes_after count (length text)

-- a front of this text was put, its bytes were counted, then one put failed, and nothing else was done
pub record WroteFront (before : Output) (count : ℕ) (text : Bytes) (now : Output) (count_now : ℕ) : Type 0 where
  pub front : GainedFront before.content text now.content
  pub bytes : count_now ≡ bytes_after count front.taken
  pub kept : OnlyPut before now
  pub cause : now.faults ≡ counted before.faults

-- the text was put whole; or a put failed behind a front of it; or one had failed before, and nothing was
-- done
abbrev pub IsWritten : Bool → Output → ℕ → Bytes → Bool → Output → ℕ → Type 0
IsWritten true before count text failed now count_now = (now ≡ before) × (count_now ≡ count) × (failed ≡ true)
IsWritten false before count text true now count_now = WroteFront before count text now count_now
IsWritten false before count text false now count_now = WroteAll before count text now count_now

-- a pen wrote this text, or, where a put failed in it or before it, a front of it or nothing
pub record Wrote {S : Type 0} (output : S → Output) (before : Pen S) (text : Bytes) (now : Pen S) : Type 0 where
  pub is_written : IsWritten before.failed (output before.sink) before.bytes text now.failed (output now.sink) now.bytes

-- of the whole text a pen wrote all but the rest
pub record Going {S : Type 0} (output : S → Output) (before : Pen S) (whole rest : Bytes) (now : Pen S) : Type 0 where
  pub done : Bytes
  pub wrote : Wrote output before done now
  pub left : done ++ rest ≡ whole

-- The laws of writing: a text of no bytes is written by doing nothing; of two texts the second behind the
-- first; an equal text; and of a whole text nothing yet, the next piece, and all, once no rest is left.
pub record PenLaws {S : Type 0} (output : S → Output) : Type 0 where
  pub none : (a : Pen S) → Wrote output a [] a
  pub append : (a b c : Pen S) (x y : Bytes) → Wrote output a x b → Wrote output b y c → Wrote output a (x ++ y) c
  pub same : (a b : Pen S) (x y : Bytes) → x ≡ y → Wrote output a x b → Wrote output a y b
  pub start : (a : Pen S) (whole : Bytes) → Going output a whole whole a
  pub step : (a b c : Pen S) (whole rest x more : Bytes) → Going output a whole rest b → rest ≡ x ++ more
      → Wrote output b x c → Going output a whole more c
  pub last : (a b : Pen S) (whole rest : Bytes) → Going output a whole rest b → rest ≡ [] → Wrote output a whole b
