-- A sink that is begun, written and ended.
use Rattle.std.specs.Prelude.{ℕ, ◌≡◌, Bool, true, false, ◌⊎◌, Some, length}
use Rattle.slice_base.specs.Causes.{counted}
use Rattle.slice_base.specs.Shapes.{Bytes}
use Rattle.outside.specs.declared.pens.Pen.{Pen}
use Rattle.outside.specs.Holding.{Gained, GainedFront, HasLength, IsKeptOrEmptied, filled_of, emptied_of}
use Rattle.outside.specs.Output.{Output}
use Rattle.outside.specs.Pens.{bytes_after}

-- begun once under this name, it holds exactly these bytes, and nothing failed
pub record Began (name text : Bytes) (before after : Output) : Type 0 where
  pub content : after.content ≡ filled_of before.content text
  pub named : after.name ≡ Some name
  pub begun : after.begun ≡ true
  pub begins : after.begins ≡ counted before.begins
  pub ends : after.ends ≡ before.ends
  pub quiet : after.faults ≡ before.faults

-- where the begin succeeded, a front of these bytes; else what was there before, or nothing
abbrev pub HoldsFront : Bool → Bytes → Output → Output → Type 0
HoldsFront true text before after = GainedFront (emptied_of before.content) text after.content
HoldsFront false text before after = IsKeptOrEmptied before.content after.content

-- it failed once, as it was begun or behind that, and wasn't ended
pub record Unbegan (name text : Bytes) (before after : Output) : Type 0 where
  pub content : HoldsFront after.begun text before after
  pub named : after.name ≡ Some name
  pub begins : after.begins ≡ counted before.begins
  pub ends : after.ends ≡ before.ends
  pub failed_once : after.faults ≡ counted before.faults

-- exactly these bytes were put, and it was ended once
pub record Ended (text : Bytes) (before after : Output) : Type 0 where
  pub held : Gained before.content text after.content
  pub whole : HasLength after.content after.held_at_end
  pub name : after.name ≡ before.name
  pub begun : after.begun ≡ before.begun
  pub begins : after.begins ≡ before.begins
  pub ends : after.ends ≡ counted before.ends
  pub quiet : after.faults ≡ before.faults

-- a front of these bytes was put and counted, it was ended at most once, and one of these calls failed
pub record Broke {S : Type 0} (output : S → Output) (text : Bytes) (before after : Pen S) : Type 0 where
  pub front : GainedFront (output before.sink).content text (output after.sink).content
  pub bytes : after.bytes ≡ bytes_after before.bytes front.taken
  pub name : (output after.sink).name ≡ (output before.sink).name
  pub begun : (output after.sink).begun ≡ (output before.sink).begun
  pub begins : (output after.sink).begins ≡ (output before.sink).begins
  pub ends : ((output after.sink).ends ≡ (output before.sink).ends)
      ⊎ ((output after.sink).ends ≡ counted (output before.sink).ends)
  pub cause : (output after.sink).faults ≡ counted (output before.sink).faults
