-- What a sink holds that was begun and then written to by a pen, also after a put failed.
use Rattle.std.specs.Prelude.{ℕ, ◌≡◌, Bool, true, false, length, Some}
use Rattle.slice_base.specs.Causes.{counted}
use Rattle.slice_base.specs.Shapes.{Bytes}
use Rattle.outside.specs.declared.pens.Pen.{Pen}
use Rattle.outside.specs.Holding.{GainedFront, emptied_of}
use Rattle.outside.specs.Output.{Output}
use Rattle.outside.specs.Pens.{Wrote, bytes_after}
use Rattle.gcode_write.specs.Writing.{Began}

-- begun once under this name; one put failed, and a front of these bytes is there and was counted
pub record Broken (name text : Bytes) (before now : Output) (count : ℕ) : Type 0 where
  pub front : GainedFront (emptied_of before.content) text now.content
  pub bytes : count ≡ bytes_after 0 front.taken
  pub named : now.name ≡ Some name
  pub begun : now.begun ≡ true
  pub begins : now.begins ≡ counted before.begins
  pub ends : now.ends ≡ before.ends
  pub failed_once : now.faults ≡ counted before.faults

-- the sink was begun once under this name, and holds exactly these bytes; or, once a put failed, a front of them
pub record Streamed {S : Type 0} (output : S → Output) (name text : Bytes) (before : Output) (pen : Pen S)
    : Type 0 where
  pub whole : pen.failed ≡ false → Began name text before (output pen.sink)
  pub bytes : pen.failed ≡ false → pen.bytes ≡ bytes_after 0 (length text)
  pub broken : pen.failed ≡ true → Broken name text before (output pen.sink) pen.bytes

-- something was written, or, where a put had failed, nothing
pub record WroteSome {S : Type 0} (output : S → Output) (pen pen_after : Pen S) : Type 0 where
  pub text : Bytes
  pub wrote : Wrote output pen text pen_after
