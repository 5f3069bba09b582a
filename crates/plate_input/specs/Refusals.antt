-- The refusals of a run that tell a plate's faults.
use Rattle.answers.specs.declared.refusal.Refusal.{Refusal}
use Rattle.answers.specs.declared.refusal.Refusal.TheVariants as refusal
use Rattle.plate_input.specs.declared.faults.PlateFault.{PlateFault}
use Rattle.plate_input.specs.declared.faults.PlateFault.TheVariants as fault

-- the refusal of the same name
abbrev pub refusal_of : PlateFault → Refusal
refusal_of (fault.ReadFault name) = refusal.ReadFault name
refusal_of (fault.TooLong name) = refusal.TooLong name
refusal_of (fault.NotJson name) = refusal.NotJson name
refusal_of (fault.BadValue scope key) = refusal.BadValue scope key
refusal_of (fault.OutOfRange scope key) = refusal.OutOfRange scope key
refusal_of (fault.UnknownExtruder mesh) = refusal.UnknownExtruder mesh
refusal_of (fault.BadStl mesh line) = refusal.BadStl mesh line
refusal_of (fault.TooManyTriangles mesh n) = refusal.TooManyTriangles mesh n
refusal_of (fault.NoTriangles mesh) = refusal.NoTriangles mesh
refusal_of (fault.OutsideVolume mesh triangle excess) = refusal.OutsideVolume mesh triangle excess
refusal_of fault.NoMemory = refusal.NoMemory
