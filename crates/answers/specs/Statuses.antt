-- The status of each answer.
use Rattle.std.specs.Prelude.{ℕ, Option, Some, None}
use Rattle.answers.specs.declared.refusal.Refusal.{Refusal}
use Rattle.answers.specs.declared.refusal.Refusal.TheVariants as refusal

-- 1 for words, 2 for settings, 3 for the content of a file or mesh, 4 for reading, 5 for writing, 6 for
-- want of memory, 7 for the console
abbrev pub status_in : Refusal → ℕ
status_in (refusal.BadWord n) = 1
status_in refusal.NoInput = 1
status_in refusal.NoOutput = 1
status_in (refusal.ReadFault name) = 4
status_in (refusal.TooLong name) = 3
status_in (refusal.NotJson name) = 2
status_in (refusal.BadValue scope key) = 2
status_in (refusal.OutOfRange scope key) = 2
status_in (refusal.UnknownExtruder mesh) = 2
status_in (refusal.BadStl mesh line) = 3
status_in (refusal.NoTriangles mesh) = 3
status_in (refusal.TooManyTriangles mesh n) = 3
status_in (refusal.OutsideVolume mesh triangle excess) = 3
status_in refusal.NoLayers = 3
status_in (refusal.TooManyLayers n) = 3
status_in (refusal.TooTangled mesh layer n) = 3
status_in refusal.NoMemory = 6
status_in refusal.WriteFault = 5
status_in refusal.ConsoleFault = 7

-- 0 where nothing was refused
abbrev pub status_of : Option Refusal → ℕ
status_of None = 0
status_of (Some r) = status_in r
