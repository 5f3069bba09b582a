-- When a fault is the right answer.
use Rattle.std.specs.Prelude.{ℕ, ◌≡◌, Result, Err}
use Rattle.edge_cut.specs.declared.cutting.CutFault.{CutFault}
use Rattle.edge_cut.specs.declared.cutting.CutFault.TheVariants.{TooTangled, NoMemory}

-- the fault is what the definition answers; want of memory is free
abbrev pub IsCutFault : {A : Type 0} → Result A ℕ → CutFault → Type 0
IsCutFault answer (TooTangled count) = answer ≡ Err count
IsCutFault answer NoMemory = Unit {0}
