-- Faults of cuts, named.
use Rattle.std.specs.Prelude.{ℕ, ◌≡◌, ◌+◌, List, [], ◌∷◌, Result, Ok, Err, MatchResult}
use Rattle.edge_cut.specs.declared.cutting.CutFault.{CutFault}
use Rattle.edge_cut.specs.declared.cutting.CutFault.TheVariants as cut
use Rattle.area_stage.specs.declared.faults.AreaFault.{AreaFault}
use Rattle.area_stage.specs.declared.faults.AreaFault.TheVariants as area
use Rattle.area_stage.specs.Faults.{Tangle}

-- the fault of a cut, named
abbrev pub area_fault_of : ℕ → ℕ → CutFault → AreaFault
area_fault_of mesh layer (cut.TooTangled count) = area.TooTangled mesh layer count
area_fault_of mesh layer cut.NoMemory = area.NoMemory

-- what a call answers, its fault named
abbrev pub named_result_of : {A : Type 0} → ℕ → ℕ → Result A CutFault → Result A AreaFault
named_result_of mesh layer (Ok a) = Ok a
named_result_of mesh layer (Err fault) = Err (area_fault_of mesh layer fault)

-- the fault is what the definition answers; want of memory is free
abbrev pub IsAreaFault : {A : Type 0} → Result A Tangle → AreaFault → Type 0
IsAreaFault answer (area.TooTangled mesh layer count) =
    answer ≡ Err (record { mesh = mesh; layer = layer; count = count })
IsAreaFault answer area.NoMemory = Unit {0}
IsAreaFault answer fault = ⊥

-- from number k on, P holds of each of these
abbrev pub FromNumber : {X : Type 0} → (ℕ → X → Type 0) → ℕ → List X → Type 0
FromNumber P k [] = Unit {0}
FromNumber P k (x ∷ xs) = P k x × FromNumber P (k + 1) xs

-- the result is what the definition gives for its number, up to want of memory
abbrev pub GivesNumber : {A : Type 0} → (ℕ → Result A Tangle) → ℕ → Result A AreaFault → Type 0
GivesNumber f k result = MatchResult result (λ a. f k ≡ Ok a) (IsAreaFault (f k))
