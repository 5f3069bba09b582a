-- What always holds of sums.
use Rattle.std.specs.Prelude.{ℕ, ◌+◌, ◌*◌, ◌^◌, ◌≤◌, ◌∷◌, [], List, slice_index}
use Rattle.std.specs.List.{All}
use Rattle.slice_base.specs.declared.points.Pt.{Pt}
use Rattle.slice_base.specs.Plane.{InSquare}

-- no sum is greater than so many layers can take
pub record AreSums (plans : ℕ) (end : Pt) (time : ℕ) (volumes : List ℕ) : Type 0 where
  pub few : plans ≤ 40000
  pub end_in : InSquare 1700000 end
  pub time_small : time ≤ plans * 2 ^ 84
  pub volumes_small : All (λ v. v ≤ plans * 2 ^ 90) volumes

-- the sums of two lists of eight numbers
abbrev pub plus_each : List ℕ → List ℕ → List ℕ
plus_each a b =
    (slice_index a 0 + slice_index b 0) ∷ (slice_index a 1 + slice_index b 1) ∷ (slice_index a 2 + slice_index b 2) ∷
    (slice_index a 3 + slice_index b 3) ∷ (slice_index a 4 + slice_index b 4) ∷ (slice_index a 5 + slice_index b 5) ∷
    (slice_index a 6 + slice_index b 6) ∷ (slice_index a 7 + slice_index b 7) ∷ []
