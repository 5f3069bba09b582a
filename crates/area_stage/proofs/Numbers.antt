-- Results by number, read in their order.
use Rattle.std.proofs.Common.{◌≡◌, ◌<◌, ◌+◌, ℕ, suc, List, [], ◌∷◌, length, get_or, arith, subst}
use Rattle.area_stage.specs.Inner.Faults.{FromNumber}

pub from_each : {X : Type 0} (P : ℕ → X → Type 0) (k : ℕ) (xs : List X) → ((i : ℕ) (d : X) → i < length xs → P (k + i) (get_or xs i d)) → FromNumber P k xs
from_each P k [] h = tt
from_each {X} P k (x ∷ xs) h =
    let here : k + 0 ≡ k = omega arith in (
      subst (λ (j : ℕ). P j x) here (h 0 x (omega arith)),
      from_each P (k + 1) xs (λ i d below. let e : k + suc i ≡ (k + 1) + i = omega arith in subst (λ (j : ℕ). P j (get_or xs i d)) e (h (suc i) d (omega (arith, below)))),
    )
