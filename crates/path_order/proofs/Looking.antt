-- What was seen, column by column and row by row.
use Rattle.std.proofs.Common.{◌≡◌, ◌==◌, true, false, ◌<◌, ◌≤◌, ◌+◌, ℕ, Bool, List, [], ◌∷◌, length, get_or, take, Option, ◌⊎◌, inl, inr, refl, sym, ap, ◌∙◌, subst, arith}
use Rattle.std.specs.List.{All, Contains}
use Rattle.std.proofs.lemmas.List.Elements.{All-contains, All-more, All-weaker}
use Rattle.std.proofs.lemmas.Bool.Decides.{nat_tests}
use Rattle.slice_base.specs.declared.points.Pt.{Pt}
use Rattle.path_order.specs.declared.starts.Start.{Start}
use Rattle.path_order.specs.declared.choices.Choice.{Choice}
use Rattle.path_order.specs.Inner.Remaining.{no_start, considered}
use Rattle.path_order.specs.Inner.Squares.{strip_of, square_of_strips, square_at, AreFiled, Beats}
use Rattle.path_order.proofs.Nearest.{considered-keeps, considered-beats}

-- one number more of a square
pub seen-more : (gone : List Bool) (at : Pt) (starts : List Start) (found : Option Choice) (numbers : List ℕ) (i : ℕ) → i < length numbers → All (λ j. Beats gone at found (get_or starts j no_start)) (take i numbers) → All (λ j. Beats gone at (considered gone at found (get_or starts (get_or numbers i 0) no_start)) (get_or starts j no_start)) (take (i + 1) numbers)
seen-more gone at starts found numbers i below seen =
    let s : Start = get_or starts (get_or numbers i 0) no_start in
    let P : ℕ → Type 0 = λ j. Beats gone at (considered gone at found s) (get_or starts j no_start) in
    All-more P numbers i 0 below
    (All-weaker (λ j. Beats gone at found (get_or starts j no_start)) P (λ j h. considered-keeps gone at found s (get_or starts j no_start) h) (take i numbers) seen)
    (considered-beats gone at found s)

-- a start in the square where a column and a row cross
pub seen-here : (gone : List Bool) (at : Pt) (starts : List Start) (numbers : List ℕ) (side : ℕ) (squares : List (List ℕ)) (r : Option Choice) (column row square : ℕ) → AreFiled starts side squares (length starts) → numbers ≡ get_or squares square [] → square ≡ square_of_strips (length squares) column row → All (λ j. Beats gone at r (get_or starts j no_start)) numbers → (k : ℕ) → k < length starts → strip_of side (get_or starts k no_start).at.y ≡ row → strip_of side (get_or starts k no_start).at.x ≡ column → Beats gone at r (get_or starts k no_start)
seen-here gone at starts numbers side squares r column row square filed list number seen k below same_row same_column =
    let p : Pt = (get_or starts k no_start).at in
    let is : square_at (length squares) side p ≡ square =
    ap (λ n. square_of_strips (length squares) n (strip_of side p.y)) same_column ∙ ap (λ n. square_of_strips (length squares) column n) same_row ∙ sym number in
    let inside : Contains numbers k =
    subst (λ (ks : List ℕ). Contains ks k) (sym list) (subst (λ n. Contains (get_or squares n []) k) is (filed.filed k below)) in
    All-contains (λ j. Beats gone at r (get_or starts j no_start)) numbers k seen inside

-- below n + 1 is below n, or n
pub below-or : (a n : ℕ) → a < n + 1 → (a < n) ⊎ (a ≡ n)
below-or a n lt = by_test (a == n) refl
  where
    by_test : (t : Bool) → (a == n) ≡ t → (a < n) ⊎ (a ≡ n)
    by_test true is = inr (grind (arith, nat_tests))
    by_test false is = inl (grind (arith, nat_tests))
