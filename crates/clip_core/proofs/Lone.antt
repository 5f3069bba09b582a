-- Edges of one operand alone, where an operation keeps none of them.
use Rattle.std.proofs.Common.{◌≡◌, ◌<◌, ◌≤◌, ◌+◌, ℕ, Bool, true, false, not, cond, ◌&&◌, List, [], ◌∷◌, ◌++◌, length, get_or, ℤ, pos, ◌+ℤ◌, ◌-ℤ◌, inl, inr, ◌⊎◌, arith, refl, ap, ◌∙◌}
use Rattle.std.specs.List.{All, AllByRecursion}
use Rattle.std.proofs.lemmas.List.Elements.{recursion_from_All}
use Rattle.edge_cut.specs.declared.passes.Marked.{Marked}
use Rattle.clip_core.specs.declared.bundles.Bundle.{Bundle}
use Rattle.clip_core.specs.declared.windings.Windings.{Windings}
use Rattle.clip_core.specs.declared.keeping.Operation.{Operation}
use Rattle.clip_core.specs.declared.keeping.Operation.TheVariants.{Subtract, Meet}
use Rattle.clip_core.specs.Bundles.{bundles_of}
use Rattle.clip_core.specs.Windings.{direction_of, none, plus, less, tally_of, is_of, is_right_of, is_level, net_of, sum_of, left_of, right_of}
use Rattle.clip_core.specs.Keeping.{is_zero, is_inside, directed, kept_edge_of, kept_edges_of, kept_of}
use Rattle.clip_core.proofs.Shares.{below-or-not}
use Rattle.clip_core.proofs.Finding.{any-mark}

-- one edge more in front
pub front-more : (second : Bool) (i : ℕ) (ms : List Marked) (e : Marked) → i < length ms → (get_or ms i e).second ≡ second → ((k : ℕ) (d : Marked) → k < i → (get_or ms k d).second ≡ second) → (k : ℕ) (d : Marked) → k < i + 1 → (get_or ms k d).second ≡ second
front-more second i ms e inside is before k d lt = pick (below-or-not k i)
  where
    pick : (k < i) ⊎ (i ≤ k) → (get_or ms k d).second ≡ second
    pick (inl b) = before k d b
    pick (inr b) =
        let same : k ≡ i = omega (arith, lt, b) in
        ap (λ (n : ℕ). (get_or ms n d).second) same ∙ (ap (λ (m : Marked). m.second) (any-mark ms i d e inside) ∙ is)

-- a direction for the one operand or the other
abbrev share : Bool → ℤ → Windings
share second d = cond second (record { first = pos 0; second = d }) (record { first = d; second = pos 0 })

share-no_second : (t s : Bool) (d : ℤ) → s ≡ false → (let w : Windings = cond t (share s d) none in w.second) ≡ pos 0
share-no_second true false d h = refl
share-no_second false false d h = refl
share-no_second t true d h = absurd (cc)

share-no_first : (t s : Bool) (d : ℤ) → s ≡ true → (let w : Windings = cond t (share s d) none in w.first) ≡ pos 0
share-no_first true true d h = refl
share-no_first false true d h = refl
share-no_first t false d h = absurd (cc)

-- no number comes of an operand without edges

tally-no_second : (test : Marked → Bool) (ms : List Marked) → AllByRecursion (λ m. m.second ≡ false) ms → (tally_of test ms).second ≡ pos 0
tally-no_second test [] all = refl
tally-no_second test (m ∷ ms) all = λ i. share-no_second (test m) m.second (direction_of m.edge) all.0 i +ℤ tally-no_second test ms all.1 i

tally-no_first : (test : Marked → Bool) (ms : List Marked) → AllByRecursion (λ m. m.second ≡ true) ms → (tally_of test ms).first ≡ pos 0
tally-no_first test [] all = refl
tally-no_first test (m ∷ ms) all = λ i. share-no_first (test m) m.second (direction_of m.edge) all.0 i +ℤ tally-no_first test ms all.1 i

left-no_second : (t : Bool) (m n : Windings) → m.second ≡ pos 0 → n.second ≡ pos 0 → (cond t m (plus m n)).second ≡ pos 0
left-no_second true m n g h = g
left-no_second false m n g h = λ i. g i +ℤ h i

left-no_first : (t : Bool) (m n : Windings) → m.first ≡ pos 0 → n.first ≡ pos 0 → (cond t m (plus m n)).first ≡ pos 0
left-no_first true m n g h = g
left-no_first false m n g h = λ i. g i +ℤ h i

right-no_second : (t : Bool) (m n : Windings) → m.second ≡ pos 0 → n.second ≡ pos 0 → (cond t (less m n) m).second ≡ pos 0
right-no_second true m n g h = λ i. g i -ℤ h i
right-no_second false m n g h = g

right-no_first : (t : Bool) (m n : Windings) → m.first ≡ pos 0 → n.first ≡ pos 0 → (cond t (less m n) m).first ≡ pos 0
right-no_first true m n g h = λ i. g i -ℤ h i
right-no_first false m n g h = g

-- what is inside nothing at all

and-false : (a : Bool) → (a && false) ≡ false
and-false true = refl
and-false false = refl

meet-no_second : (n : Windings) → n.second ≡ pos 0 → is_inside Meet n ≡ false
meet-no_second n h = ap (λ (z : ℤ). not (is_zero n.first) && not (is_zero z)) h ∙ and-false (not (is_zero n.first))

meet-no_first : (n : Windings) → n.first ≡ pos 0 → is_inside Meet n ≡ false
meet-no_first n h = ap (λ (z : ℤ). not (is_zero z) && not (is_zero n.second)) h

subtract-no_first : (n : Windings) → n.first ≡ pos 0 → is_inside Subtract n ≡ false
subtract-no_first n h = ap (λ (z : ℤ). not (is_zero z) && is_zero n.second) h

directed-none : (s t : Bool) (b : Bundle) → s ≡ false → t ≡ false → directed s t b ≡ []
directed-none s t b g h = λ i. directed (g i) (h i) b

kept_edges-none : (operation : Operation) (ms : List Marked) (bs : List Bundle) → ((b : Bundle) → kept_edge_of operation ms b ≡ []) → kept_edges_of operation ms bs ≡ []
kept_edges-none operation ms [] each = refl
kept_edges-none operation ms (b ∷ bs) each = λ i. each b i ++ kept_edges-none operation ms bs each i

pub meet-first : (ms : List Marked) → All (λ m. m.second ≡ false) ms → kept_of Meet ms ≡ []
meet-first ms all =
    let alone = recursion_from_All (λ (m : Marked). m.second ≡ false) ms all in
    kept_edges-none Meet ms (bundles_of [] ms) (λ b.
    let sum = tally-no_second (is_right_of b) ms alone in
    let net = tally-no_second (is_of b) ms alone in
    directed-none (is_inside Meet (left_of ms b)) (is_inside Meet (right_of ms b)) b
    (meet-no_second (left_of ms b) (left-no_second (is_level b) (sum_of ms b) (net_of ms b) sum net))
    (meet-no_second (right_of ms b) (right-no_second (is_level b) (sum_of ms b) (net_of ms b) sum net)))

pub meet-second : (ms : List Marked) → All (λ m. m.second ≡ true) ms → kept_of Meet ms ≡ []
meet-second ms all =
    let alone = recursion_from_All (λ (m : Marked). m.second ≡ true) ms all in
    kept_edges-none Meet ms (bundles_of [] ms) (λ b.
    let sum = tally-no_first (is_right_of b) ms alone in
    let net = tally-no_first (is_of b) ms alone in
    directed-none (is_inside Meet (left_of ms b)) (is_inside Meet (right_of ms b)) b
    (meet-no_first (left_of ms b) (left-no_first (is_level b) (sum_of ms b) (net_of ms b) sum net))
    (meet-no_first (right_of ms b) (right-no_first (is_level b) (sum_of ms b) (net_of ms b) sum net)))

pub subtract-second : (ms : List Marked) → All (λ m. m.second ≡ true) ms → kept_of Subtract ms ≡ []
subtract-second ms all =
    let alone = recursion_from_All (λ (m : Marked). m.second ≡ true) ms all in
    kept_edges-none Subtract ms (bundles_of [] ms) (λ b.
    let sum = tally-no_first (is_right_of b) ms alone in
    let net = tally-no_first (is_of b) ms alone in
    directed-none (is_inside Subtract (left_of ms b)) (is_inside Subtract (right_of ms b)) b
    (subtract-no_first (left_of ms b) (left-no_first (is_level b) (sum_of ms b) (net_of ms b) sum net))
    (subtract-no_first (right_of ms b) (right-no_first (is_level b) (sum_of ms b) (net_of ms b) sum net)))
