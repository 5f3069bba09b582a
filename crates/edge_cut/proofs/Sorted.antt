-- Stops that are sorted, each once, are in their order.
use Rattle.std.proofs.Common.{◌≡◌, Bool, true, false, ◌&&◌, ◌||◌, cond, int_lt, List, [], ◌∷◌, refl, sym, ap, ◌∙◌}
use Rattle.std.specs.declared.cmp.Ordering.{Ordering}
use Rattle.std.specs.declared.cmp.Ordering.TheVariants.{Less, Equal, Greater}
use Rattle.std.specs.Ordering.{int_cmp, int_eq, is_lt, is_eq, eq_by_cmp, ordering_then}
use Rattle.std.specs.Cmp.{IsTotalOrder, int_cmp_total, on_total, then_total, eq_by_cmp_equiv, signed_Decides, first_so, second_so}
use Rattle.std.specs.List.{AllByRecursion, Contains, dedup}
use Rattle.std.specs.List.Sorted.{IsSorted, IsStrictlySortedBy}
use Rattle.std.proofs.lemmas.List.Kept.{IsStrictlySortedBy-dedup, Contains-dedup}
use Rattle.edge_cut.specs.declared.stops.Stop.{Stop}
use Rattle.edge_cut.specs.Stops.{is_before}
use Rattle.edge_cut.specs.Ordered.{IsRising}
use Rattle.edge_cut.specs.Inner.Gathered.{order_of}
use Rattle.edge_cut.proofs.Ordered.{AreAfter, Rises, rises-at}

pub order_of-total : IsTotalOrder order_of
order_of-total = then_total (on_total (λ s. s.along) int_cmp_total) (then_total (on_total (λ s. s.at.x) int_cmp_total) (on_total (λ s. s.at.y) int_cmp_total))

lt-then : (l g : Bool) (o : Ordering) → is_lt (ordering_then (cond l Less (cond g Greater Equal)) o) ≡ (l || (is_eq (cond l Less (cond g Greater Equal)) && is_lt o))
lt-then true g o = refl
lt-then false true o = refl
lt-then false false o = refl

lt-cmp : (l g : Bool) → is_lt (cond l Less (cond g Greater Equal)) ≡ l
lt-cmp true g = refl
lt-cmp false true = refl
lt-cmp false false = refl

-- less is before
less-before : (s t : Stop) → is_lt (order_of s t) ≡ is_before s t
less-before s t =
    let across = ordering_then (int_cmp s.at.x t.at.x) (int_cmp s.at.y t.at.y) in
    let first = int_eq s.along t.along in
    let second = int_eq s.at.x t.at.x in
    lt-then (int_lt s.along t.along) (int_lt t.along s.along) across
    ∙ ap (λ b. int_lt s.along t.along || (first && b))
    (lt-then (int_lt s.at.x t.at.x) (int_lt t.at.x s.at.x) (int_cmp s.at.y t.at.y)
    ∙ ap (λ b. int_lt s.at.x t.at.x || (second && b)) (lt-cmp (int_lt s.at.y t.at.y) (int_lt t.at.y s.at.y)))

before-less : (s t : Stop) → order_of s t ≡ Less → is_before s t ≡ true
before-less s t h = sym (less-before s t) ∙ ap is_lt h

after-sorted : (s : Stop) (ts : List Stop) → AllByRecursion (λ t. order_of s t ≡ Less) ts → AreAfter s ts
after-sorted s [] h = tt
after-sorted s (t ∷ ts) h = (before-less s t h.0, after-sorted s ts h.1)

rises-sorted : (ss : List Stop) → IsStrictlySortedBy order_of ss → Rises ss
unfolding IsStrictlySortedBy
rises-sorted [] h = tt
rises-sorted (s ∷ ss) h = (after-sorted s ss h.0, rises-sorted ss h.1)

pub dedup-rising : (ss : List Stop) → IsSorted order_of ss → IsRising (dedup (eq_by_cmp order_of) ss)
dedup-rising ss sorted i j d lt below =
    rises-at (dedup (eq_by_cmp order_of) ss) i j d lt below
    (rises-sorted (dedup (eq_by_cmp order_of) ss) (IsStrictlySortedBy-dedup order_of-total (λ s t. refl) ss sorted))

eq-then : (a b : Ordering) → is_eq (ordering_then a b) ≡ (is_eq a && is_eq b)
eq-then Less b = refl
eq-then Equal b = refl
eq-then Greater b = refl

same-stop : (s t : Stop) → s.along ≡ t.along → s.at.x ≡ t.at.x → s.at.y ≡ t.at.y → s ≡ t
same-stop s t a x y = λ i. record { along = a i; at = record { x = x i; y = y i } }

pub one-stop : (s t : Stop) → eq_by_cmp order_of s t ≡ true → s ≡ t
one-stop s t h =
    let along = int_cmp s.along t.along in
    let x = int_cmp s.at.x t.at.x in
    let y = int_cmp s.at.y t.at.y in
    let parts : (is_eq along && is_eq (ordering_then x y)) ≡ true = sym (eq-then along (ordering_then x y)) ∙ h in
    let rest : (is_eq x && is_eq y) ≡ true = sym (eq-then x y) ∙ second_so (is_eq along) (is_eq (ordering_then x y)) parts in
    same-stop s t
    ((signed_Decides s.along t.along).0 (first_so (is_eq along) (is_eq (ordering_then x y)) parts))
    ((signed_Decides s.at.x t.at.x).0 (first_so (is_eq x) (is_eq y) rest))
    ((signed_Decides s.at.y t.at.y).0 (second_so (is_eq x) (is_eq y) rest))

pub dedup-kept : (ss : List Stop) (s : Stop) → Contains ss s → Contains (dedup (eq_by_cmp order_of) ss) s
dedup-kept ss s h = Contains-dedup (eq_by_cmp_equiv order_of-total) one-stop ss s h
