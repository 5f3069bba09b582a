-- What lies in no square near a point is far away.
use Rattle.std.proofs.Common.{◌≡◌, ◌<◌, ◌≤◌, ◌+◌, ◌-◌, ◌*◌, ◌/◌, ◌%◌, ◌^◌, ℕ, suc, ℤ, pos, negsuc, ◌+ℤ◌, ◌-ℤ◌, Bool, true, false, List, length, get_or, Option, Some, None, ◌⊎◌, inl, inr, refl, sym, ap, ◌∙◌, subst, arith}
use Rattle.std.specs.Prelude.{nat_le}
use Rattle.std.specs.Int.RustNames.{unsigned_abs}
use Rattle.std.proofs.lemmas.Int.{ints}
use Rattle.std.proofs.lemmas.Nat.{mul-le}
use Rattle.std.proofs.lemmas.Bool.Decides.{nat_tests}
use Rattle.std.proofs.Math.Nat.{div-mul-le_self}
use Rattle.std.proofs.lemmas.Nat.{div_below}
use Rattle.slice_base.specs.declared.points.Pt.{Pt}
use Rattle.slice_base.specs.Plane.{gap_of, square_of}
use Rattle.path_order.specs.declared.starts.Start.{Start}
use Rattle.path_order.specs.declared.choices.Choice.{Choice}
use Rattle.path_order.specs.Inner.Remaining.{no_start, nearest_left}
use Rattle.path_order.specs.Order.{choice_from, is_before}
use Rattle.path_order.specs.Inner.Squares.{lifted, strip_of, IsFound, Precedes, Beats, IsNear, is_close}
use Rattle.path_order.proofs.Nearest.{further-not_before, least-is}

within_strip : (n side : ℕ) → 0 < side → n < suc (n / side) * side
within_strip n side some = by (div_below-not n side some)
  where
    div_below-not : (n side : ℕ) → 0 < side → n % side < side
    div_below-not n side some = omega arith

    by : n % side < side → n < suc (n / side) * side
    by h = omega arith

-- numbers more than so many strips apart are further apart than those are wide
apart : (m n side reach : ℕ) → 0 < side → m / side + reach < n / side → reach * side < n - m
apart m n side reach some lt =
    let a = within_strip m side some in
    let b = div-mul-le_self n side in
    let c : (suc (m / side) + reach) * side ≤ n / side * side = mul-le (suc (m / side) + reach) side (n / side) side (omega arith) (omega arith) in
    let d : (suc (m / side) + reach) * side ≡ suc (m / side) * side + reach * side = omega arith in
    omega arith

lifted-gap : (x y : ℤ) → lifted y - lifted x ≤ gap_of x y
lifted-gap x y = omega (arith, ints)

lifted-gap_back : (x y : ℤ) → lifted x - lifted y ≤ gap_of x y
lifted-gap_back x y = omega (arith, ints)

far_along : (x y : ℤ) (side reach : ℕ) → 0 < side → strip_of side x + reach < strip_of side y → reach * side < gap_of x y
far_along x y side reach some lt =
    let a = apart (lifted x) (lifted y) side reach some lt in
    let b = lifted-gap x y in
    omega arith

far_back : (x y : ℤ) (side reach : ℕ) → 0 < side → strip_of side y + reach < strip_of side x → reach * side < gap_of x y
far_back x y side reach some lt =
    let a = apart (lifted y) (lifted x) side reach some lt in
    let b = lifted-gap_back x y in
    omega arith

square-lt : (far g : ℕ) → far < g → far * far < g * g
square-lt far g lt = let a = mul-le (suc far) (suc far) g g lt lt in let b : suc far * suc far ≡ far * far + 2 * far + 1 = omega arith in omega arith

wide : (far g h : ℕ) → far < g → far * far < g * g + h * h
wide far g h lt = let a = square-lt far g lt in omega arith

wide_back : (far g h : ℕ) → far < h → far * far < g * g + h * h
wide_back far g h lt = let a = square-lt far h lt in omega arith

-- near, or far away
pub near_or_far : (p q : Pt) (side reach : ℕ) → 0 < side → IsNear side reach p q ⊎ (reach * side * (reach * side) < square_of p q)
near_or_far p q side reach some = by_left (le_or_lt (strip_of side p.x) (strip_of side q.x + reach))
  where
    by_test : (a b : ℕ) (t : Bool) → nat_le a b ≡ t → (a ≤ b) ⊎ (b < a)
    by_test a b true is = inl (grind (arith, nat_tests))
    by_test a b false is = inr (grind (arith, nat_tests))

    le_or_lt : (a b : ℕ) → (a ≤ b) ⊎ (b < a)
    le_or_lt a b = by_test a b (nat_le a b) refl

    by_back : strip_of side p.x ≤ strip_of side q.x + reach → strip_of side q.x ≤ strip_of side p.x + reach → strip_of side p.y ≤ strip_of side q.y + reach → (strip_of side q.y ≤ strip_of side p.y + reach) ⊎ (strip_of side p.y + reach < strip_of side q.y) → IsNear side reach p q ⊎ (reach * side * (reach * side) < square_of p q)
    by_back a b c (inl d) = inl (record { left = a; right = b; front = c; back = d })
    by_back a b c (inr d) = inr (wide_back (reach * side) (gap_of p.x q.x) (gap_of p.y q.y) (far_along p.y q.y side reach some d))

    by_front : strip_of side p.x ≤ strip_of side q.x + reach → strip_of side q.x ≤ strip_of side p.x + reach → (strip_of side p.y ≤ strip_of side q.y + reach) ⊎ (strip_of side q.y + reach < strip_of side p.y) → IsNear side reach p q ⊎ (reach * side * (reach * side) < square_of p q)
    by_front a b (inl c) = by_back a b c (le_or_lt (strip_of side q.y) (strip_of side p.y + reach))
    by_front a b (inr c) = inr (wide_back (reach * side) (gap_of p.x q.x) (gap_of p.y q.y) (far_back p.y q.y side reach some c))

    by_right : strip_of side p.x ≤ strip_of side q.x + reach → (strip_of side q.x ≤ strip_of side p.x + reach) ⊎ (strip_of side p.x + reach < strip_of side q.x) → IsNear side reach p q ⊎ (reach * side * (reach * side) < square_of p q)
    by_right a (inl b) = by_front a b (le_or_lt (strip_of side p.y) (strip_of side q.y + reach))
    by_right a (inr b) = inr (wide (reach * side) (gap_of p.x q.x) (gap_of p.y q.y) (far_along p.x q.x side reach some b))

    by_left : (strip_of side p.x ≤ strip_of side q.x + reach) ⊎ (strip_of side q.x + reach < strip_of side p.x) → IsNear side reach p q ⊎ (reach * side * (reach * side) < square_of p q)
    by_left (inl a) = by_right a (le_or_lt (strip_of side q.x) (strip_of side p.x + reach))
    by_left (inr a) = inr (wide (reach * side) (gap_of p.x q.x) (gap_of p.y q.y) (far_back p.x q.x side reach some a))

le-close : (n m : ℕ) → nat_le n m ≡ true → n ≤ m
le-close n m h = grind (arith, nat_tests)

far_precedes : (at : Pt) (best : Option Choice) (s : Start) (far : ℕ) → is_close best far ≡ true → far * far < square_of at s.at → Precedes at best s
far_precedes at None s far close lt = absurd (let h : false ≡ true = close in cc)
far_precedes at (Some c) s far close lt =
    let le = le-close c.square (far * far) close in
    further-not_before (choice_from at s) c (omega arith)

one_beaten : (gone : List Bool) (at : Pt) (best : Option Choice) (s : Start) (side reach : ℕ) → is_close best (reach * side) ≡ true → (IsNear side reach at s.at → Beats gone at best s) → IsNear side reach at s.at ⊎ (reach * side * (reach * side) < square_of at s.at) → Beats gone at best s
one_beaten gone at best s side reach close near (inl is) = near is
one_beaten gone at best s side reach close near (inr far) = inr (far_precedes at best s (reach * side) close far)

-- what was found near enough is the nearest of all: nothing outside of the squares that were looked at can be nearer
pub close-is : (gone : List Bool) (at : Pt) (ss : List Start) (best : Option Choice) (side reach : ℕ) → 0 < side → is_close best (reach * side) ≡ true → IsFound gone at ss best → ((k : ℕ) → k < length ss → IsNear side reach at (get_or ss k no_start).at → Beats gone at best (get_or ss k no_start)) → best ≡ nearest_left gone at None ss
close-is gone at ss best side reach some close found near =
    least-is gone at ss best found (λ k below. one_beaten gone at best (get_or ss k no_start) side reach close (near k below) (near_or_far at (get_or ss k no_start).at side reach some))
