-- Places of one line that rise, and are the same ones, are the same list.
use Rattle.std.proofs.Common.{◌≡◌, ◌≤◌, ◌<◌, ◌+◌, ◌⊎◌, inl, inr, ℕ, suc, zero, Bool, true, false, cond, ℤ, pos, ◌+ℤ◌, List, [], ◌∷◌, length, get_or, refl, sym, ap, ◌∙◌, subst, arith}
use Rattle.std.specs.Prelude.{int_lt, nat_lt}
use Rattle.std.specs.Int.RustNames.{unsigned_abs}
use Rattle.std.specs.List.{All, sum_by}
use Rattle.std.specs.List.Sorted.{IsNonDecreasingBy, IsPermutation}
use Rattle.std.proofs.lemmas.Int.{ints}
use Rattle.std.proofs.lemmas.Bool.{cases_lt}
use Rattle.std.proofs.lemmas.Bool.Decides.{nat_tests}
use Rattle.std.proofs.lemmas.List.Elements.{All-nil, All-cons, All-head, All-tail, All-weaker}
use Rattle.std.proofs.lemmas.List.Sums.{sum_by-cons}
use Rattle.std.proofs.lemmas.List.Sorted.{sum_by-IsPermutation, All-permutation}
use Rattle.infill_lines.specs.declared.angles.Place.{Place}
use Rattle.infill_lines.specs.Fill.{is_before, placed, in_order}
use Rattle.infill_lines.specs.Inner.Places.{IsPlace}
use Rattle.infill_lines.specs.Inner.Sorting.{number_of, IsOnLine}
use Rattle.infill_lines.proofs.Crossed.{placed-all, order-all}

-- none lies before one that stands before it
abbrev Rising : List Place → Type 0
Rising [] = Unit {0}
Rising (p ∷ ps) = All (λ q. number_of p ≤ number_of q) ps × Rising ps

rising-from : (ps : List Place) → IsNonDecreasingBy number_of ps → Rising ps
rising-from [] h = tt
rising-from (p ∷ ps) h = (λ k d below. h zero (suc k) d (omega arith) (omega arith), rising-from ps (λ i j d le below. h (suc i) (suc j) d (omega arith) (omega arith)))

-- ---- insertion keeps rising

before-number : (z : ℤ) (p q : Place) → IsOnLine z p → IsOnLine z q → is_before p q ≡ true → number_of p < number_of q
before-number z p q g h is = by p.along q.along g.place.along_in h.place.along_in is
  where
    by : (a b : ℤ) → unsigned_abs a ≤ 3400000 → unsigned_abs b ≤ 3400000 → int_lt a b ≡ true → unsigned_abs (a +ℤ pos 2147483648) < unsigned_abs (b +ℤ pos 2147483648)
    by a b g h is = grind (arith, ints)

behind-number : (z : ℤ) (p q : Place) → IsOnLine z p → IsOnLine z q → is_before p q ≡ false → number_of q ≤ number_of p
behind-number z p q g h is = by p.along q.along g.place.along_in h.place.along_in is
  where
    by : (a b : ℤ) → unsigned_abs a ≤ 3400000 → unsigned_abs b ≤ 3400000 → int_lt a b ≡ false → unsigned_abs (b +ℤ pos 2147483648) ≤ unsigned_abs (a +ℤ pos 2147483648)
    by a b g h is = grind (arith, ints)

through : (a b c : ℕ) → a ≤ b → b ≤ c → a ≤ c
through a b c g h = omega arith

rising-by : (z : ℤ) (p q : Place) (qs : List Place) (b : Bool) → is_before p q ≡ b → IsOnLine z p → IsOnLine z q → Rising (q ∷ qs) → Rising (placed p qs) → Rising (cond b (p ∷ q ∷ qs) (q ∷ placed p qs))
rising-by z p q qs true is g h rising later =
    let lt = before-number z p q g h is in
    let le : number_of p ≤ number_of q = omega arith in
    (All-cons (λ r. number_of p ≤ number_of r) q qs le (All-weaker (λ r. number_of q ≤ number_of r) (λ r. number_of p ≤ number_of r) (λ r k. through (number_of p) (number_of q) (number_of r) le k) qs rising.0), rising)
rising-by z p q qs false is g h rising later = (placed-all (λ r. number_of q ≤ number_of r) p qs (behind-number z p q g h is) rising.0, later)

placed-rising : (z : ℤ) (p : Place) (qs : List Place) → IsOnLine z p → All (IsOnLine z) qs → Rising qs → Rising (placed p qs)
placed-rising z p [] g h rising = (All-nil (λ q. number_of p ≤ number_of q), tt)
placed-rising z p (q ∷ qs) g h rising =
    rising-by z p q qs (is_before p q) refl g (All-head (IsOnLine z) q qs h) rising (placed-rising z p qs g (All-tail (IsOnLine z) q qs h) rising.1)

order-rising : (z : ℤ) (done ps : List Place) → All (IsOnLine z) done → All (IsOnLine z) ps → Rising done → Rising (in_order done ps)
order-rising z done [] g h rising = rising
order-rising z done (p ∷ ps) g h rising =
    let here = All-head (IsOnLine z) p ps h in
    order-rising z (placed p done) ps (placed-all (IsOnLine z) p done here g) (All-tail (IsOnLine z) p ps h) (placed-rising z p done here g rising)

-- ---- insertion keeps sums

sum-if : (f : Place → ℕ) (p q : Place) (qs rest : List Place) (b : Bool) → sum_by f rest ≡ f p + sum_by f qs → sum_by f (cond b (p ∷ q ∷ qs) (q ∷ rest)) ≡ f p + sum_by f (q ∷ qs)
sum-if f p q qs rest true h = sum_by-cons f p (q ∷ qs)
sum-if f p q qs rest false h = omega (arith, sum_by-cons f q rest, sum_by-cons f q qs, h)

placed-sum : (f : Place → ℕ) (p : Place) (qs : List Place) → sum_by f (placed p qs) ≡ f p + sum_by f qs
placed-sum f p [] = sum_by-cons f p []
placed-sum f p (q ∷ qs) = sum-if f p q qs (placed p qs) (is_before p q) (placed-sum f p qs)

order-sum : (f : Place → ℕ) (done ps : List Place) → sum_by f (in_order done ps) ≡ sum_by f done + sum_by f ps
order-sum f done [] = omega arith
order-sum f done (p ∷ ps) = omega (arith, order-sum f (placed p done) ps, placed-sum f p done, sum_by-cons f p ps)

-- ---- one list alone

-- 1 where m is below n
abbrev one_if : ℕ → ℕ → ℕ
one_if n m = cond (nat_lt m n) 1 0

-- 1 for a place that lies before n
abbrev one_below : ℕ → Place → ℕ
one_below n p = one_if n (number_of p)

one-none : (n m : ℕ) → n ≤ m → one_if n m ≡ 0
one-none n m le = grind (arith, nat_tests)

one-some : (n m : ℕ) → m < n → one_if n m ≡ 1
one-some n m lt = grind (arith, nat_tests)

none-below : (n : ℕ) (ps : List Place) → All (λ q. n ≤ number_of q) ps → sum_by (one_below n) ps ≡ 0
none-below n [] h = refl
none-below n (p ∷ ps) h =
    omega (arith, sum_by-cons (one_below n) p ps, one-none n (number_of p) (All-head (λ q. n ≤ number_of q) p ps h), none-below n ps (All-tail (λ q. n ≤ number_of q) p ps h))

-- the first of two lists that rise isn't behind the first of the other, where they have the same
first-le : (p q : Place) (ps qs : List Place) → All (λ r. number_of q ≤ number_of r) qs → ((f : Place → ℕ) → sum_by f (p ∷ ps) ≡ sum_by f (q ∷ qs)) → number_of q ≤ number_of p
first-le p q ps qs rising same = by_order (cases_lt (number_of p) (number_of q))
  where
    by_order : (number_of p < number_of q) ⊎ (number_of q ≤ number_of p) → number_of q ≤ number_of p
    by_order (inr le) = le
    by_order (inl lt) =
        let n = number_of q in
        absurd (omega (arith, same (one_below n), sum_by-cons (one_below n) p ps, sum_by-cons (one_below n) q qs, one-some n (number_of p) lt, one-none n (number_of q) (omega arith), none-below n qs rising))

same-number : (z : ℤ) (p q : Place) → IsOnLine z p → IsOnLine z q → number_of p ≡ number_of q → p ≡ q
same-number z p q g h is =
    let along = by p.along q.along g.place.along_in h.place.along_in is in
    let across = g.here ∙ sym h.here in
    ap (λ (a : ℤ). let r : Place = record { across = a; along = p.along } in r) across
    ∙ ap (λ (a : ℤ). let r : Place = record { across = q.across; along = a } in r) along
  where
    by : (a b : ℤ) → unsigned_abs a ≤ 3400000 → unsigned_abs b ≤ 3400000 → unsigned_abs (a +ℤ pos 2147483648) ≡ unsigned_abs (b +ℤ pos 2147483648) → a ≡ b
    by a b g h is = omega (arith, ints)

rest-same : (p q : Place) (ps qs : List Place) → p ≡ q → ((f : Place → ℕ) → sum_by f (p ∷ ps) ≡ sum_by f (q ∷ qs)) → (f : Place → ℕ) → sum_by f ps ≡ sum_by f qs
rest-same p q ps qs is same f =
    let e : f p ≡ f q = ap f is in
    omega (arith, same f, sum_by-cons f p ps, sum_by-cons f q qs, e)

unique : (z : ℤ) (ps qs : List Place) → All (IsOnLine z) ps → All (IsOnLine z) qs → Rising ps → Rising qs → ((f : Place → ℕ) → sum_by f ps ≡ sum_by f qs) → ps ≡ qs
unique z [] [] g h r s same = refl
unique z [] (q ∷ qs) g h r s same = absurd (omega (arith, same (λ x. 1), sum_by-cons (λ x. 1) q qs))
unique z (p ∷ ps) [] g h r s same = absurd (omega (arith, same (λ x. 1), sum_by-cons (λ x. 1) p ps))
unique z (p ∷ ps) (q ∷ qs) g h r s same =
    let le = first-le p q ps qs s.0 same in
    let ge = first-le q p qs ps r.0 (λ f. sym (same f)) in
    let one = same-number z p q (All-head (IsOnLine z) p ps g) (All-head (IsOnLine z) q qs h) (omega arith) in
    ap (λ (x : Place). x ∷ ps) one
    ∙ ap (λ (xs : List Place). q ∷ xs) (unique z ps qs (All-tail (IsOnLine z) p ps g) (All-tail (IsOnLine z) q qs h) r.1 s.1 (rest-same p q ps qs one same))

-- what was sorted is in order
pub sorted-is : (z : ℤ) (ps sorted : List Place) → All (IsOnLine z) ps → IsNonDecreasingBy number_of sorted → IsPermutation ps sorted → sorted ≡ in_order [] ps
sorted-is z ps sorted on rising same =
    unique z sorted (in_order [] ps) (All-permutation (IsOnLine z) ps sorted same on) (order-all (IsOnLine z) [] ps (All-nil (IsOnLine z)) on)
    (rising-from sorted rising) (order-rising z [] ps (All-nil (IsOnLine z)) on tt)
    (λ f. omega (arith, sum_by-IsPermutation f ps sorted same, order-sum f [] ps))
