-- Of a loop with a point some corner is left.
use Rattle.std.proofs.Common.{◌≡◌, ◌≢◌, ◌≤◌, inl, inr, ℤ, pos, ◌<ℤ◌, ◌+ℤ◌, ◌-ℤ◌, ◌*ℤ◌, Bool, true, false, cond, ◌&&◌, List, [], ◌∷◌, ◌++◌, length, int_lt, slice_index_or, arith, refl, sym}
use Rattle.std.specs.Ordering.{int_eq}
use Rattle.std.proofs.lemmas.Int.{ints}
use Rattle.slice_base.specs.declared.points.Pt.{Pt}
use Rattle.std.proofs.lemmas.List.Elements.{All-nil, All-cons, All-append}
use Rattle.chain_core.specs.declared.chains.Chains.{Chains}
use Rattle.slice_base.specs.Regions.{HaveAtLeast}
use Rattle.clip_core.specs.Areas.{area_of}
use Rattle.clip_core.specs.Tidying.{is_straight, corner, corners_from, corners_of, tidied, long_ones, tidied_chains}
use Rattle.clip_core.proofs.Signs.{Sign, sign, up, down, still}

-- what it means that p goes straight on
abbrev Cross : Pt → Pt → Pt → Type 0
Cross a p c = (p.x -ℤ a.x) *ℤ (c.y -ℤ p.y) ≡ (p.y -ℤ a.y) *ℤ (c.x -ℤ p.x)

abbrev Dot : Pt → Pt → Pt → Type 0
Dot a p c = pos 0 <ℤ ((p.x -ℤ a.x) *ℤ (c.x -ℤ p.x) +ℤ (p.y -ℤ a.y) *ℤ (c.y -ℤ p.y))

zero_cross : (p q t : ℤ) → (int_eq (p -ℤ q) (pos 0) && int_lt (pos 0) t) ≡ true → p ≡ q
zero_cross p q t h = grind (arith, ints)

some_dot : (p q t : ℤ) → (int_eq (p -ℤ q) (pos 0) && int_lt (pos 0) t) ≡ true → pos 0 <ℤ t
some_dot p q t h = grind (arith, ints)

cross-is : (a p c : Pt) → is_straight a p c ≡ true → Cross a p c
cross-is a p c h = zero_cross ((p.x -ℤ a.x) *ℤ (c.y -ℤ p.y)) ((p.y -ℤ a.y) *ℤ (c.x -ℤ p.x)) ((p.x -ℤ a.x) *ℤ (c.x -ℤ p.x) +ℤ (p.y -ℤ a.y) *ℤ (c.y -ℤ p.y)) h

dot-is : (a p c : Pt) → is_straight a p c ≡ true → Dot a p c
dot-is a p c h = some_dot ((p.x -ℤ a.x) *ℤ (c.y -ℤ p.y)) ((p.y -ℤ a.y) *ℤ (c.x -ℤ p.x)) ((p.x -ℤ a.x) *ℤ (c.x -ℤ p.x) +ℤ (p.y -ℤ a.y) *ℤ (c.y -ℤ p.y)) h

gone : (b : Bool) (p : Pt) → cond b [] (p ∷ []) ≡ [] → b ≡ true
gone true p h = refl
gone false p h = absurd (cc)

none_first : (xs ys : List Pt) → xs ++ ys ≡ [] → xs ≡ []
none_first [] ys h = refl
none_first (x ∷ xs) ys h = absurd (cc)

none_rest : (xs ys : List Pt) → xs ++ ys ≡ [] → ys ≡ []
none_rest [] ys h = h
none_rest (x ∷ xs) ys h = absurd (cc)

-- where no corner is left each step is related to the next, so the loop goes on from p to its first point
walk : (R : Pt → Pt → Type 0) → ((a p c : Pt) → is_straight a p c ≡ true → R a p → R p c) → ((p q r : Pt) → R p q → R q r → R p r) → (first a p : Pt) (ps : List Pt) → corners_from first a p ps ≡ [] → R a p → R p first
walk R step trans first a p [] h r = step a p first (gone (is_straight a p first) p h) r
walk R step trans first a p (q ∷ qs) h r =
    let s = step a p q (gone (is_straight a p q) p (none_first (corner a p q) (corners_from first p q qs) h)) r in
    trans p q first s (walk R step trans first p q qs (none_rest (corner a p q) (corners_from first p q qs) h) s)

abbrev Left : Pt → Pt → Type 0
Left p q = p.x <ℤ q.x

abbrev Right : Pt → Pt → Type 0
Right p q = q.x <ℤ p.x

abbrev Below : Pt → Pt → Type 0
Below p q = p.y <ℤ q.y

abbrev Above : Pt → Pt → Type 0
Above p q = q.y <ℤ p.y

grows : (a b : ℤ) → a <ℤ b → pos 0 <ℤ (b -ℤ a)
grows a b h = omega (arith, ints, h)

grew : (a b : ℤ) → pos 0 <ℤ (b -ℤ a) → a <ℤ b
grew a b h = omega (arith, ints, h)

shrinks : (a b : ℤ) → b <ℤ a → (b -ℤ a) <ℤ pos 0
shrinks a b h = omega (arith, ints, h)

shrank : (a b : ℤ) → (b -ℤ a) <ℤ pos 0 → b <ℤ a
shrank a b h = omega (arith, ints, h)

later : (a b c : ℤ) → a <ℤ b → b <ℤ c → a <ℤ c
later a b c g h = omega (arith, ints, g, h)

itself : (a : ℤ) → a <ℤ a → ⊥
itself a h = omega (arith, ints, h)

turned : (r s : ℤ) → pos 0 <ℤ (r +ℤ s) → pos 0 <ℤ (s +ℤ r)
turned r s h = omega (arith, ints, h)

left-step : (a p c : Pt) → is_straight a p c ≡ true → Left a p → Left p c
left-step a p c h r = grew p.x c.x (up (p.x -ℤ a.x) (p.y -ℤ a.y) (c.x -ℤ p.x) (c.y -ℤ p.y) (cross-is a p c h) (dot-is a p c h) (grows a.x p.x r))

right-step : (a p c : Pt) → is_straight a p c ≡ true → Right a p → Right p c
right-step a p c h r = shrank p.x c.x (down (p.x -ℤ a.x) (p.y -ℤ a.y) (c.x -ℤ p.x) (c.y -ℤ p.y) (cross-is a p c h) (dot-is a p c h) (shrinks a.x p.x r))

dot-turned : (a p c : Pt) → is_straight a p c ≡ true → pos 0 <ℤ ((p.y -ℤ a.y) *ℤ (c.y -ℤ p.y) +ℤ (p.x -ℤ a.x) *ℤ (c.x -ℤ p.x))
dot-turned a p c h = turned ((p.x -ℤ a.x) *ℤ (c.x -ℤ p.x)) ((p.y -ℤ a.y) *ℤ (c.y -ℤ p.y)) (dot-is a p c h)

below-step : (a p c : Pt) → is_straight a p c ≡ true → Below a p → Below p c
below-step a p c h r = grew p.y c.y (up (p.y -ℤ a.y) (p.x -ℤ a.x) (c.y -ℤ p.y) (c.x -ℤ p.x) (sym (cross-is a p c h)) (dot-turned a p c h) (grows a.y p.y r))

above-step : (a p c : Pt) → is_straight a p c ≡ true → Above a p → Above p c
above-step a p c h r = shrank p.y c.y (down (p.y -ℤ a.y) (p.x -ℤ a.x) (c.y -ℤ p.y) (c.x -ℤ p.x) (sym (cross-is a p c h)) (dot-turned a p c h) (shrinks a.y p.y r))

-- the next point round the loop
abbrev next_of : Pt → List Pt → Pt
next_of first [] = first
next_of first (q ∷ qs) = q

first-straight : (first a p : Pt) (ps : List Pt) → corners_from first a p ps ≡ [] → is_straight a p (next_of first ps) ≡ true
first-straight first a p [] h = gone (is_straight a p first) p h
first-straight first a p (q ∷ qs) h = gone (is_straight a p q) p (none_first (corner a p q) (corners_from first p q qs) h)

none_left : (a p : Pt) (ps : List Pt) → Sign (p.x -ℤ a.x) → Sign (p.y -ℤ a.y) → corners_from p a p ps ≡ [] → ⊥
none_left a p ps (inl x) sy h = itself p.x (walk Right right-step (λ s q r f g. later r.x q.x s.x g f) p a p ps h (shrank a.x p.x x))
none_left a p ps (inr (inr x)) sy h = itself p.x (walk Left left-step (λ s q r f g. later s.x q.x r.x f g) p a p ps h (grew a.x p.x x))
none_left a p ps (inr (inl x)) (inl y) h = itself p.y (walk Above above-step (λ s q r f g. later r.y q.y s.y g f) p a p ps h (shrank a.y p.y y))
none_left a p ps (inr (inl x)) (inr (inr y)) h = itself p.y (walk Below below-step (λ s q r f g. later s.y q.y r.y f g) p a p ps h (grew a.y p.y y))
none_left a p ps (inr (inl x)) (inr (inl y)) h =
    let n = next_of p ps in
    still (p.x -ℤ a.x) (p.y -ℤ a.y) (n.x -ℤ p.x) (n.y -ℤ p.y) (dot-is a p n (first-straight p a p ps h)) x y

pub corners-some : (p : Pt) (ps : List Pt) → corners_of (p ∷ ps) ≢ []
corners-some p ps h =
    let a = slice_index_or (p ∷ ps) (length ps) p in
    none_left a p ps (sign (p.x -ℤ a.x)) (sign (p.y -ℤ a.y)) h

one : (xs : List Pt) → xs ≢ [] → 1 ≤ length xs
one [] h = absurd (h refl)
one (x ∷ xs) h = omega arith

some_if : (t : Bool) (l : List Pt) (ls : List (List Pt)) → int_eq (area_of l) (pos 0) ≡ t → HaveAtLeast 1 ls → HaveAtLeast 1 (cond t ls (corners_of l ∷ ls))
some_if true l ls e h = h
some_if false [] ls e h = absurd (cc)
some_if false (p ∷ ps) ls e h = All-cons (λ (xs : List Pt). 1 ≤ length xs) (corners_of (p ∷ ps)) ls (one (corners_of (p ∷ ps)) (corners-some p ps)) h

tidied-some : (ls : List (List Pt)) → HaveAtLeast 1 (tidied ls)
tidied-some [] = All-nil (λ (xs : List Pt). 1 ≤ length xs)
tidied-some (l ∷ ls) = some_if (int_eq (area_of l) (pos 0)) l (tidied ls) refl (tidied-some ls)

-- each loop that comes out has a point
pub tidied_chains-some : (chains : Chains) → HaveAtLeast 1 (tidied_chains chains)
tidied_chains-some chains = All-append (λ (xs : List Pt). 1 ≤ length xs) (tidied chains.closed) (tidied (long_ones chains.loose)) (tidied-some chains.closed) (tidied-some (long_ones chains.loose))
