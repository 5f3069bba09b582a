-- Midpoints that an edge has wholly on one side.
use Rattle.std.proofs.Common.{◌≡◌, inl, inr, ℤ, pos, ◌+ℤ◌, ◌-ℤ◌, ◌*ℤ◌, ◌≤ℤ◌, ◌<ℤ◌, Bool, true, false, cond, ◌&&◌, int_lt, ◌≤◌, arith, refl, sym, ap, ◌∙◌, subst}
use Rattle.std.specs.Prelude.{int_le, ◌^◌, unsigned_abs}
use Rattle.std.proofs.lemmas.Int.{ints}
use Rattle.std.proofs.lemmas.Bool.{and_parts}
use Rattle.clip_core.specs.declared.bundles.Bundle.{Bundle}
use Rattle.clip_core.specs.declared.windings.Windings.{Windings}
use Rattle.clip_core.specs.declared.rays.Ray.{Ray}
use Rattle.clip_core.specs.Windings.{none, plus, reaches, stands_right}
use Rattle.clip_core.specs.Inner.Rays.{twice_across, ray_with}
use Rattle.clip_core.specs.Inner.Slopes.{IsSlope}
use Rattle.clip_core.specs.Inner.Raises.{lifted}
use Rattle.slice_base.proofs.Rings.{diff_of, diff-eq, diff-add, diff-sub, diff-mul}
use Rattle.clip_core.proofs.Signs.{Sign, sign, pp, pn, nn, np, z*, *z}
use Rattle.clip_core.proofs.Tallies.{plus_assoc}
use Rattle.clip_core.proofs.Shares.{ray-same}

-- the two cross products as one
turn-sum : (dx dy a c x z : ℤ) → ((dx *ℤ a) -ℤ (dy *ℤ x)) +ℤ ((dx *ℤ c) -ℤ (dy *ℤ z)) ≡ (dx *ℤ (a +ℤ c)) -ℤ (dy *ℤ (x +ℤ z))
turn-sum dx dy a c x z =
    let p = diff_of dx in
    let q = diff_of dy in
    let r = diff_of a in
    let s = diff_of c in
    let t = diff_of x in
    let u = diff_of z in
    rw (p.is, q.is, r.is, s.is, t.is, u.is) (simp (diff-add, diff-mul, diff-sub) (diff-eq _ _ _ _ (omega arith)))

from-sum : (p q l : ℤ) → (p +ℤ q) -ℤ (l +ℤ l) ≡ (p -ℤ l) +ℤ (q -ℤ l)
from-sum p q l = omega (arith, ints)

twice-way : (h l : ℤ) → (h +ℤ h) -ℤ (l +ℤ l) ≡ (h -ℤ l) +ℤ (h -ℤ l)
twice-way h l = omega (arith, ints)

-- the turn with twice the way of the edge
twice-turn : (dx dy a x : ℤ) → ((dx +ℤ dx) *ℤ a) -ℤ ((dy +ℤ dy) *ℤ x) ≡ ((dx *ℤ a) -ℤ (dy *ℤ x)) +ℤ ((dx *ℤ a) -ℤ (dy *ℤ x))
twice-turn dx dy a x =
    let p = diff_of dx in
    let q = diff_of dy in
    let r = diff_of a in
    let t = diff_of x in
    rw (p.is, q.is, r.is, t.is) (simp (diff-add, diff-mul, diff-sub) (diff-eq _ _ _ _ (omega arith)))

sign-is : (p q t : ℤ) → p -ℤ q ≡ t +ℤ t → int_lt q p ≡ int_lt (pos 0) t
sign-is p q t h = grind (arith, ints)

up-low : (low at : ℤ) → int_le (pos 0) (at -ℤ low) ≡ int_le low at
up-low low at = grind (arith, ints)

up-high : (low at high : ℤ) → int_lt (at -ℤ low) (high -ℤ low) ≡ int_lt at high
up-high low at high = grind (arith, ints)

reach-is : (f b : Bundle) (a up : ℤ) → a ≡ (b.low.y +ℤ b.high.y) -ℤ (f.low.y +ℤ f.low.y) → up ≡ (f.high.y +ℤ f.high.y) -ℤ (f.low.y +ℤ f.low.y) → (int_le (pos 0) a && int_lt a up) ≡ reaches f b
reach-is f b a up ia iu =
    (λ i. int_le (pos 0) (ia i) && int_lt (ia i) (iu i))
    ∙ (λ i. up-low (f.low.y +ℤ f.low.y) (b.low.y +ℤ b.high.y) i && up-high (f.low.y +ℤ f.low.y) (b.low.y +ℤ b.high.y) (f.high.y +ℤ f.high.y) i)

turn-is : (f b : Bundle) (p q across a up x : ℤ) → p ≡ across *ℤ a → q ≡ up *ℤ x → across ≡ (f.high.x +ℤ f.high.x) -ℤ (f.low.x +ℤ f.low.x) → up ≡ (f.high.y +ℤ f.high.y) -ℤ (f.low.y +ℤ f.low.y) → a ≡ (b.low.y +ℤ b.high.y) -ℤ (f.low.y +ℤ f.low.y) → x ≡ (b.low.x +ℤ b.high.x) -ℤ (f.low.x +ℤ f.low.x)
    → int_lt q p ≡ stands_right f b
turn-is f b p q across a up x ip iq iacross iup ia ix =
    let dx = f.high.x -ℤ f.low.x in
    let dy = f.high.y -ℤ f.low.y in
    let va = (b.low.y -ℤ f.low.y) +ℤ (b.high.y -ℤ f.low.y) in
    let vx = (b.low.x -ℤ f.low.x) +ℤ (b.high.x -ℤ f.low.x) in
    let eacross : across ≡ dx +ℤ dx = iacross ∙ twice-way f.high.x f.low.x in
    let eup : up ≡ dy +ℤ dy = iup ∙ twice-way f.high.y f.low.y in
    let ea : a ≡ va = ia ∙ from-sum b.low.y b.high.y f.low.y in
    let ex : x ≡ vx = ix ∙ from-sum b.low.x b.high.x f.low.x in
    let twice : p -ℤ q ≡ ((dx *ℤ va) -ℤ (dy *ℤ vx)) +ℤ ((dx *ℤ va) -ℤ (dy *ℤ vx)) =
    (λ i. ip i -ℤ iq i) ∙ ((λ i. (eacross i *ℤ ea i) -ℤ (eup i *ℤ ex i)) ∙ twice-turn dx dy va vx) in
    sign-is p q ((dx *ℤ va) -ℤ (dy *ℤ vx)) twice
    ∙ ap (λ (t : ℤ). int_lt (pos 0) t) (sym (turn-sum dx dy (b.low.y -ℤ f.low.y) (b.high.y -ℤ f.low.y) (b.low.x -ℤ f.low.x) (b.high.x -ℤ f.low.x)))

-- a trial by its parts
pub meets-is : (f b : Bundle) (within less : Bool) (p q across a up x : ℤ) → within ≡ (int_le (pos 0) a && int_lt a up) → less ≡ int_lt q p → p ≡ across *ℤ a → q ≡ up *ℤ x → across ≡ (f.high.x +ℤ f.high.x) -ℤ (f.low.x +ℤ f.low.x) → up ≡ (f.high.y +ℤ f.high.y) -ℤ (f.low.y +ℤ f.low.y) → a ≡ (b.low.y +ℤ b.high.y) -ℤ (f.low.y +ℤ f.low.y) → x ≡ (b.low.x +ℤ b.high.x) -ℤ (f.low.x +ℤ f.low.x)
    → (within && less) ≡ (reaches f b && stands_right f b)
meets-is f b within less p q across a up x iw il ip iq iacross iup ia ix =
    let e : within ≡ reaches f b = iw ∙ reach-is f b a up ia iup in
    let g : less ≡ stands_right f b = il ∙ turn-is f b p q across a up x ip iq iacross iup ia ix in
    λ i. e i && g i

-- a slope by its parts
pub slope-is : (ends : Bundle) (low high begin end across up : ℤ) → low ≡ ends.low.y +ℤ ends.low.y → high ≡ ends.high.y +ℤ ends.high.y → begin ≡ ends.low.x +ℤ ends.low.x → end ≡ ends.high.x +ℤ ends.high.x
    → across ≡ end -ℤ begin → up ≡ high -ℤ low → unsigned_abs low ≤ 2 ^ 32 → unsigned_abs begin ≤ 2 ^ 32 → unsigned_abs across ≤ 2 ^ 33 → unsigned_abs up ≤ 2 ^ 33
    → IsSlope (record { ends = ends; low = low; begin = begin; across = across; up = up })
slope-is ends low high begin end across up e0 e1 e2 e3 e6 e7 s0 s2 s6 s7 = record {
  low = e0;
  begin = e2;
  across = e6 ∙ (λ i. e3 i -ℤ e2 i);
  up = e7 ∙ (λ i. e1 i -ℤ e0 i);
  low_small = s0;
  begin_small = s2;
  across_small = s6;
  up_small = s7;
}

-- the same, from the other end
turn-split : (dx dy a x : ℤ) → (dx *ℤ a) -ℤ (dy *ℤ x) ≡ (dx *ℤ (a -ℤ (dy +ℤ dy))) +ℤ (dy *ℤ ((dx +ℤ dx) -ℤ x))
turn-split dx dy a x =
    let p = diff_of dx in
    let q = diff_of dy in
    let r = diff_of a in
    let t = diff_of x in
    rw (p.is, q.is, r.is, t.is) (simp (diff-add, diff-mul, diff-sub) (diff-eq _ _ _ _ (omega arith)))

both-up : (p q : ℤ) → pos 0 <ℤ p → pos 0 <ℤ q → pos 0 <ℤ (p +ℤ q)
both-up p q f g = omega (arith, ints)

both-down : (p q : ℤ) → p <ℤ pos 0 → q <ℤ pos 0 → (p +ℤ q) <ℤ pos 0
both-down p q f g = omega (arith, ints)

more-up : (p q : ℤ) → pos 0 ≤ℤ p → q <ℤ pos 0 → pos 0 <ℤ (p -ℤ q)
more-up p q f g = omega (arith, ints)

more-down : (p q : ℤ) → p ≤ℤ pos 0 → pos 0 <ℤ q → (p -ℤ q) <ℤ pos 0
more-down p q f g = omega (arith, ints)

is-up : (p : ℤ) → pos 0 <ℤ p → pos 0 ≤ℤ p
is-up p h = omega (arith, ints)

is-down : (p : ℤ) → p <ℤ pos 0 → p ≤ℤ pos 0
is-down p h = omega (arith, ints)

none-up : (p : ℤ) → p ≡ pos 0 → pos 0 ≤ℤ p
none-up p h = omega (arith, ints)

none-down : (p : ℤ) → p ≡ pos 0 → p ≤ℤ pos 0
none-down p h = omega (arith, ints)

never-under : (a : ℤ) → pos 0 ≤ℤ a → a <ℤ pos 0 → ⊥
never-under a h g = omega (arith, ints)

times-up : (d a : ℤ) → pos 0 <ℤ d → pos 0 ≤ℤ a → Sign a → pos 0 ≤ℤ (d *ℤ a)
times-up d a h up (inl g) = absurd (never-under a up g)
times-up d a h up (inr (inl g)) = none-up (d *ℤ a) (*z d a g)
times-up d a h up (inr (inr g)) = is-up (d *ℤ a) (pp d a h g)

times-down : (d a : ℤ) → d <ℤ pos 0 → pos 0 ≤ℤ a → Sign a → (d *ℤ a) ≤ℤ pos 0
times-down d a h up (inl g) = absurd (never-under a up g)
times-down d a h up (inr (inl g)) = none-down (d *ℤ a) (*z d a g)
times-down d a h up (inr (inr g)) = is-down (d *ℤ a) (np d a h g)

tall : (dy a : ℤ) → pos 0 ≤ℤ a → a <ℤ (dy +ℤ dy) → pos 0 <ℤ dy
tall dy a up lt = omega (arith, ints)

less-down : (a b : ℤ) → a <ℤ b → (a -ℤ b) <ℤ pos 0
less-down a b h = omega (arith, ints)

less-up : (a b : ℤ) → b <ℤ a → pos 0 <ℤ (a -ℤ b)
less-up a b h = omega (arith, ints)

left-by : (dx dy a x : ℤ) → pos 0 ≤ℤ a → a <ℤ (dy +ℤ dy) → x <ℤ pos 0 → x <ℤ (dx +ℤ dx) → Sign dx → pos 0 <ℤ ((dx *ℤ a) -ℤ (dy *ℤ x))
left-by dx dy a x up lt left far (inl h) =
    subst (λ (t : ℤ). pos 0 <ℤ t) (sym (turn-split dx dy a x))
    (both-up (dx *ℤ (a -ℤ (dy +ℤ dy))) (dy *ℤ ((dx +ℤ dx) -ℤ x)) (nn dx (a -ℤ (dy +ℤ dy)) h (less-down a (dy +ℤ dy) lt)) (pp dy ((dx +ℤ dx) -ℤ x) (tall dy a up lt) (less-up (dx +ℤ dx) x far)))
left-by dx dy a x up lt left far (inr (inl h)) = more-up (dx *ℤ a) (dy *ℤ x) (none-up (dx *ℤ a) (z* dx a h)) (pn dy x (tall dy a up lt) left)
left-by dx dy a x up lt left far (inr (inr h)) = more-up (dx *ℤ a) (dy *ℤ x) (times-up dx a h up (sign a)) (pn dy x (tall dy a up lt) left)

right-by : (dx dy a x : ℤ) → pos 0 ≤ℤ a → a <ℤ (dy +ℤ dy) → pos 0 <ℤ x → (dx +ℤ dx) <ℤ x → Sign dx → ((dx *ℤ a) -ℤ (dy *ℤ x)) <ℤ pos 0
right-by dx dy a x up lt right far (inr (inr h)) =
    subst (λ (t : ℤ). t <ℤ pos 0) (sym (turn-split dx dy a x))
    (both-down (dx *ℤ (a -ℤ (dy +ℤ dy))) (dy *ℤ ((dx +ℤ dx) -ℤ x)) (pn dx (a -ℤ (dy +ℤ dy)) h (less-down a (dy +ℤ dy) lt)) (pn dy ((dx +ℤ dx) -ℤ x) (tall dy a up lt) (less-down (dx +ℤ dx) x far)))
right-by dx dy a x up lt right far (inr (inl h)) = more-down (dx *ℤ a) (dy *ℤ x) (none-down (dx *ℤ a) (z* dx a h)) (pp dy x (tall dy a up lt) right)
right-by dx dy a x up lt right far (inl h) = more-down (dx *ℤ a) (dy *ℤ x) (times-down dx a h up (sign a)) (pp dy x (tall dy a up lt) right)

-- from the low end at l: p and q are the ends of the bundle

from-low : (l p q : ℤ) → (l +ℤ l) ≤ℤ (p +ℤ q) → pos 0 ≤ℤ ((p -ℤ l) +ℤ (q -ℤ l))
from-low l p q h = omega (arith, ints)

to-high : (l h p q : ℤ) → (p +ℤ q) <ℤ (h +ℤ h) → ((p -ℤ l) +ℤ (q -ℤ l)) <ℤ ((h -ℤ l) +ℤ (h -ℤ l))
to-high l h p q g = omega (arith, ints)

left-of : (l p q : ℤ) → (p +ℤ q) <ℤ (l +ℤ l) → ((p -ℤ l) +ℤ (q -ℤ l)) <ℤ pos 0
left-of l p q h = omega (arith, ints)

right-of : (l p q : ℤ) → (l +ℤ l) <ℤ (p +ℤ q) → pos 0 <ℤ ((p -ℤ l) +ℤ (q -ℤ l))
right-of l p q h = omega (arith, ints)

past-high : (l h p q : ℤ) → (h +ℤ h) <ℤ (p +ℤ q) → ((h -ℤ l) +ℤ (h -ℤ l)) <ℤ ((p -ℤ l) +ℤ (q -ℤ l))
past-high l h p q g = omega (arith, ints)

-- twice the cross product of the edge and the way from its low end to the midpoint
abbrev Turn : (lx ly hx hy px py qx qy : ℤ) → ℤ
Turn lx ly hx hy px py qx qy = ((hx -ℤ lx) *ℤ (py -ℤ ly) -ℤ (hy -ℤ ly) *ℤ (px -ℤ lx)) +ℤ ((hx -ℤ lx) *ℤ (qy -ℤ ly) -ℤ (hy -ℤ ly) *ℤ (qx -ℤ lx))

turns-left : (lx ly hx hy px py qx qy : ℤ) → (ly +ℤ ly) ≤ℤ (py +ℤ qy) → (py +ℤ qy) <ℤ (hy +ℤ hy) → (px +ℤ qx) <ℤ (lx +ℤ lx) → (px +ℤ qx) <ℤ (hx +ℤ hx) → pos 0 <ℤ Turn lx ly hx hy px py qx qy
turns-left lx ly hx hy px py qx qy up lt left far =
    let dx = hx -ℤ lx in
    let dy = hy -ℤ ly in
    subst (λ (t : ℤ). pos 0 <ℤ t) (sym (turn-sum dx dy (py -ℤ ly) (qy -ℤ ly) (px -ℤ lx) (qx -ℤ lx)))
    (left-by dx dy ((py -ℤ ly) +ℤ (qy -ℤ ly)) ((px -ℤ lx) +ℤ (qx -ℤ lx)) (from-low ly py qy up) (to-high ly hy py qy lt) (left-of lx px qx left) (to-high lx hx px qx far) (sign dx))

turns-right : (lx ly hx hy px py qx qy : ℤ) → (ly +ℤ ly) ≤ℤ (py +ℤ qy) → (py +ℤ qy) <ℤ (hy +ℤ hy) → (lx +ℤ lx) <ℤ (px +ℤ qx) → (hx +ℤ hx) <ℤ (px +ℤ qx) → Turn lx ly hx hy px py qx qy <ℤ pos 0
turns-right lx ly hx hy px py qx qy up lt right far =
    let dx = hx -ℤ lx in
    let dy = hy -ℤ ly in
    subst (λ (t : ℤ). t <ℤ pos 0) (sym (turn-sum dx dy (py -ℤ ly) (qy -ℤ ly) (px -ℤ lx) (qx -ℤ lx)))
    (right-by dx dy ((py -ℤ ly) +ℤ (qy -ℤ ly)) ((px -ℤ lx) +ℤ (qx -ℤ lx)) (from-low ly py qy up) (to-high ly hy py qy lt) (right-of lx px qx right) (past-high lx hx px qx far) (sign dx))

-- tests and what they say

lt-is : (a b : ℤ) → int_lt a b ≡ true → a <ℤ b
lt-is a b h = grind (arith, ints)

le-is : (a b : ℤ) → int_le a b ≡ true → a ≤ℤ b
le-is a b h = grind (arith, ints)

is-lt : (a b : ℤ) → a <ℤ b → int_lt a b ≡ true
is-lt a b h = grind (arith, ints)

is-le : (a b : ℤ) → a ≤ℤ b → int_le a b ≡ true
is-le a b h = grind (arith, ints)

not-up : (t : ℤ) → t <ℤ pos 0 → int_lt (pos 0) t ≡ false
not-up t h = grind (arith, ints)

le-lt : (a b c : ℤ) → a ≤ℤ b → b <ℤ c → a <ℤ c
le-lt a b c f g = omega (arith, ints)

lt-le : (a b c : ℤ) → a <ℤ b → b ≤ℤ c → a <ℤ c
lt-le a b c f g = omega (arith, ints)

le-le : (a b c : ℤ) → a ≤ℤ b → b ≤ℤ c → a ≤ℤ c
le-le a b c f g = omega (arith, ints)

both-true : (a b : Bool) → a ≡ true → b ≡ true → (a && b) ≡ true
both-true a b e f = ap (λ t. t && b) e ∙ f

not-both : (a b : Bool) → (a ≡ true → b ≡ false) → (a && b) ≡ false
not-both true b h = h refl
not-both false b h = refl

-- the midpoint stands to the right of both ends

reaches-parts : (f b : Bundle) → reaches f b ≡ true → ((f.low.y +ℤ f.low.y) ≤ℤ (b.low.y +ℤ b.high.y)) × ((b.low.y +ℤ b.high.y) <ℤ (f.high.y +ℤ f.high.y))
reaches-parts f b is =
    let p = and_parts (int_le (f.low.y +ℤ f.low.y) (b.low.y +ℤ b.high.y)) (int_lt (b.low.y +ℤ b.high.y) (f.high.y +ℤ f.high.y)) is in
    (le-is (f.low.y +ℤ f.low.y) (b.low.y +ℤ b.high.y) p.0, lt-is (b.low.y +ℤ b.high.y) (f.high.y +ℤ f.high.y) p.1)

right-meets : (f b : Bundle) → (f.low.x +ℤ f.low.x) <ℤ twice_across b → (f.high.x +ℤ f.high.x) <ℤ twice_across b → (reaches f b && stands_right f b) ≡ false
right-meets f b right far =
    not-both (reaches f b) (stands_right f b) (λ up.
    let q = reaches-parts f b up in
    not-up (Turn f.low.x f.low.y f.high.x f.high.y b.low.x b.low.y b.high.x b.high.y)
    (turns-right f.low.x f.low.y f.high.x f.high.y b.low.x b.low.y b.high.x b.high.y q.0 q.1 right far))

pub missed-ray : (f : Bundle) (w : Windings) (r : Ray) → (f.low.x +ℤ f.low.x) <ℤ twice_across r.bundle → (f.high.x +ℤ f.high.x) <ℤ twice_across r.bundle → r ≡ ray_with f w r
missed-ray f w r right far = ray-same f w r (right-meets f r.bundle right far)

-- it stands to the left of both

left-meets : (f b : Bundle) → reaches f b ≡ true → twice_across b <ℤ (f.low.x +ℤ f.low.x) → twice_across b <ℤ (f.high.x +ℤ f.high.x) → (reaches f b && stands_right f b) ≡ true
left-meets f b up near far =
    let q = reaches-parts f b up in
    both-true (reaches f b) (stands_right f b) up
    (is-lt (pos 0) (Turn f.low.x f.low.y f.high.x f.high.y b.low.x b.low.y b.high.x b.high.y)
    (turns-left f.low.x f.low.y f.high.x f.high.y b.low.x b.low.y b.high.x b.high.y q.0 q.1 near far))

met : (w s : Windings) (t : Bool) → t ≡ true → plus w s ≡ plus w (cond t s none)
met w s true h = refl
met w s false h = absurd (cc)

pub taken-ray : (f : Bundle) (w by : Windings) (r : Ray) → reaches f r.bundle ≡ true → twice_across r.bundle <ℤ (f.low.x +ℤ f.low.x) → twice_across r.bundle <ℤ (f.high.x +ℤ f.high.x) → lifted (plus by w) r ≡ ray_with f w (lifted by r)
taken-ray f w by r up near far =
    let q = sym (plus_assoc r.sum by w) ∙ met (plus r.sum by) w (reaches f r.bundle && stands_right f r.bundle) (left-meets f r.bundle up near far) in
    λ i. record { key = r.key; bundle = r.bundle; index = r.index; sum = q i }
