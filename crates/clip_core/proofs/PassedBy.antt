-- Strips of heights: a midpoint in a strip below or above those of an edge's ends isn't reached.
use Rattle.std.proofs.Common.{◌≡◌, ◌<ℤ◌, ◌+◌, ◌<◌, ◌≤◌, ◌*◌, ◌/◌, ◌^◌, ℕ, zero, suc, ℤ, pos, ◌≤ℤ◌, ◌+ℤ◌, ◌&&◌, Bool, true, false, int_lt, List, length, get_or, arith, refl, ap}
use Rattle.std.specs.Prelude.{int_le, nat_le, nat_lt}
use Rattle.std.proofs.Math.Nat.{div-mul-le_self, div-zero, pow-le-pow_right}
use Rattle.std.proofs.lemmas.Nat.{le-div, mul-le}
use Rattle.std.proofs.lemmas.Bool.Decides.{nat_tests}
use Rattle.std.proofs.lemmas.Int.{ints}
use Rattle.std.proofs.lemmas.Bool.{false_from_ne_true}
use Rattle.clip_core.specs.declared.bundles.Bundle.{Bundle}
use Rattle.clip_core.specs.declared.windings.Windings.{Windings}
use Rattle.clip_core.specs.declared.rays.Ray.{Ray}
use Rattle.clip_core.specs.Windings.{reaches, stands_right, is_level}
use Rattle.clip_core.specs.Inner.Rays.{above_least, strip_of, strip_at, twice_middle, twice_across, is_under, is_up_to, is_below, is_up_to_key, ray_with, AreRising, IsKeyed}
use Rattle.clip_core.specs.declared.strips.Breadth.{Breadth}
use Rattle.clip_core.specs.Inner.Slopes.{IsBreadth}
use Rattle.clip_core.proofs.Shares.{ray-same, any-default}

above-rises : (x y : ℤ) → x ≤ℤ y → above_least x ≤ above_least y
above-rises x y h = grind (arith, ints)

le-then : (x y z : ℕ) → x ≤ y → y ≤ z → x ≤ z
le-then x y z g h = omega arith

pub div-rises : (a b w : ℕ) → a ≤ b → a / w ≤ b / w
div-rises a b zero le = omega (arith, div-zero a)
div-rises a b (suc w) le = le-div (a / suc w) b (suc w) (omega arith) (le-then (a / suc w * suc w) a b (div-mul-le_self a (suc w)) le)

four-times : (q h : ℕ) → 4 ≤ h → q * 4 ≤ q * h
four-times q h le = mul-le q 4 q h (omega arith) le

pub strip-small : (x bits : ℕ) → 2 ≤ bits → x < 8589934592 → x / 2 ^ bits < 2147483648
strip-small x bits le below =
    let four : 4 ≤ 2 ^ bits = pow-le-pow_right {n = 2} (omega arith) {i = 2} {j = bits} le in
    let few = four-times (x / 2 ^ bits) (2 ^ bits) four in
    let whole = div-mul-le_self x (2 ^ bits) in
    omega (arith, few, whole, below)

strip-rises : (high : ℕ) (x y : ℤ) → x ≤ℤ y → strip_of high x ≤ strip_of high y
strip-rises high x y le = div-rises (above_least x) (above_least y) (2 ^ high) (above-rises x y le)

le-of : (x y : ℤ) → int_le x y ≡ true → x ≤ℤ y
le-of x y h = grind (arith, ints)

lt-of : (x y : ℤ) → int_lt x y ≡ true → x ≤ℤ y
lt-of x y h = grind (arith, ints)

not-first : (a b c : Bool) → a ≡ false → ((a && b) && c) ≡ false
not-first false b c h = refl
not-first true b c h = absurd (cc)

not-second : (a b c : Bool) → b ≡ false → ((a && b) && c) ≡ false
not-second false b c h = refl
not-second true false c h = refl
not-second true true c h = absurd (cc)

pub under-is : (m n : ℕ) → nat_lt m n ≡ true → m < n
under-is m n h = grind (arith, nat_tests)

pub over-is : (m n : ℕ) → nat_le m n ≡ false → n < m
over-is m n h = grind (arith, nat_tests)

is-under : (m n : ℕ) → m < n → nat_lt m n ≡ true
is-under m n h = grind (arith, nat_tests)

is-over : (m n : ℕ) → n < m → nat_le m n ≡ false
is-over m n h = grind (arith, nat_tests)

pub under-same : (f : Bundle) (s : Windings) (r : Ray) (high strip : ℕ) → strip ≡ strip_of high (f.low.y +ℤ f.low.y) → IsKeyed high r → is_under strip r ≡ true → r ≡ ray_with f s r
under-same f s r high strip is keyed under =
    let b = r.bundle in
    let lt = under-is (strip_at r) strip under in
    ray-same f s r
    (not-first (int_le (f.low.y +ℤ f.low.y) (twice_middle b)) (int_lt (twice_middle b) (f.high.y +ℤ f.high.y)) (stands_right f b)
    (false_from_ne_true (int_le (f.low.y +ℤ f.low.y) (twice_middle b)) (λ h.
    let e = strip-rises high (f.low.y +ℤ f.low.y) (twice_middle b) (le-of (f.low.y +ℤ f.low.y) (twice_middle b) h) in omega (arith, e, lt, is, keyed.strip))))

pub above-same : (f : Bundle) (s : Windings) (r : Ray) (high strip : ℕ) → strip ≡ strip_of high (f.high.y +ℤ f.high.y) → IsKeyed high r → is_up_to strip r ≡ false → r ≡ ray_with f s r
above-same f s r high strip is keyed over =
    let b = r.bundle in
    let lt = over-is (strip_at r) strip over in
    ray-same f s r
    (not-second (int_le (f.low.y +ℤ f.low.y) (twice_middle b)) (int_lt (twice_middle b) (f.high.y +ℤ f.high.y)) (stands_right f b)
    (false_from_ne_true (int_lt (twice_middle b) (f.high.y +ℤ f.high.y)) (λ h.
    let e = strip-rises high (twice_middle b) (f.high.y +ℤ f.high.y) (lt-of (twice_middle b) (f.high.y +ℤ f.high.y) h) in omega (arith, e, lt, is, keyed.strip))))

level-not : (l h m : ℤ) → l ≡ h → int_lt m (h +ℤ h) ≡ true → int_le (l +ℤ l) m ≡ false
level-not l h m is lt = grind (arith, ints)

level-is : (l h : ℤ) → is_level (record { low = record { x = pos 0; y = l }; high = record { x = pos 0; y = h } }) ≡ true → l ≡ h
level-is l h is = grind (arith, ints)

-- a level edge reaches nothing
pub level-same : (f : Bundle) (s : Windings) (r : Ray) → is_level f ≡ true → r ≡ ray_with f s r
level-same f s r is =
    let m = twice_middle r.bundle in
    let same = level-is f.low.y f.high.y is in
    ray-same f s r (pick (int_lt m (f.high.y +ℤ f.high.y)) refl same)
  where
    pick : (t : Bool) → int_lt (twice_middle r.bundle) (f.high.y +ℤ f.high.y) ≡ t → f.low.y ≡ f.high.y → (reaches f r.bundle && stands_right f r.bundle) ≡ false
    pick true lt same = not-first (int_le (f.low.y +ℤ f.low.y) (twice_middle r.bundle)) (int_lt (twice_middle r.bundle) (f.high.y +ℤ f.high.y)) (stands_right f r.bundle) (level-not f.low.y f.high.y (twice_middle r.bundle) same lt)
    pick false lt same = not-second (int_le (f.low.y +ℤ f.low.y) (twice_middle r.bundle)) (int_lt (twice_middle r.bundle) (f.high.y +ℤ f.high.y)) (stands_right f r.bundle) lt

-- what stands under a strip stands under those above it
pub under-more : (low high : ℕ) (r : Ray) → low ≤ high → is_under low r ≡ true → is_under high r ≡ true
under-more low high r le h = is-under (strip_at r) high (let lt = under-is (strip_at r) low h in omega (arith, lt, le))

-- from a ray above a strip on, all are
pub above-rest : (strip : ℕ) (rays : List Ray) (i k : ℕ) (d : Ray) → AreRising rays → i ≤ k → k < length rays → is_up_to strip (get_or rays i d) ≡ false → is_up_to strip (get_or rays k d) ≡ false
above-rest strip rays i k d rising le below h =
    let e = div-rises (get_or rays i d).key (get_or rays k d).key 8589934592 (rising i k d le below) in
    is-over (strip_at (get_or rays k d)) strip (let lt = over-is (strip_at (get_or rays i d)) strip h in omega (arith, e, lt))

-- from a ray whose key is above another one on, all are
pub above-keys : (key : ℕ) (rays : List Ray) (i k : ℕ) (d : Ray) → AreRising rays → i ≤ k → k < length rays → is_up_to_key key (get_or rays i d) ≡ false → key < (get_or rays k d).key
above-keys key rays i k d rising le below h =
    let lt = over-is (get_or rays i d).key key h in
    let e = rising i k d le below in
    omega (arith, e, lt)

-- up to a ray whose key is below another one, all are
pub below-rest : (key : ℕ) (rays : List Ray) (k i : ℕ) (d e : Ray) → AreRising rays → k ≤ i → i < length rays → is_below key (get_or rays i e) ≡ true → is_below key (get_or rays k d) ≡ true
below-rest key rays k i d e rising le inside h =
    let lt = under-is (get_or rays i e).key key h in
    let same : (get_or rays i e).key ≡ (get_or rays i d).key = ap (λ (r : Ray). r.key) (any-default rays i e d inside) in
    is-under (get_or rays k d).key key (let rises = rising k i d le inside in omega (arith, lt, same, rises))

pub below-keys : (key : ℕ) (r : Ray) → is_below key r ≡ true → r.key < key
below-keys key r h = under-is r.key key h

-- how far across a ray stands, by its key

across-back : (x y : ℤ) → above_least x < above_least y → x <ℤ y
across-back x y h = grind (arith, ints)

pub right-of-key : (f : Bundle) (breadth : Breadth) (bits strip : ℕ) (r : Ray) → IsBreadth f breadth → IsKeyed bits r → strip_at r ≡ strip → strip * 8589934592 + breadth.right < r.key → ((f.low.x +ℤ f.low.x) <ℤ twice_across r.bundle) × ((f.high.x +ℤ f.high.x) <ℤ twice_across r.bundle)
right-of-key f breadth bits strip r is keyed there lt =
    let whole = keyed.across in
    let over : breadth.right < above_least (twice_across r.bundle) = omega (arith, whole, there, lt) in
    (across-back (f.low.x +ℤ f.low.x) (twice_across r.bundle) (omega (arith, over, is.right_low)), across-back (f.high.x +ℤ f.high.x) (twice_across r.bundle) (omega (arith, over, is.right_high)))

pub left-of-key : (f : Bundle) (breadth : Breadth) (bits strip : ℕ) (r : Ray) → IsBreadth f breadth → IsKeyed bits r → strip_at r ≡ strip → r.key < strip * 8589934592 + breadth.left → (twice_across r.bundle <ℤ (f.low.x +ℤ f.low.x)) × (twice_across r.bundle <ℤ (f.high.x +ℤ f.high.x))
left-of-key f breadth bits strip r is keyed there lt =
    let whole = keyed.across in
    let under : above_least (twice_across r.bundle) < breadth.left = omega (arith, whole, there, lt) in
    (across-back (twice_across r.bundle) (f.low.x +ℤ f.low.x) (omega (arith, under, is.left_low)), across-back (twice_across r.bundle) (f.high.x +ℤ f.high.x) (omega (arith, under, is.left_high)))

-- an edge reaches all of a strip that is above that of its low end and below that of its high one

le-or-over : (x y : ℤ) (t : Bool) → int_le x y ≡ t → (y ≤ℤ x → ⊥) → int_le x y ≡ true
le-or-over x y true h other = h
le-or-over x y false h other = absurd (other (over-of x y h))
  where
    over-of : (x y : ℤ) → int_le x y ≡ false → y ≤ℤ x
    over-of x y h = grind (arith, ints)

lt-or-over : (x y : ℤ) (t : Bool) → int_lt x y ≡ t → (y ≤ℤ x → ⊥) → int_lt x y ≡ true
lt-or-over x y true h other = h
lt-or-over x y false h other = absurd (other (over-of x y h))
  where
    over-of : (x y : ℤ) → int_lt x y ≡ false → y ≤ℤ x
    over-of x y h = grind (arith, ints)

both : (a b : Bool) → a ≡ true → b ≡ true → (a && b) ≡ true
both true true e f = refl
both true false e f = absurd (cc)
both false b e f = absurd (cc)

pub through-reaches : (f b : Bundle) (bits strip first last : ℕ) → first ≡ strip_of bits (f.low.y +ℤ f.low.y) → last ≡ strip_of bits (f.high.y +ℤ f.high.y) → strip ≡ strip_of bits (twice_middle b) → first < strip → strip < last → reaches f b ≡ true
through-reaches f b bits strip first last is-first is-last is over under =
    let low = f.low.y +ℤ f.low.y in
    let high = f.high.y +ℤ f.high.y in
    let at = twice_middle b in
    both (int_le low at) (int_lt at high)
    (le-or-over low at (int_le low at) refl (λ h. let e = strip-rises bits at low h in omega (arith, e, is-first, is, over)))
    (lt-or-over at high (int_lt at high) refl (λ h. let e = strip-rises bits high at h in omega (arith, e, is-last, is, under)))
