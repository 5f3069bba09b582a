-- The lines of a region stay in every box in which it lies.
use Rattle.std.proofs.Common.{◌≡◌, ◌≤◌, ◌⊎◌, inl, inr, ℕ, ℤ, refl, pos, ◌+ℤ◌, ◌-ℤ◌, ◌≤ℤ◌, ◌<ℤ◌, List, arith}
use Rattle.std.specs.Prelude.{neg_ℤ}
use Rattle.std.specs.Int.RustNames.{unsigned_abs}
use Rattle.std.specs.List.{All}
use Rattle.std.proofs.lemmas.Int.{ints}
use Rattle.slice_base.specs.declared.points.Pt.{Pt}
use Rattle.slice_base.specs.Boxes.{Box, IsIn, EdgeIn}
use Rattle.slice_base.specs.Regions.{RegionIn}
use Rattle.slice_base.specs.Plane.{InSquare}
use Rattle.slice_base.specs.Whole.{way_of}
use Rattle.slice_base.proofs.Ways.{way-le, le-way}
use Rattle.infill_lines.specs.declared.angles.Angle.{Angle}
use Rattle.infill_lines.specs.declared.angles.Angle.TheVariants.{A0, A45, A90, A135}
use Rattle.infill_lines.specs.declared.angles.Place.{Place}
use Rattle.infill_lines.specs.Angles.{half, place_of, point_of}
use Rattle.infill_lines.specs.Crossings.{between, region_crossings}
use Rattle.infill_lines.specs.Fill.{lines_from}
use Rattle.infill_lines.specs.Inner.Places.{IsPlace}
use Rattle.infill_lines.specs.Inner.Sorting.{IsOnLine}
use Rattle.infill_lines.proofs.Parts.{half-low, half-high}
use Rattle.infill_lines.proofs.Slants.{IsBetween, part, sum-between, gap-between}
use Rattle.infill_lines.proofs.Crossed.{Crosses, region-all, lines-all}

-- the point at the place lies in the box
pub record Fits (box : Box) (angle : Angle) (at : Place) : Type 0 where
  pub inside : IsIn box (point_of angle at)

-- ---- numbers

sum-from : (x1 x2 a b n h lo : ℤ) → a ≡ x1 +ℤ x1 → b ≡ x2 +ℤ x2 → lo ≤ℤ x1 → lo ≤ℤ x2 → n ≤ℤ (h +ℤ h +ℤ pos 1) → IsBetween a b n → lo ≤ℤ h
sum-from x1 x2 a b n h lo e f p q high (inl g) = let from = g.0 in let to = g.1 in omega (arith, ints)
sum-from x1 x2 a b n h lo e f p q high (inr g) = let from = g.0 in let to = g.1 in omega (arith, ints)

sum-to : (x1 x2 a b n h hi : ℤ) → a ≡ x1 +ℤ x1 → b ≡ x2 +ℤ x2 → x1 ≤ℤ hi → x2 ≤ℤ hi → (h +ℤ h) ≤ℤ n → IsBetween a b n → h ≤ℤ hi
sum-to x1 x2 a b n h hi e f p q low (inl g) = let from = g.0 in let to = g.1 in omega (arith, ints)
sum-to x1 x2 a b n h hi e f p q low (inr g) = let from = g.0 in let to = g.1 in omega (arith, ints)

gap-from : (y1 y2 a b v l h lo : ℤ) → a ≡ y1 +ℤ y1 → b ≡ y2 +ℤ y2 → lo ≤ℤ y1 → lo ≤ℤ y2 → (l +ℤ v) ≤ℤ (h +ℤ h +ℤ pos 1) → IsBetween a b (v -ℤ l) → lo ≤ℤ (h -ℤ l)
gap-from y1 y2 a b v l h lo e f p q high (inl g) = let from = g.0 in let to = g.1 in omega (arith, ints)
gap-from y1 y2 a b v l h lo e f p q high (inr g) = let from = g.0 in let to = g.1 in omega (arith, ints)

gap-to : (y1 y2 a b v l h hi : ℤ) → a ≡ y1 +ℤ y1 → b ≡ y2 +ℤ y2 → y1 ≤ℤ hi → y2 ≤ℤ hi → (h +ℤ h) ≤ℤ (l +ℤ v) → IsBetween a b (v -ℤ l) → (h -ℤ l) ≤ℤ hi
gap-to y1 y2 a b v l h hi e f p q low (inl g) = let from = g.0 in let to = g.1 in omega (arith, ints)
gap-to y1 y2 a b v l h hi e f p q low (inr g) = let from = g.0 in let to = g.1 in omega (arith, ints)

turned-from : (y1 y2 a b v l h lo : ℤ) → (a +ℤ (y1 +ℤ y1)) ≡ pos 0 → (b +ℤ (y2 +ℤ y2)) ≡ pos 0 → lo ≤ℤ y1 → lo ≤ℤ y2 → (h +ℤ h) ≤ℤ (l +ℤ v) → IsBetween a b (v -ℤ l) → lo ≤ℤ (l -ℤ h)
turned-from y1 y2 a b v l h lo e f p q low (inl g) = let from = g.0 in let to = g.1 in omega (arith, ints)
turned-from y1 y2 a b v l h lo e f p q low (inr g) = let from = g.0 in let to = g.1 in omega (arith, ints)

turned-to : (y1 y2 a b v l h hi : ℤ) → (a +ℤ (y1 +ℤ y1)) ≡ pos 0 → (b +ℤ (y2 +ℤ y2)) ≡ pos 0 → y1 ≤ℤ hi → y2 ≤ℤ hi → (l +ℤ v) ≤ℤ (h +ℤ h +ℤ pos 1) → IsBetween a b (v -ℤ l) → (l -ℤ h) ≤ℤ hi
turned-to y1 y2 a b v l h hi e f p q high (inl g) = let from = g.0 in let to = g.1 in omega (arith, ints)
turned-to y1 y2 a b v l h hi e f p q high (inr g) = let from = g.0 in let to = g.1 in omega (arith, ints)

line-from : (lo a l : ℤ) → lo ≤ℤ a → a ≤ℤ l → lo ≤ℤ l
line-from lo a l p from = omega (arith, ints)

line-to : (hi l b : ℤ) → b ≤ℤ hi → l <ℤ b → l ≤ℤ hi
line-to hi l b p to = omega (arith, ints)

part-from : (a l b : ℤ) → a ≤ℤ l → l <ℤ b → pos 0 ≤ℤ (l -ℤ a)
part-from a l b from to = omega (arith, ints)

part-to : (a l b : ℤ) → a ≤ℤ l → l <ℤ b → (l -ℤ a) ≤ℤ (b -ℤ a)
part-to a l b from to = omega (arith, ints)

part-some : (a l b : ℤ) → a ≤ℤ l → l <ℤ b → pos 0 <ℤ (b -ℤ a)
part-some a l b from to = omega (arith, ints)

along-from : (a v l b w lo : ℤ) → lo ≤ℤ v → lo ≤ℤ w → a ≤ℤ l → l <ℤ b → lo ≤ℤ way_of v w (l -ℤ a) (b -ℤ a)
along-from a v l b w lo p q from to = le-way v w (l -ℤ a) (b -ℤ a) lo (part-from a l b from to) (part-to a l b from to) (part-some a l b from to) p q

along-to : (a v l b w hi : ℤ) → v ≤ℤ hi → w ≤ℤ hi → a ≤ℤ l → l <ℤ b → way_of v w (l -ℤ a) (b -ℤ a) ≤ℤ hi
along-to a v l b w hi p q from to = way-le v w (l -ℤ a) (b -ℤ a) hi (part-from a l b from to) (part-to a l b from to) (part-some a l b from to) p q

twice-x : (x y : ℤ) → (x -ℤ y) +ℤ (x +ℤ y) ≡ x +ℤ x
twice-x x y = omega (arith, ints)

twice-x' : (x y : ℤ) → (x +ℤ y) +ℤ (x -ℤ y) ≡ x +ℤ x
twice-x' x y = omega (arith, ints)

twice-y : (x y : ℤ) → (x +ℤ y) -ℤ (x -ℤ y) ≡ y +ℤ y
twice-y x y = omega (arith, ints)

less-y : (x y : ℤ) → ((x -ℤ y) -ℤ (x +ℤ y)) +ℤ (y +ℤ y) ≡ pos 0
less-y x y = omega (arith, ints)

-- ---- a crossing stays in the box of its edge

between-in : (box : Box) (angle : Angle) (l : ℤ) → Crosses angle l (IsIn box) (Fits box angle)
between-in box A0 l p q g h from to = record {
  inside = record {
    x_from = along-from p.y p.x l q.y q.x box.left g.x_from h.x_from from to;
    x_to = along-to p.y p.x l q.y q.x box.right g.x_to h.x_to from to;
    y_from = line-from box.front p.y l g.y_from from;
    y_to = line-to box.back l q.y h.y_to to;
  };
}
between-in box A90 l p q g h from to = record {
  inside = record {
    x_from = line-from box.left p.x l g.x_from from;
    x_to = line-to box.right l q.x h.x_to to;
    y_from = along-from p.x p.y l q.x q.y box.front g.y_from h.y_from from to;
    y_to = along-to p.x p.y l q.x q.y box.back g.y_to h.y_to from to;
  };
}
between-in box A45 l p q g h from to =
    let v = (p.x +ℤ p.y) +ℤ part (p.x -ℤ p.y) (p.x +ℤ p.y) (q.x -ℤ q.y) (q.x +ℤ q.y) l in
    let n = l +ℤ v in
    let s = sum-between (p.x -ℤ p.y) (p.x +ℤ p.y) (q.x -ℤ q.y) (q.x +ℤ q.y) l from to in
    let d = gap-between (p.x -ℤ p.y) (p.x +ℤ p.y) (q.x -ℤ q.y) (q.x +ℤ q.y) l from to in
    record {
      inside = record {
        x_from = sum-from p.x q.x _ _ n (half n) box.left (twice-x p.x p.y) (twice-x q.x q.y) g.x_from h.x_from (half-high n) s;
        x_to = sum-to p.x q.x _ _ n (half n) box.right (twice-x p.x p.y) (twice-x q.x q.y) g.x_to h.x_to (half-low n) s;
        y_from = gap-from p.y q.y _ _ v l (half n) box.front (twice-y p.x p.y) (twice-y q.x q.y) g.y_from h.y_from (half-high n) d;
        y_to = gap-to p.y q.y _ _ v l (half n) box.back (twice-y p.x p.y) (twice-y q.x q.y) g.y_to h.y_to (half-low n) d;
      };
    }
between-in box A135 l p q g h from to =
    let v = (p.x -ℤ p.y) +ℤ part (p.x +ℤ p.y) (p.x -ℤ p.y) (q.x +ℤ q.y) (q.x -ℤ q.y) l in
    let n = l +ℤ v in
    let s = sum-between (p.x +ℤ p.y) (p.x -ℤ p.y) (q.x +ℤ q.y) (q.x -ℤ q.y) l from to in
    let d = gap-between (p.x +ℤ p.y) (p.x -ℤ p.y) (q.x +ℤ q.y) (q.x -ℤ q.y) l from to in
    record {
      inside = record {
        x_from = sum-from p.x q.x _ _ n (half n) box.left (twice-x' p.x p.y) (twice-x' q.x q.y) g.x_from h.x_from (half-high n) s;
        x_to = sum-to p.x q.x _ _ n (half n) box.right (twice-x' p.x p.y) (twice-x' q.x q.y) g.x_to h.x_to (half-low n) s;
        y_from = turned-from p.y q.y _ _ v l (half n) box.front (less-y p.x p.y) (less-y q.x q.y) g.y_from h.y_from (half-low n) d;
        y_to = turned-to p.y q.y _ _ v l (half n) box.back (less-y p.x p.y) (less-y q.x q.y) g.y_to h.y_to (half-high n) d;
      };
    }

edge-in : (box : Box) (angle : Angle) (p q : Place) → Fits box angle p → Fits box angle q → EdgeIn box (record { from = point_of angle p; to = point_of angle q })
edge-in box angle p q g h = record { from_in = g.inside; to_in = h.inside }

pub lines-in : (box : Box) (n : ℕ) (angle : Angle) (r : List (List Pt)) (step : ℕ) (first : ℤ) (k : ℕ) → RegionIn box r → All (EdgeIn box) (lines_from n angle r step first k)
lines-in box n angle r step first k h = lines-all angle (IsIn box) (Fits box angle) (EdgeIn box) (between-in box angle) (edge-in box angle) r h n step first k

-- ---- places aren't far out

abs-le : (z : ℤ) (n : ℕ) → neg_ℤ (pos n) ≤ℤ z → z ≤ℤ pos n → unsigned_abs z ≤ n
abs-le z n p q = omega (arith, ints)

abs-from : (z : ℤ) (n : ℕ) → unsigned_abs z ≤ n → neg_ℤ (pos n) ≤ℤ z
abs-from z n h = omega (arith, ints)

abs-to : (z : ℤ) (n : ℕ) → unsigned_abs z ≤ n → z ≤ℤ pos n
abs-to z n h = omega (arith, ints)

way-small : (a b part whole : ℤ) (n : ℕ) → pos 0 ≤ℤ part → part ≤ℤ whole → pos 0 <ℤ whole → unsigned_abs a ≤ n → unsigned_abs b ≤ n → unsigned_abs (way_of a b part whole) ≤ n
way-small a b part whole n from to some la lb =
    abs-le (way_of a b part whole) n (le-way a b part whole (neg_ℤ (pos n)) from to some (abs-from a n la) (abs-from b n lb)) (way-le a b part whole (pos n) from to some (abs-to a n la) (abs-to b n lb))

line-small : (a l b : ℤ) (n : ℕ) → unsigned_abs a ≤ n → unsigned_abs b ≤ n → a ≤ℤ l → l <ℤ b → unsigned_abs l ≤ n
line-small a l b n la lb from to = omega (arith, ints)

sum-small : (x y : ℤ) → unsigned_abs x ≤ 1700000 → unsigned_abs y ≤ 1700000 → unsigned_abs (x +ℤ y) ≤ 3400000
sum-small x y p q = omega (arith, ints)

gap-small : (x y : ℤ) → unsigned_abs x ≤ 1700000 → unsigned_abs y ≤ 1700000 → unsigned_abs (x -ℤ y) ≤ 3400000
gap-small x y p q = omega (arith, ints)

one-small : (x : ℤ) → unsigned_abs x ≤ 1700000 → unsigned_abs x ≤ 3400000
one-small x p = omega arith

place-small : (angle : Angle) (p : Pt) → InSquare 1700000 p → IsPlace 3400000 (place_of angle p)
place-small A0 p h = record { across_in = one-small p.y h.y_in; along_in = one-small p.x h.x_in }
place-small A90 p h = record { across_in = one-small p.x h.x_in; along_in = one-small p.y h.y_in }
place-small A45 p h = record { across_in = gap-small p.x p.y h.x_in h.y_in; along_in = sum-small p.x p.y h.x_in h.y_in }
place-small A135 p h = record { across_in = sum-small p.x p.y h.x_in h.y_in; along_in = gap-small p.x p.y h.x_in h.y_in }

between-small : (low high : Place) (l : ℤ) → IsPlace 3400000 low → IsPlace 3400000 high → low.across ≤ℤ l → l <ℤ high.across → IsPlace 3400000 (between low high l)
between-small low high l g h from to = record {
  across_in = line-small low.across l high.across 3400000 g.across_in h.across_in from to;
  along_in = way-small low.along high.along (l -ℤ low.across) (high.across -ℤ low.across) 3400000 (part-from low.across l high.across from to) (part-to low.across l high.across from to) (part-some low.across l high.across from to) g.along_in h.along_in;
}

pub crossings-on : (angle : Angle) (r : List (List Pt)) (l : ℤ) → All (All (InSquare 1700000)) r → All (IsOnLine l) (region_crossings angle r l)
crossings-on angle r l h =
    region-all angle l (InSquare 1700000) (IsOnLine l)
    (λ p q g k from to. record { here = refl; place = between-small (place_of angle p) (place_of angle q) l (place-small angle p g) (place-small angle q k) from to }) r h
