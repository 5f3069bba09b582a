-- Boxes that hold more.
use Rattle.std.proofs.Common.{◌≤◌, ℕ, List, arith}
use Rattle.std.specs.List.{All}
use Rattle.std.proofs.lemmas.Int.{ints}
use Rattle.std.proofs.lemmas.List.Elements.{All-weaker}
use Rattle.slice_base.specs.declared.points.Pt.{Pt}
use Rattle.slice_base.specs.Boxes.{Box, IsIn, grown, around}
use Rattle.slice_base.specs.Regions.{RegionIn}

around-more : (m n : ℕ) (p : Pt) → m ≤ n → IsIn (around m) p → IsIn (around n) p
around-more m n p le h = record {
  x_from = omega (arith, ints, h.x_from);
  x_to = omega (arith, ints, h.x_to);
  y_from = omega (arith, ints, h.y_from);
  y_to = omega (arith, ints, h.y_to);
}

pub region_around-more : (m n : ℕ) (region : List (List Pt)) → m ≤ n → RegionIn (around m) region → RegionIn (around n) region
region_around-more m n region le h = All-weaker (All (IsIn (around m))) (All (IsIn (around n))) (λ ps. All-weaker (IsIn (around m)) (IsIn (around n)) (λ p. around-more m n p le) ps) region h

grown-more : (m n : ℕ) (box : Box) (p : Pt) → m ≤ n → IsIn (grown m box) p → IsIn (grown n box) p
grown-more m n box p le h = record {
  x_from = omega (arith, ints, h.x_from);
  x_to = omega (arith, ints, h.x_to);
  y_from = omega (arith, ints, h.y_from);
  y_to = omega (arith, ints, h.y_to);
}

pub region_grown-more : (m n : ℕ) (box : Box) (region : List (List Pt)) → m ≤ n → RegionIn (grown m box) region → RegionIn (grown n box) region
region_grown-more m n box region le h = All-weaker (All (IsIn (grown m box))) (All (IsIn (grown n box))) (λ ps. All-weaker (IsIn (grown m box)) (IsIn (grown n box)) (λ p. grown-more m n box p le) ps) region h

in-grown : (box : Box) (n : ℕ) (p : Pt) → IsIn box p → IsIn (grown n box) p
in-grown box n p h = record {
  x_from = omega (arith, ints, h.x_from);
  x_to = omega (arith, ints, h.x_to);
  y_from = omega (arith, ints, h.y_from);
  y_to = omega (arith, ints, h.y_to);
}

pub region_in-grown : (box : Box) (n : ℕ) (region : List (List Pt)) → RegionIn box region → RegionIn (grown n box) region
region_in-grown box n region h = All-weaker (All (IsIn box)) (All (IsIn (grown n box))) (λ ps. All-weaker (IsIn box) (IsIn (grown n box)) (in-grown box n) ps) region h
