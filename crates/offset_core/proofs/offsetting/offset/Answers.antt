use Rattle.std.proofs.Common.{rules, ◌*◌, ℕ, ◌+◌, ◌-◌, List, w32, FitsSigned, arith, unsigned_abs}
use Rattle.std.specs.List.{All}
use Rattle.std.proofs.lemmas.Int.{ints, to_z-of_z}
use Rattle.std.proofs.lemmas.Result.{IfOk-weaker}
use Rattle.std.proofs.lemmas.List.Elements.{All-weaker}
use Rattle.slice_base.specs.declared.points.Pt.{Pt}
use Rattle.slice_base.specs.Plane.{InSquare}
use Rattle.slice_base.specs.Boxes.{Box, IsIn, grown, around}
use Rattle.slice_base.specs.Regions.{RegionIn}
use Rattle.offset_core.proofs.offsetting.offset.Goals as goal

in-grown : (box : Box) (n : ℕ) (p : Pt) → IsIn box p → IsIn (grown n box) p
in-grown box n p h = record {
  x_from = omega (arith, ints, h.x_from);
  x_to = omega (arith, ints, h.x_to);
  y_from = omega (arith, ints, h.y_from);
  y_to = omega (arith, ints, h.y_to);
}

region-grown : (box : Box) (n : ℕ) (region : List (List Pt)) → RegionIn box region → RegionIn (grown n box) region
region-grown box n region h = All-weaker (All (IsIn box)) (All (IsIn (grown n box))) (λ ps. All-weaker (IsIn box) (IsIn (grown n box)) (in-grown box n) ps) region h

around-square : (n : ℕ) (p : Pt) → IsIn (around (1700000 - n)) p → InSquare 1700000 p
around-square n p h = record {
  x_in = omega (arith, ints, h.x_from, h.x_to);
  y_in = omega (arith, ints, h.y_from, h.y_to);
}

all_square : (n : ℕ) (region : List (List Pt)) → RegionIn (around (1700000 - n)) region → All (All (InSquare 1700000)) region
all_square n region h = All-weaker (All (IsIn (around (1700000 - n)))) (All (InSquare 1700000)) (λ ps. All-weaker (IsIn (around (1700000 - n))) (InSquare 1700000) (around-square n) ps) region h

pub returns-then-by-eq0-clause-within : goal.returns-then-by-eq0-clause-within
returns-then-by-eq0-clause-within c =
    IfOk-weaker c.clean.result _ _
    (λ moved inside box h. inside (grown (3 * unsigned_abs c.args.by + 3) box) (region-grown box (3 * unsigned_abs c.args.by + 3) c.args.region.now h))
    c.clean.ensures.within

pub returns-clause-within : goal.returns-clause-within
returns-clause-within c =
    let f : FitsSigned w32 c.args.by = search rules in
    let within = simp to_z-of_z at c.in_ok-moved.ensures.within in
    IfOk-weaker c.clean-2.result _ _
    (λ moved inside box h. inside (grown (3 * unsigned_abs c.args.by + 3) box) (within box h))
    c.clean-2.ensures.within

pub moved_loops-requires-clause-points_in : goal.moved_loops-requires-clause-points_in
moved_loops-requires-clause-points_in c = all_square (3 * unsigned_abs c.args.by + 3) c.args.region.now c.requires.room
