use Rattle.std.proofs.Common.{rules, ◌*◌, ◌≤◌, ◌+◌, w32, pos, FitsSigned, arith, unsigned_abs}
use Rattle.std.proofs.lemmas.Int.{ints, to_z-of_z}
use Rattle.std.proofs.lemmas.List.Elements.{All-same, All-filter}
use Rattle.slice_base.specs.Boxes.{around}
use Rattle.std.specs.Prelude.{int_lt}
use Rattle.clip_core.specs.Areas.{area_of}
use Rattle.plan_types.specs.Areas.{IsLoop}
use Rattle.area_stage.proofs.Regions.{region_grown-around, loops-are}
use Rattle.area_stage.proofs.skirts.line.Goals as goal

pub invariant_of-result : goal.invariant_of-result
invariant_of-result c =
    let e = c.line_distance-by.ensures.exact in
    let f : FitsSigned w32 c.line_distance-by.result.by = search rules in
    let within = simp to_z-of_z at c.in_ok-loops.ensures.within in
    let le : 3 * unsigned_abs c.line_distance-by.result.by + 3 + 1000000 ≤ 1600000 = omega (arith, ints, e, c.line_distance-by.ensures.small) in
    let inside = region_grown-around (3 * unsigned_abs c.line_distance-by.result.by + 3) 1000000 1600000 c.in_ok-loops.loops le (within (around 1000000) c.requires.inside) in
    let all = loops-are c.in_ok-loops.loops c.in_ok-loops.ensures.few c.in_ok-loops.ensures.least inside in
    All-same (IsLoop 1600000) c.in_ok-without_holes.field-0 _ c.in_ok-without_holes.ensures (All-filter (λ l. int_lt (pos 0) (area_of l)) (IsLoop 1600000) c.in_ok-loops.loops all)
