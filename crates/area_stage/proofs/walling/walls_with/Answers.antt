use Rattle.std.proofs.Common.{◌*◌, ◌+◌, w32, to_z, arith, unsigned_abs}
use Rattle.slice_base.specs.Boxes.{around}
use Rattle.area_stage.proofs.Regions.{room, deep-le, walls-areas, area-is, region_grown-around}
use Rattle.area_stage.proofs.walling.walls_with.Goals as goal

pub walls-requires-clause-room : goal.walls-requires-clause-room
walls-requires-clause-room c = room c.m.inside.wall_line_count c.m.inside.wall_line_width c.args.outline.now c.m.invariant.wall_line_count c.m.invariant.wall_line_width.1 c.requires.inside

pub invariant_of-result : goal.invariant_of-result
invariant_of-result c =
    let d = deep-le c.m.inside.wall_line_count c.m.inside.wall_line_width c.m.invariant.wall_line_count c.m.invariant.wall_line_width.1 in
    record {
      each = walls-areas (3 * (c.m.inside.wall_line_count * unsigned_abs (to_z w32 c.m.inside.wall_line_width)) + 3) c.in_ok-set.set.loops (omega (arith, d)) c.in_ok-set.ensures.small (c.in_ok-set.ensures.within (around 1000000) c.requires.inside);
      few = omega (arith, c.in_ok-set.ensures.as_many, c.m.invariant.wall_line_count);
    }

pub invariant_of-result-2 : goal.invariant_of-result-2
invariant_of-result-2 c =
    let d = deep-le c.m.inside.wall_line_count c.m.inside.wall_line_width c.m.invariant.wall_line_count c.m.invariant.wall_line_width.1 in
    area-is c.in_ok-set.set.inner (c.in_ok-set.ensures.inner_small c.requires.small)
    (region_grown-around (3 * (c.m.inside.wall_line_count * unsigned_abs (to_z w32 c.m.inside.wall_line_width)) + 3) 1000000 1600000 c.in_ok-set.set.inner (omega (arith, d)) (c.in_ok-set.ensures.inner_within (around 1000000) c.requires.inside))
