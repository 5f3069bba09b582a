use Rattle.std.proofs.Common.{◌≡◌, ◌∙◌, ◌*◌, ℕ, ◌+◌, ◌-◌, w32, FitsSigned, arith, sym, ap, subst, unsigned_abs}
use Rattle.std.proofs.lemmas.Int.{ints, to_z-of_z}
use Rattle.slice_base.specs.Boxes.{around}
use Rattle.slice_base.specs.Regions.{RegionIn}
use Rattle.wall_skin.proofs.walling.walls.Goals as goal

deep : (count wide width most : ℕ) → most ≡ count * wide → wide ≡ width → most ≡ count * width
deep count wide width most e w = e ∙ ap (λ (n : ℕ). count * n) w

pub depth-most-requires-clause-width_to : goal.depth-most-requires-clause-width_to
depth-most-requires-clause-width_to c =
    let f : FitsSigned w32 c.args.width = c.ranges.width in
    let e = simp to_z-of_z at c.positive-wide.ensures in
    omega (arith, ints, e, c.requires.width_from, c.requires.width_to)

pub walls_by-requires-clause-width_to : goal.walls_by-requires-clause-width_to
walls_by-requires-clause-width_to c =
    let f : FitsSigned w32 c.args.width = c.ranges.width in
    let e = simp to_z-of_z at c.positive-wide.ensures in
    omega (arith, ints, e, c.requires.width_from, c.requires.width_to)

pub walls_by-requires-clause-width_some : goal.walls_by-requires-clause-width_some
walls_by-requires-clause-width_some c =
    let f : FitsSigned w32 c.args.width = c.ranges.width in
    let e = simp to_z-of_z at c.positive-wide.ensures in
    omega (arith, ints, e, c.requires.width_from, c.requires.width_to)

pub walls_by-requires-clause-room : goal.walls_by-requires-clause-room
walls_by-requires-clause-room c =
    let f : FitsSigned w32 c.args.width = c.ranges.width in
    let e = simp to_z-of_z at c.positive-wide.ensures in
    let m = deep c.args.count c.positive-wide.result (unsigned_abs c.args.width) c.depth-most.result c.depth-most.ensures.exact e in
    subst (λ (n : ℕ). RegionIn (around (1700000 - (3 * n + 3))) c.args.outline.now) (sym m) c.requires.room

pub returns-clause-answer : goal.returns-clause-answer
returns-clause-answer c =
    let f : FitsSigned w32 c.args.width = c.ranges.width in
    let e = simp to_z-of_z at c.positive-wide.ensures in
    rw e at c.walls_by.ensures.answer

pub returns-clause-within : goal.returns-clause-within
returns-clause-within c =
    let f : FitsSigned w32 c.args.width = c.ranges.width in
    let e = simp to_z-of_z at c.positive-wide.ensures in
    let m = deep c.args.count c.positive-wide.result (unsigned_abs c.args.width) c.depth-most.result c.depth-most.ensures.exact e in
    rw m at c.walls_by.ensures.within

pub returns-clause-inner_within : goal.returns-clause-inner_within
returns-clause-inner_within c =
    let f : FitsSigned w32 c.args.width = c.ranges.width in
    let e = simp to_z-of_z at c.positive-wide.ensures in
    let m = deep c.args.count c.positive-wide.result (unsigned_abs c.args.width) c.depth-most.result c.depth-most.ensures.exact e in
    rw m at c.walls_by.ensures.inner_within
