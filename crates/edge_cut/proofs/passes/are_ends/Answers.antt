use Rattle.std.proofs.Common.{sym, ◌∙◌, pos, get_or}
use Rattle.slice_base.proofs.SamePoint.{same_point-is}
use Rattle.edge_cut.specs.declared.stops.Stop.{Stop}
use Rattle.edge_cut.proofs.Told.{ends-are}
use Rattle.edge_cut.proofs.passes.are_ends.Goals as goal

pub returns : goal.returns
returns c = λ h.
    let none : Stop = record { along = pos 0; at = record { x = pos 0; y = pos 0 } } in
    let stops = c.args.stops.now in
    ends-are c.args.e stops none c.if-stops-ne2.false
    (same_point-is (get_or stops 0 none).at c.args.e.from (sym c.is_same.ensures ∙ c.if-not-is_same.false))
    (same_point-is (get_or stops 1 none).at c.args.e.to (sym c.is_same-2.ensures ∙ h))
