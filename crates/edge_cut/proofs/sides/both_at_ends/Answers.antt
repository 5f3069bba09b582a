use Rattle.std.proofs.Common.{sym, ◌∙◌}
use Rattle.edge_cut.proofs.AtEnds.{level-not, one-side, one-side-back, other-side, shared-end, shared-end-back}
use Rattle.edge_cut.proofs.sides.both_at_ends.Goals.{then-are_on_one_side, else-are_on_one_side}
use Rattle.edge_cut.proofs.sides.both_at_ends.Goals as goal

pub returns-then-share_end-clause-forth : goal.returns-then-share_end-clause-forth
returns-then-share_end-clause-forth c h =
    let e = c.args.e.edge in
    let f = c.args.f.edge in
    let s = c.sides_of-sides.result in
    let other = level-not s c.are_level.result c.are_level.ensures c.if-are_level.false in
    elim c.if-are_on_one_side.branch [
      | then-are_on_one_side w ↦ one-side e f s c.are_on_one_side.result c.sides_of-sides.ensures c.are_on_one_side.ensures w.if-are_on_one_side.true
      | else-are_on_one_side w ↦ shared-end e f s w.share_end.result c.sides_of-sides.ensures other w.share_end.ensures (sym w.value-is ∙ h)
    ]

pub returns-then-share_end-clause-back : goal.returns-then-share_end-clause-back
returns-then-share_end-clause-back c h =
    let e = c.args.e.edge in
    let f = c.args.f.edge in
    let s = c.sides_of-sides.result in
    let other = level-not s c.are_level.result c.are_level.ensures c.if-are_level.false in
    elim c.if-are_on_one_side.branch [
      | then-are_on_one_side w ↦ one-side-back e f s c.are_on_one_side.result c.sides_of-sides.ensures other c.are_on_one_side.ensures w.if-are_on_one_side.true
      | else-are_on_one_side w ↦ shared-end-back e f s w.share_end.result c.sides_of-sides.ensures other w.share_end.ensures (sym w.value-is ∙ h)
    ]

pub returns-else-share_end-clause-forth : goal.returns-else-share_end-clause-forth
returns-else-share_end-clause-forth c h =
    let s = c.sides_of-sides.result in
    let other = level-not s c.are_level.result c.are_level.ensures c.if-are_level.false in
    other-side c.args.e.edge c.args.f.edge s c.sides_of.result c.are_on_one_side-else-share_end.result c.sides_of-sides.ensures other c.sides_of.ensures c.are_on_one_side-else-share_end.ensures h

pub returns-else-share_end-clause-back : goal.returns-else-share_end-clause-back
returns-else-share_end-clause-back c h =
    one-side c.args.f.edge c.args.e.edge c.sides_of.result c.are_on_one_side-else-share_end.result c.sides_of.ensures c.are_on_one_side-else-share_end.ensures h
