use Rattle.std.proofs.Common.{List, subst}
use Rattle.slice_base.specs.declared.points.Pt.{Pt}
use Rattle.edge_cut.specs.Inner.Meetings.{Lists}
use Rattle.edge_cut.proofs.Listed.{both-listed}
use Rattle.edge_cut.proofs.meetings.push_both.Goals as goal

pub returns : goal.returns
returns c =
    let a = c.args.a in
    let b = c.args.b in
    let old = c.args.meetings.now.items in
    let mid = c.push_any.new.meetings.items in
    let new = c.push_any-2.new.meetings.items in
    both-listed a.edge b.edge a.index b.index old mid new
    (subst (λ (ps : List Pt). Lists a.edge a.index ps old mid) c.requires.forth c.in_ok-push_any.ensures)
    (subst (λ (ps : List Pt). Lists b.edge b.index ps mid new) c.requires.back c.in_ok-push_any-2.ensures)
