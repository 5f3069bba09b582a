use Rattle.std.proofs.Common.{List, subst}
use Rattle.slice_base.specs.declared.points.Pt.{Pt}
use Rattle.edge_cut.specs.Meeting.{end_on}
use Rattle.edge_cut.specs.Inner.Meetings.{Lists}
use Rattle.edge_cut.proofs.BySides.{apart-by, line-by}
use Rattle.edge_cut.proofs.Listed.{lists-none, lists-then}
use Rattle.edge_cut.proofs.meetings.push_shared.Goals as goal

pub returns-then-not-are_on_line : goal.returns-then-not-are_on_line
returns-then-not-are_on_line c =
    let e = c.args.a.edge in
    let ms = c.args.meetings.now.items in
    subst (λ (ps : List Pt). Lists e c.args.a.index ps ms ms) (apart-by e c.args.f c.args.sides c.are_on_line.result c.requires.are c.requires.level c.are_on_line.ensures c.if-not-are_on_line.true)
    (lists-none e c.args.a.index ms)

pub returns : goal.returns
returns c =
    let e = c.args.a.edge in
    let i = c.args.a.index in
    let f = c.args.f in
    let old = c.args.meetings.now.items in
    let mid = c.push_any.new.meetings.items in
    let new = c.push_any-2.new.meetings.items in
    let first = subst (λ (ps : List Pt). Lists e i ps old mid) c.end_on.ensures c.in_ok-push_any.ensures in
    let second = subst (λ (ps : List Pt). Lists e i ps mid new) c.end_on-2.ensures c.in_ok-push_any-2.ensures in
    subst (λ (ps : List Pt). Lists e i ps old new) (line-by e f c.args.sides c.are_on_line.result c.requires.are c.requires.level c.are_on_line.ensures c.if-not-are_on_line.false)
    (lists-then e i (end_on e f.from) (end_on e f.to) old mid new first second)
