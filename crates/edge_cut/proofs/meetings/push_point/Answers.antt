use Rattle.std.proofs.Common.{sym, ◌∙◌}
use Rattle.edge_cut.proofs.AtEnds.{is-end}
use Rattle.edge_cut.proofs.Listed.{lists-end, lists-one}
use Rattle.edge_cut.proofs.meetings.push_point.Goals as goal

pub returns-then-is_end : goal.returns-then-is_end
returns-then-is_end c = lists-end c.args.a.edge c.args.a.index c.args.p c.args.meetings.now.items (is-end c.args.a.edge c.args.p (sym c.is_end.ensures ∙ c.if-is_end.true))

pub returns : goal.returns
returns c = lists-one c.args.a.edge c.args.a.index c.args.p c.args.meetings.now.items c.push_one.new.meetings.items c.in_ok-push_one.ensures
