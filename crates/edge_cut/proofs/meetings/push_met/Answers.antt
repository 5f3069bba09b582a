use Rattle.edge_cut.proofs.Listed.{compares-both}
use Rattle.edge_cut.proofs.meetings.push_met.Goals as goal

pub returns : goal.returns
returns c = compares-both c.args.all.now c.args.i c.args.j c.args.meetings.now.items c.push_meetings.new.meetings.items c.requires.i_in c.requires.j_in c.in_ok-push_meetings.ensures
