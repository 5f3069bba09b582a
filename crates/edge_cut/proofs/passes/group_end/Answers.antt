use Rattle.std.proofs.Common.{ap, ◌∙◌}
use Rattle.edge_cut.specs.declared.meetings.Meeting.{Meeting}
use Rattle.edge_cut.specs.Inner.Meetings.{no_meeting}
use Rattle.edge_cut.proofs.Compared.{any-default}
use Rattle.edge_cut.proofs.Read.{group-from}
use Rattle.edge_cut.proofs.passes.group_end.Goals as goal

pub returns-else-meetings-end-clause-next : goal.returns-else-meetings-end-clause-next
returns-else-meetings-end-clause-next c =
    group-from c.args.meetings.now c.args.from c.group.end c.args.index c.requires.reached c.requires.rising c.group.invariant.later c.group.invariant.same (λ d below same. c.if-meetings-end.false (ap (λ (m : Meeting). m.index) (any-default c.args.meetings.now c.group.end no_meeting d below) ∙ same))
