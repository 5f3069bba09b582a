use Rattle.clip_core.proofs.Lone.{meet-first, meet-second, subtract-second}
use Rattle.clip_core.proofs.laws.lone_operand_keeps_none.Goals as goal

pub returns-clause-meet_first : goal.returns-clause-meet_first
returns-clause-meet_first c h = meet-first c.args.edges.now h

pub returns-clause-meet_second : goal.returns-clause-meet_second
returns-clause-meet_second c h = meet-second c.args.edges.now h

pub returns-clause-subtract : goal.returns-clause-subtract
returns-clause-subtract c h = subtract-second c.args.edges.now h
