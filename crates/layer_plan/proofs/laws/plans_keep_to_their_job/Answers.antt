use Rattle.layer_plan.proofs.Extruders.{planned-known, planned-once}
use Rattle.layer_plan.proofs.laws.plans_keep_to_their_job.Goals as goal

pub returns-clause-known : goal.returns-clause-known
returns-clause-known c = planned-known

pub returns-clause-once : goal.returns-clause-once
returns-clause-once c = planned-once
