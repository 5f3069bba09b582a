use Rattle.std.proofs.Common.{◌≡◌, drop}
use Rattle.plan_types.specs.Leads.{lead_of}
use Rattle.preheat_plan.specs.Past.{rules_of}
use Rattle.preheat_plan.proofs.leads.lead.Given as goal

abbrev pub invariant-loop-x : goal.invariant-loop-x
invariant-loop-x l = lead_of (rules_of l.job).speed l.at (drop l.x-index l.plans) ≡ lead_of (rules_of l.job).speed l.at l.plans
