use Rattle.std.proofs.Common.{ℕ, ◌+◌, ◌*◌, ◌^◌, ◌≤◌, ◌≡◌, ◌∙◌, List, map, ap, sym, subst, arith}
use Rattle.std.specs.List.{All}
use Rattle.slice_base.specs.declared.points.Pt.{Pt}
use Rattle.plan_types.specs.declared.plans.ExtruderPlan.{ExtruderPlan}
use Rattle.plan_types.specs.Leads.{lead_of, end_of_plans}
use Rattle.plan_types.specs.Orders.{all_extruders}
use Rattle.plan_types.specs.Plans.{LayerPlanValue, time_in, volume_in}
use Rattle.preheat_plan.specs.Past.{rules_of}
use Rattle.print_totals.specs.declared.amounts.Amounts.{Amounts}
use Rattle.print_totals.specs.Totals.{volume_by}
use Rattle.print_totals.specs.Spending.{SpentValue}
use Rattle.print_totals.specs.Inner.Sound.{plus_each}
use Rattle.print_totals.proofs.Sums.{spent_more, volumes_small, plus_small}
use Rattle.print_totals.proofs.spent.Spent.add.Goals as goal

pub plus_each-self-inside-requires-clause-b : goal.plus_each-self-inside-requires-clause-b
plus_each-self-inside-requires-clause-b c =
    let plans = c.args.layer.now.plans in
    let small : volume_in plans ≤ 2 ^ 90 = subst (λ (l : LayerPlanValue). volume_in l.plans ≤ 2 ^ 90) c.layer.view_is c.layer.invariant.volume_small in
    subst (λ (vs : List ℕ). All (λ v. v ≤ 2 ^ 90) vs) (sym (ap (λ (a : Amounts). a.volumes) c.requires.amounts)) (volumes_small (2 ^ 90) plans small)

pub invariant_of-self : goal.invariant_of-self
invariant_of-self c =
    let plans = c.args.layer.now.plans in
    let small : volume_in plans ≤ 2 ^ 90 = subst (λ (l : LayerPlanValue). volume_in l.plans ≤ 2 ^ 90) c.layer.view_is c.layer.invariant.volume_small in
    let brief : time_in plans ≤ 2 ^ 83 = subst (λ (l : LayerPlanValue). time_in l.plans ≤ 2 ^ 83) c.layer.view_is c.layer.invariant.time_small in
    let each : All (λ v. v ≤ 2 ^ 90) c.args.amounts.volumes = subst (λ (vs : List ℕ). All (λ v. v ≤ 2 ^ 90) vs) (sym (ap (λ (a : Amounts). a.volumes) c.requires.amounts)) (volumes_small (2 ^ 90) plans small) in
    record {
      few = omega (arith, c.requires.room, ap (λ (s : SpentValue). s.plans) c.self.view_is);
      end_in = c.end_of_plans-self-inside.ensures.inside;
      time_small = omega (arith, c.self.invariant.time_small, c.from.ensures, c.lead-lead.ensures.small, brief, ap (λ (a : Amounts). a.time) c.requires.amounts);
      volumes_small = subst (λ (vs : List ℕ). All (λ v. v ≤ (c.self.inside.plans + 1) * 2 ^ 90) vs) (sym c.plus_each-self-inside.ensures)
          (plus_small c.self.inside.plans c.self.inside.volumes c.args.amounts.volumes c.self.invariant.volumes_small each);
    }

pub returns : goal.returns
returns c = λ ls h.
    let job = c.args.job.now in
    let old = c.args.self.now in
    let layer = c.args.layer.now in
    let speed = (rules_of job).speed in
    let plans : c.items-plans.result.now ≡ layer.plans = c.items-plans.ensures ∙ ap (λ (l : LayerPlanValue). l.plans) c.layer.view_is in
    let end : c.end_of_plans-self-inside.result ≡ end_of_plans old.end layer.plans =
    c.end_of_plans-self-inside.ensures.exact ∙ ap (end_of_plans c.self.inside.end) plans ∙ ap (λ (s : SpentValue). end_of_plans s.end layer.plans) c.self.view_is in
    let lead : c.from.result ≡ lead_of speed old.end layer.plans =
    c.from.ensures ∙ c.lead-lead.ensures.exact ∙ ap (lead_of speed c.self.inside.end) plans ∙ ap (λ (s : SpentValue). lead_of speed s.end layer.plans) c.self.view_is in
    let time : c.args.amounts.time ≡ time_in layer.plans = ap (λ (a : Amounts). a.time) c.requires.amounts in
    let before : c.self.inside.time ≡ old.time = ap (λ (s : SpentValue). s.time) c.self.view_is in
    let volumes : c.plus_each-self-inside.result ≡ plus_each old.volumes (map (λ e. volume_by e layer.plans) all_extruders) =
    c.plus_each-self-inside.ensures ∙ ap (λ (s : SpentValue). plus_each s.volumes c.args.amounts.volumes) c.self.view_is ∙ ap (λ (a : Amounts). plus_each old.volumes a.volumes) c.requires.amounts in
    let new : SpentValue = record {
      plans = c.self.inside.plans + 1;
      end = c.end_of_plans-self-inside.result;
      time = c.self.inside.time + (c.from.result + c.args.amounts.time);
      volumes = c.plus_each-self-inside.result;
    } in
    spent_more job ls layer old new (ap (λ (s : SpentValue). s.plans + 1) c.self.view_is) end (omega (arith, lead, time, before)) volumes h
