use Rattle.std.proofs.Common.{◌≡◌, ◌+◌, ◌<◌, ◌≤◌, ◌∙◌, List, length, map, ap, sym, arith}
use Rattle.std.specs.List.{All, sum_by}
use Rattle.std.proofs.lemmas.List.Elements.{All-map, All-same, All-weaker}
use Rattle.plan_types.specs.declared.plans.ExtruderPlan.{ExtruderPlan}
use Rattle.plan_types.specs.Plans.{LayerPlanValue}
use Rattle.plan_types.specs.Jobs.{Names}
use Rattle.preheat_plan.specs.declared.uses.Use.{Use}
use Rattle.preheat_plan.specs.Past.{rules_of}
use Rattle.preheat_plan.specs.Held.{use_of}
use Rattle.plan_store.specs.Windows.{WindowValue}
use Rattle.plan_store.proofs.Sound.{pushed-sound, pushed-end}
use Rattle.plan_store.proofs.window.Window.take.Goals as goal

pub uses_of-uses-requires : goal.uses_of-uses-requires
uses_of-uses-requires c =
    let s = c.args.job.now.settings in
    let plans = c.args.plan.plans in
    let low : All (λ (x : ExtruderPlan). x.extruder < 8) plans = All-weaker (Names s) (λ (x : ExtruderPlan). x.extruder < 8) (λ x h. omega (arith, h, c.extruder_count-count.ensures.exact, c.extruder_count-count.ensures.few)) plans c.requires.known in
    let is : c.items.result.now ≡ plans = c.items.ensures ∙ ap (λ (l : LayerPlanValue). l.plans) c.plan.view_is in
    omega (arith, ap (λ (xs : List ExtruderPlan). length xs) is, c.eight_at_most.ensures plans low c.requires.once)

pub go_all-self-inside-requires-clause-known : goal.go_all-self-inside-requires-clause-known
go_all-self-inside-requires-clause-known c =
    let s = c.args.job.now.settings in
    let plans = c.args.plan.plans in
    let P : Use → Type 0 = λ u. (u.extruder < 8) × (u.extruder < length s.extruders) in
    let low : All (λ (x : ExtruderPlan). P (use_of x)) plans = All-weaker (Names s) (λ (x : ExtruderPlan). P (use_of x)) (λ x h. (omega (arith, h, c.extruder_count-count.ensures.exact, c.extruder_count-count.ensures.few), h)) plans c.requires.known in
    let is : c.as_slice.result.now ≡ map use_of plans = c.as_slice.ensures.value ∙ c.uses_of-uses.ensures ∙ ap (map use_of) (c.items.ensures ∙ ap (λ (l : LayerPlanValue). l.plans) c.plan.view_is) in
    All-same P c.as_slice.result.now (map use_of plans) is (All-map P use_of plans low)

pub go_all-self-inside-requires-clause-enough : goal.go_all-self-inside-requires-clause-enough
go_all-self-inside-requires-clause-enough c =
    let plans = c.args.plan.plans in
    let is : c.as_slice.result.now ≡ map use_of plans = c.as_slice.ensures.value ∙ c.uses_of-uses.ensures ∙ ap (map use_of) (c.items.ensures ∙ ap (λ (l : LayerPlanValue). l.plans) c.plan.view_is) in
    omega (arith, pushed-end c.push.new.self c.self.inside.store c.args.plan c.with_lead-plan.result c.self.inside.marks (rules_of c.args.job.now).speed c.as_slice.result.now c.push.ensures c.with_lead-plan.ensures.exact is c.self.invariant)

pub go_all-self-inside-requires-clause-sound : goal.go_all-self-inside-requires-clause-sound
go_all-self-inside-requires-clause-sound c =
    let taken : c.self.inside.marks.taken < 40000 = omega (arith, c.requires.few, ap (λ (w : WindowValue). w.taken) c.self.view_is) in
    pushed-sound c.push.new.self c.self.inside.store c.args.plan c.with_lead-plan.result c.self.inside.marks (rules_of c.args.job.now).speed c.end_of_plans-end.result c.push.ensures c.with_lead-plan.ensures.exact c.end_of_plans-end.ensures.inside c.with_lead-plan.ensures.few c.with_lead-plan.ensures.time taken c.self.invariant

pub invariant_of-self : goal.invariant_of-self
invariant_of-self c =
    let plans = c.args.plan.plans in
    let is : c.as_slice.result.now ≡ map use_of plans = c.as_slice.ensures.value ∙ c.uses_of-uses.ensures ∙ ap (map use_of) (c.items.ensures ∙ ap (λ (l : LayerPlanValue). l.plans) c.plan.view_is) in
    let all = pushed-end c.push.new.self c.self.inside.store c.args.plan c.with_lead-plan.result c.self.inside.marks (rules_of c.args.job.now).speed c.as_slice.result.now c.push.ensures c.with_lead-plan.ensures.exact is c.self.invariant in
    record {
      sound = c.go_all-self-inside.ensures.sound;
      all = omega (arith, all, c.go_all-self-inside.ensures.next, c.go_all-self-inside.ensures.end);
    }
