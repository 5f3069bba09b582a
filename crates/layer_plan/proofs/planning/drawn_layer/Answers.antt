use Rattle.std.proofs.Common.{◌≡◌, ◌==◌, ◌<◌, ◌≤◌, ℕ, List, length, to_z, of_z, w32, sym, subst}
use Rattle.std.specs.List.{All, count_by}
use Rattle.layer_plan.specs.declared.groups.Sheet.{Sheet}
use Rattle.layer_plan.proofs.Extruders.{drawn-once, plans-known}
use Rattle.layer_plan.proofs.planning.drawn_layer.Goals as goal

pub returns-clause-known : goal.returns-clause-known
returns-clause-known c =
    let job = c.args.job.now in
    let sheet : Sheet = record { number = c.args.layer; thickness = to_z w32 (of_z w32 c.args.areas.now.thickness) } in
    plans-known job sheet c.items.result.now c.start_of-start.result c.extruders.result.now c.in_ok-plans.plans c.in_ok-plans.ensures.exact
    (subst (λ (es : List ℕ). All (λ e. e < length job.settings.extruders) es) (sym c.extruders.ensures.value) c.requires.layer.known)

pub returns-clause-once : goal.returns-clause-once
returns-clause-once c =
    let sheet : Sheet = record { number = c.args.layer; thickness = to_z w32 (of_z w32 c.args.areas.now.thickness) } in
    drawn-once c.args.job.now sheet c.items.result.now c.start_of-start.result c.extruders.result.now c.in_ok-plans.plans c.in_ok-plans.ensures.exact
    (subst (λ (es : List ℕ). (e : ℕ) → count_by (λ k. k == e) es ≤ 1) (sym c.extruders.ensures.value) c.requires.layer.once)
