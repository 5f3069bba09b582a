use Rattle.std.proofs.Common.{◌≡◌, ◌∙◌, List, ap, sym, subst}
use Rattle.plan_types.specs.Plans.{LayerPlanValue}
use Rattle.preheat_plan.specs.Past.{rules_of}
use Rattle.preheat_plan.specs.Held.{place_in, put_at}
use Rattle.plan_store.specs.Inner.Sound.{held_of, end_of_held, IsSound}
use Rattle.plan_store.proofs.Sound.{put_done, heated-sound, heated-end}
use Rattle.plan_store.proofs.placing.heat.Goals as goal

pub returns-clause-held : goal.returns-clause-held
returns-clause-held c =
    let ls = c.args.store.now in
    let m = c.args.marks in
    let e = c.args.e in
    let r = rules_of c.args.job.now in
    let n = place_in r e (held_of ls m) in
    let plans : c.put.new.self ≡ put_at n e (r.degrees e) ls = put_done ls c.put.new.self c.spot-spot.result n e c.degrees.result c.spot-spot.ensures.spot c.spot-spot.ensures.number c.put.ensures ∙ ap (λ d. put_at n e d ls) (sym c.degrees.ensures) in
    ap (λ (ls : List LayerPlanValue). held_of ls (record m { current = e })) plans

pub returns-clause-sound : goal.returns-clause-sound
returns-clause-sound c =
    let ls = c.args.store.now in
    let m = c.args.marks in
    let e = c.args.e in
    let n = place_in (rules_of c.args.job.now) e (held_of ls m) in
    let plans : c.put.new.self ≡ put_at n e c.degrees.result ls = put_done ls c.put.new.self c.spot-spot.result n e c.degrees.result c.spot-spot.ensures.spot c.spot-spot.ensures.number c.put.ensures in
    subst (λ (ls : List LayerPlanValue). IsSound ls (record m { current = e })) (sym plans) (heated-sound n e c.degrees.result ls m c.requires.sound)

pub returns-clause-end : goal.returns-clause-end
returns-clause-end c =
    let ls = c.args.store.now in
    let m = c.args.marks in
    let e = c.args.e in
    let n = place_in (rules_of c.args.job.now) e (held_of ls m) in
    let plans : c.put.new.self ≡ put_at n e c.degrees.result ls = put_done ls c.put.new.self c.spot-spot.result n e c.degrees.result c.spot-spot.ensures.spot c.spot-spot.ensures.number c.put.ensures in
    ap (λ (ls : List LayerPlanValue). end_of_held ls (record m { current = e })) plans ∙ heated-end n e c.degrees.result ls m
