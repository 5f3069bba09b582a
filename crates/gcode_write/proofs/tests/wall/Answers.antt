use Rattle.std.proofs.Common.{rules, ◌≤◌, ◌<◌, ◌^◌, ◌≡◌, true, subst, sym, arith, to_z, of_z, w32}
use mir.Val.{SFits}
use Rattle.std.proofs.lemmas.Int.{to_z-of_z}
use Rattle.std.specs.Prelude.{pos}
use Rattle.std.specs.Int.RustNames.{unsigned_abs}
use Rattle.plan_types.specs.Paths.{PathValue}
use Rattle.plan_types.specs.declared.plans.Kind.TheVariants.{WallOuter}
use Rattle.gcode_write.proofs.Plates.{wall_small}
use Rattle.gcode_write.proofs.tests.wall.Goals as goal

pub returns-clause-small : goal.returns-clause-small
returns-clause-small c =
    let p : PathValue = record { kind = WallOuter; width = pos 400; thickness = to_z w32 (of_z w32 c.args.thickness); speed = 30000; points = c.in_ok-of.field-0; retract = true; time = c.args.time; before = 0 } in
    let k = c.args.corners in
    let wide : unsigned_abs (pos 400) ≤ 400 = omega arith in
    let fits : SFits w32 c.args.thickness = search rules in
    let thin : unsigned_abs (to_z w32 (of_z w32 c.args.thickness)) ≤ 2000 = subst (λ z. unsigned_abs z ≤ 2000) (sym (to_z-of_z w32 c.args.thickness fits)) c.requires.thin in
    let time : c.args.time < 2 ^ 64 = search (rules, arith) in
    wall_small c.new-paths.result c.push.new.self p k.0 k.1 k.2 k.3 c.new-paths.ensures c.in_ok-push.ensures.ok c.in_ok-of.ensures wide thin time
    (subst (λ z. z ≤ 5656855) c.length.ensures.exact c.length.ensures.small)
    (subst (λ z. z ≤ 5656855) c.length-2.ensures.exact c.length-2.ensures.small)
    (subst (λ z. z ≤ 5656855) c.length-3.ensures.exact c.length-3.ensures.small)
    (subst (λ z. z ≤ 5656855) c.length-4.ensures.exact c.length-4.ensures.small)
