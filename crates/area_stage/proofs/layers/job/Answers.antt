use Rattle.std.proofs.Common.{ℕ, ◌<◌, List, arith, sym, ap, subst, length}
use Rattle.std.specs.List.{All}
use Rattle.settings_core.specs.Values.{SettingsValue}
use Rattle.area_stage.specs.Inner.Layers.{AreBelow}
use Rattle.area_stage.proofs.layers.job.Goals as goal

pub invariant_of-result : goal.invariant_of-result
invariant_of-result c =
    let n = length c.args.settings.extruders in
    let v = ap (λ (s : SettingsValue). length s.extruders) c.settings.view_is in
    let some : 0 < length c.args.settings.extruders = omega (arith, v, c.settings.invariant.extruder_count, c.settings.invariant.whole_print.machine_extruder_count.0) in
    let first_all = subst (λ (l : List ℕ). All (AreBelow (length c.args.settings.extruders)) l) (sym c.items-2.ensures) c.in_ok-wanted.ensures.known in
    let used_all = subst (λ (l : List ℕ). All (AreBelow (length c.args.settings.extruders)) l) (sym c.items-3.ensures) c.in_ok-wanted.ensures.known in
    record {
      some = omega (arith, c.requires.some);
      few = omega (arith, c.in_ok-layers.ensures.count, c.requires.few);
      layers_are = c.in_ok-layers.ensures.sound;
      skirt_is = c.requires.lines;
      first_is = c.first-first.ensures.known n some first_all;
      used_are = c.used-used.ensures.known n used_all;
    }
