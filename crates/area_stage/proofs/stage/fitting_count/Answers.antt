use Rattle.std.proofs.Common.{◌≤◌, arith, ap}
use Rattle.settings_core.specs.Values.{SettingsValue}
use Rattle.area_stage.proofs.Regions.{meshes-around}
use Rattle.area_stage.proofs.stage.fitting_count.Goals as goal

pub returns-then-count-eq0-clause-inside : goal.returns-then-count-eq0-clause-inside
returns-then-count-eq0-clause-inside c =
    let w = ap (λ (s : SettingsValue). s.machine_width) c.settings.view_is in
    let d = ap (λ (s : SettingsValue). s.machine_depth) c.settings.view_is in
    let wide : c.args.settings.now.machine_width ≤ 1000000 = omega (arith, c.settings.invariant.whole_print.machine_width.1, w) in
    let deep : c.args.settings.now.machine_depth ≤ 1000000 = omega (arith, c.settings.invariant.whole_print.machine_depth.1, d) in
    meshes-around c.args.settings.now c.args.meshes.now wide deep c.requires.on_bed

pub returns-then-count-gt-MAX_LAYERS-clause-inside : goal.returns-then-count-gt-MAX_LAYERS-clause-inside
returns-then-count-gt-MAX_LAYERS-clause-inside c =
    let w = ap (λ (s : SettingsValue). s.machine_width) c.settings.view_is in
    let d = ap (λ (s : SettingsValue). s.machine_depth) c.settings.view_is in
    let wide : c.args.settings.now.machine_width ≤ 1000000 = omega (arith, c.settings.invariant.whole_print.machine_width.1, w) in
    let deep : c.args.settings.now.machine_depth ≤ 1000000 = omega (arith, c.settings.invariant.whole_print.machine_depth.1, d) in
    meshes-around c.args.settings.now c.args.meshes.now wide deep c.requires.on_bed

pub returns-clause-inside : goal.returns-clause-inside
returns-clause-inside c =
    let w = ap (λ (s : SettingsValue). s.machine_width) c.settings.view_is in
    let d = ap (λ (s : SettingsValue). s.machine_depth) c.settings.view_is in
    let wide : c.args.settings.now.machine_width ≤ 1000000 = omega (arith, c.settings.invariant.whole_print.machine_width.1, w) in
    let deep : c.args.settings.now.machine_depth ≤ 1000000 = omega (arith, c.settings.invariant.whole_print.machine_depth.1, d) in
    meshes-around c.args.settings.now c.args.meshes.now wide deep c.requires.on_bed
