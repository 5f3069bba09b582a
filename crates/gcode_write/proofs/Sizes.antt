-- How great volumes and filament are.
use Rattle.std.proofs.Common.{ℕ, ◌≡◌, ◌+◌, ◌*◌, ◌/◌, ◌^◌, ◌<◌, ◌≤◌, arith}
use Rattle.std.specs.Prelude.{pos}
use Rattle.std.specs.Int.RustNames.{unsigned_abs}
use Rattle.std.proofs.lemmas.Nat.{mul-le, div_below}
use Rattle.settings_core.specs.Values.{ExtruderSettingsValue}
use Rattle.plan_types.specs.Paths.{PathValue}
use Rattle.plan_types.specs.Plans.{volume_of}
use Rattle.gcode_write.specs.Filament.{filament_through, path_volume_of}

small_over : (n d : ℕ) → n < 83076749736557242056487941267521536 * 452 → 88750000 ≤ d → d ≤ 35500000000 → 2 * n + d < 633825300114114700748351602688 * (2 * d)
small_over n d a b c = omega (arith, a, b, c)

pub filament_small : (d v : ℕ) → 500 ≤ d → d ≤ 10000 → v < 2 ^ 116 → unsigned_abs (filament_through d v) < 2 ^ 99
filament_small d v low high small =
    let least : 500 * 500 ≤ d * d = mul-le 500 500 d d low low in
    let most : d * d ≤ 10000 * 10000 = mul-le d d 10000 10000 high high in
    let n : v * 452 < 83076749736557242056487941267521536 * 452 = omega (arith, small) in
    let k : 0 < 2 * (355 * (d * d)) = omega (arith, least) in
    div_below (2 * (v * 452) + 355 * (d * d)) (2 * (355 * (d * d))) 633825300114114700748351602688 k (small_over (v * 452) (355 * (d * d)) n (omega (arith, least)) (omega (arith, most)))

-- the flow is at most 500 percent
pub path_volume_small : (x : ExtruderSettingsValue) (p : PathValue) → x.material_flow ≤ 500 → path_volume_of x p ≤ 500 * volume_of p
path_volume_small x p flow = omega (arith, mul-le (volume_of p) x.material_flow (volume_of p) 500 (omega arith) flow)

-- a product of a sum
pub spread : (m n a f : ℕ) → (m + n) * a * f ≡ m * a * f + n * a * f
spread m n a f = grind arith
