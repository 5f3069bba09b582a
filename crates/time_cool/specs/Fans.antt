-- The fan.
use Rattle.std.specs.Prelude.{ℕ, ◌+◌, ◌-◌, ◌*◌, nat_le, cond}
use Rattle.slice_base.specs.Whole.{round_nat}
use Rattle.settings_core.specs.Values.{SettingsValue as Settings}

-- the power of the fan on a layer, in 255ths: full from the layer that is the full one, counted from 1; below it in
-- proportion
abbrev pub fan_of : Settings → ℕ → ℕ
fan_of s layer =
    cond (nat_le s.cool_fan_full_layer (layer + 1)) (round_nat (255 * s.cool_fan_speed) 100)
    (round_nat (255 * s.cool_fan_speed * layer) (100 * (s.cool_fan_full_layer - 1)))
