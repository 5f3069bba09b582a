-- How long before its use an extruder starts to heat up. Temperatures are in thousandths of a degree,
-- rates in thousandths of a degree a second, times in µs.
use Rattle.std.specs.Prelude.{ℕ, zero, suc, ◌+◌, ◌-◌, ◌*◌, Bool, cond, min, Option, Some, None}
use Rattle.std.specs.Int.{div_ceil}
use Rattle.settings_core.specs.Values.{ExtruderSettingsValue}

-- from its standby temperature up to its print temperature
abbrev pub rise_of : ExtruderSettingsValue → ℕ
rise_of e = (e.material_print_temperature - e.material_standby_temperature) * 1000

-- how far it has cooled since it was left so long ago; down to standby where it was never used
abbrev pub drop_of : ExtruderSettingsValue → Option ℕ → ℕ
drop_of e None = rise_of e
drop_of e (Some since) = min (rise_of e) (div_ceil (e.machine_nozzle_cool_down_speed * since) 1000000)

-- the time that heating up again takes, and a second more
abbrev pub need_of : ExtruderSettingsValue → Option ℕ → ℕ
need_of e since = div_ceil (drop_of e since * 1000000) e.machine_nozzle_heat_up_speed + 1000000

-- the greatest of the boundaries from front to front + n that covers, else the front
abbrev pub latest : (ℕ → Bool) → ℕ → ℕ → ℕ
latest covers front zero = front
latest covers front (suc n) = cond (covers (front + suc n)) (front + suc n) (latest covers front n)
