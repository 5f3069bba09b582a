-- Which extruders there are.
use Rattle.std.specs.Prelude.{ℕ, ◌≡◌, ◌<◌, true}
use Rattle.plan_types.specs.Extruders.{has_bit}

-- each extruder of the set has a number below n
abbrev pub AreBelow : ℕ → ℕ → Type 0
AreBelow n bits = (e : ℕ) → has_bit bits e ≡ true → e < n
