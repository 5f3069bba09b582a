-- Numbers that are drawn one after another, by a linear congruence.
use Rattle.std.specs.Prelude.{ℕ, zero, suc, ◌+◌, ◌*◌, ◌/◌, ◌%◌, ◌^◌, List, [], ◌∷◌, ◌++◌}

-- the state after one more draw
abbrev pub after_draw : ℕ → ℕ
after_draw state = (state * 1664525 + 1013904223) % 2 ^ 32

-- the state after n draws
unfoldable pub after_draws : ℕ → ℕ → ℕ
after_draws state zero = state
after_draws state (suc n) = after_draw (after_draws state n)

-- the radius that a state gives, 9.000 to 9.500 mm, in µm
abbrev pub radius_at : ℕ → ℕ
radius_at state = 9000 + state / 65536 % 501
