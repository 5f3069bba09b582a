-- Spans, and the indices of those that pass a test.
use Rattle.std.specs.Prelude.{ℕ, suc, ℤ, Bool, cond, ◌&&◌, int_le, int_lt, ◌+ℤ◌, List, [], ◌∷◌}
use Rattle.clip_bands.specs.declared.bands.Span.{Span}

-- the two spans share a number
abbrev pub touches : Span → Span → Bool
touches s t = int_le s.low t.high && int_le t.low s.high

-- the span holds half of this number, its upper end left out
abbrev pub holds : ℤ → Span → Bool
holds twice s = int_le (s.low +ℤ s.low) twice && int_lt twice (s.high +ℤ s.high)

-- the indices of the spans that pass the test, rising, where the first span stands at i
abbrev pub indices_from : (Span → Bool) → ℕ → List Span → List ℕ
indices_from test i [] = []
indices_from test i (s ∷ ss) = cond (test s) (i ∷ indices_from test (suc i) ss) (indices_from test (suc i) ss)

-- the indices of the spans that pass the test, rising
abbrev pub indices : (Span → Bool) → List Span → List ℕ
indices test ss = indices_from test 0 ss
