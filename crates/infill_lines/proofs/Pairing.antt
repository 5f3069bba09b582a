-- Fewer than two places make no line.
use Rattle.std.proofs.Common.{◌≡◌, ◌≤◌, List, [], ◌∷◌, length, refl, arith}
use Rattle.infill_lines.specs.declared.angles.Angle.{Angle}
use Rattle.infill_lines.specs.declared.angles.Place.{Place}
use Rattle.infill_lines.specs.Fill.{paired}

pub paired-short : (angle : Angle) (ps : List Place) → length ps ≤ 1 → paired angle ps ≡ []
paired-short angle [] h = refl
paired-short angle (p ∷ []) h = refl
paired-short angle (p ∷ q ∷ ps) h = absurd (omega arith)
