-- The sum over a loop's edges, edge by edge.
use Rattle.std.proofs.Common.{◌≡◌, ℕ, ◌<◌, ◌+◌, false, List, [], length, get_or, drop, ℤ, pos, ◌+ℤ◌, ◌∙◌, sym, ap, add-one, drop-cons}
use Rattle.std.proofs.Math.IntN.{+ℤ_assoc, +ℤ_idr}
use Rattle.slice_base.specs.declared.points.Pt.{Pt}
use Rattle.clip_core.specs.Outlines.{edges_from}
use Rattle.clip_core.specs.Areas.{wedge, sum_of_wedges}

-- what an index past the end would read
abbrev pub origin : Pt
origin = record { x = pos 0; y = pos 0 }

-- the parts of the edges from p on
abbrev pub rest_of : Pt → Pt → List Pt → ℤ
rest_of first p qs = sum_of_wedges (edges_from false first p qs)

rest_of-drop : (first p : Pt) (qs : List Pt) (i : ℕ) → i < length qs → rest_of first p (drop i qs) ≡ wedge p (get_or qs i origin) +ℤ rest_of first (get_or qs i origin) (drop (i + 1) qs)
rest_of-drop first p qs i below = rw (add-one i, drop-cons qs i origin)

-- one more edge
pub rest_of-step : (first p : Pt) (qs : List Pt) (i : ℕ) (sum new whole : ℤ) → i < length qs → new ≡ sum +ℤ wedge p (get_or qs i origin) → sum +ℤ rest_of first p (drop i qs) ≡ whole → new +ℤ rest_of first (get_or qs i origin) (drop (i + 1) qs) ≡ whole
rest_of-step first p qs i sum new whole below added so_far =
    let q = get_or qs i origin in
    let rest = rest_of first q (drop (i + 1) qs) in
    ap (λ (n : ℤ). n +ℤ rest) added
    ∙ (+ℤ_assoc sum (wedge p q) rest
    ∙ (ap (λ (n : ℤ). sum +ℤ n) (sym (rest_of-drop first p qs i below)) ∙ so_far))

-- the last edge goes round to the first point
pub rest_of-end : (first p : Pt) (qs : List Pt) (sum new whole : ℤ) → qs ≡ [] → new ≡ sum +ℤ wedge p first → sum +ℤ rest_of first p qs ≡ whole → new ≡ whole
rest_of-end first p qs sum new whole none added so_far =
    let h : sum +ℤ (wedge p first +ℤ pos 0) ≡ whole = rw none at so_far in
    added ∙ (ap (λ (n : ℤ). sum +ℤ n) (sym (+ℤ_idr (wedge p first))) ∙ h)
