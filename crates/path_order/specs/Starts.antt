-- Where pieces may begin.
use Rattle.std.specs.Prelude.{ℕ, pos, ◌+◌, ◌<◌, Bool, cond, ◌&&◌, ◌||◌, int_lt, List, [], ◌∷◌, ◌++◌, Option, Some, None}
use Rattle.std.specs.Ordering.{int_eq}
use Rattle.slice_base.specs.declared.points.Pt.{Pt}
use Rattle.settings_core.specs.declared.resolved.Seam.{Seam}
use Rattle.settings_core.specs.declared.resolved.Seam.TheVariants.{Shortest, Back}
use Rattle.path_order.specs.declared.pieces.Piece.{Piece}
use Rattle.path_order.specs.declared.starts.Start.{Start}

-- each point of the piece of this number, the first one counted as i
abbrev pub starts_at : ℕ → ℕ → List Pt → List Start
starts_at piece i [] = []
starts_at piece i (p ∷ ps) = record { piece = piece; start = i; at = p } ∷ starts_at piece (i + 1) ps

-- p has a greater y than q, or the same and a lesser x
abbrev pub is_further_back : Pt → Pt → Bool
is_further_back p q = int_lt q.y p.y || (int_eq p.y q.y && int_lt p.x q.x)

-- the one that is further back; the first of two at one place
abbrev pub further_back : Option Start → Start → Option Start
further_back None s = Some s
further_back (Some best) s = cond (is_further_back s.at best.at) (Some s) (Some best)

-- the one that is furthest back, of the best so far and these
abbrev pub furthest_back : Option Start → List Start → Option Start
furthest_back best [] = best
furthest_back best (s ∷ ss) = furthest_back (further_back best s) ss

-- one start, or none
abbrev pub one_or_none : Option Start → List Start
one_or_none None = []
one_or_none (Some s) = s ∷ []

-- the one that is furthest back alone
abbrev pub back_of : List Start → List Start
back_of ss = one_or_none (furthest_back None ss)

-- where the piece of this number may begin: at each of its points, but with the seam at the back a closed piece only at
-- the one that is furthest back
abbrev pub starts_of : Seam → ℕ → Piece → List Start
starts_of Shortest n p = starts_at n 0 p.points
starts_of Back n p = cond p.closed (back_of (starts_at n 0 p.points)) (starts_at n 0 p.points)

-- where these pieces may begin, the first one counted as n
abbrev pub all_starts : Seam → ℕ → List Piece → List Start
all_starts seam n [] = []
all_starts seam n (p ∷ ps) = starts_of seam n p ++ all_starts seam (n + 1) ps
