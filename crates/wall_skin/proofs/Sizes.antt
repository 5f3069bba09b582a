-- Regions that clipping gives are small.
use Rattle.std.proofs.Common.{◌≤◌, List, [], Result, Ok, Err, arith}
use Rattle.std.specs.Prelude.{IfOk}
use Rattle.std.proofs.lemmas.List.Elements.{All-nil}
use Rattle.slice_base.specs.declared.points.Pt.{Pt}
use Rattle.slice_base.specs.Regions.{points_in, HaveAtLeast}
use Rattle.edge_cut.specs.declared.cutting.CutFault.{CutFault}
use Rattle.wall_skin.specs.Sizes.{IsSmall}

-- as the calls of clipping say it in two clauses
pub small-both : (r : Result (List (List Pt)) CutFault) → IfOk r (λ region. points_in region ≤ 150000) → IfOk r (λ region. HaveAtLeast 1 region) → IfOk r IsSmall
small-both (Ok region) few least = record { few = few; least = least }
small-both (Err fault) few least = tt

pub small-none : IsSmall []
small-none = record { few = omega arith; least = All-nil (λ (l : List Pt). 1 ≤ _) }
