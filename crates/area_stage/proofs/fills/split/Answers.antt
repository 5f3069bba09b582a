use Rattle.std.proofs.Common.{List, sym, subst}
use Rattle.std.specs.List.{All}
use Rattle.slice_base.specs.declared.points.Pt.{Pt}
use Rattle.slice_base.specs.Boxes.{around}
use Rattle.slice_base.specs.Regions.{RegionIn}
use Rattle.area_stage.proofs.Regions.{area-is, all_in}
use Rattle.area_stage.proofs.fills.split.Goals as goal

pub invariant_of-result : goal.invariant_of-result
invariant_of-result c =
    let inside : All (RegionIn (around 1600000)) c.items.result.now = subst (λ (l : List (List (List Pt))). All (RegionIn (around 1600000)) l) (sym c.items.ensures) (all_in c.column.inside.inners c.column.invariant) in
    record {
      skin_is = area-is c.in_ok-parts.parts.skin c.in_ok-parts.ensures.skin_small (c.in_ok-parts.ensures.skin_within (around 1600000) inside);
      fill_is = area-is c.in_ok-parts.parts.fill c.in_ok-parts.ensures.fill_small (c.in_ok-parts.ensures.fill_within (around 1600000) inside);
    }
