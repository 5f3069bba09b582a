use Rattle.std.proofs.Common.{◌≡◌, ◌∷◌, drop}
use Rattle.slice_base.specs.Boxes.{around}
use Rattle.slice_base.specs.Regions.{RegionIn}
use Rattle.slice_base.specs.Outcomes.{fold_ok}
use Rattle.clip_core.specs.declared.keeping.Operation.TheVariants.{Unite}
use Rattle.clip_core.specs.Clip.{clipped_of}
use Rattle.area_stage.proofs.skirts.united.Given as goal

abbrev pub invariant-loop-other : goal.invariant-loop-other
invariant-loop-other l = record {
  so_far : fold_ok (clipped_of Unite) l.all (drop l.other-index l.others) ≡ fold_ok (clipped_of Unite) l.first (l.second ∷ l.others);
  within : RegionIn (around 1000000) l.all;
}
