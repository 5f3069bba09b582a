use Rattle.std.proofs.Common.{◌≡◌, drop}
use Rattle.std.specs.List.{All}
use Rattle.slice_base.specs.Boxes.{Box}
use Rattle.clip_core.specs.Clip.{clipped_of}
use Rattle.slice_base.specs.Regions.{RegionIn}
use Rattle.clip_core.specs.declared.keeping.Operation.TheVariants.{Meet}
use Rattle.slice_base.specs.Outcomes.{fold_ok}
use Rattle.wall_skin.proofs.skins.meet_all.Given as goal

abbrev pub invariant-loop-other : goal.invariant-loop-other
invariant-loop-other l = record {
  so_far : fold_ok (clipped_of Meet) l.shared (drop l.other-index l.others) ≡ fold_ok (clipped_of Meet) l.fn.first l.others;
  within : (box : Box) → RegionIn box l.fn.first → All (RegionIn box) l.others → RegionIn box l.shared;
}
