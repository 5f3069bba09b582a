use Rattle.std.proofs.Common.{◌≡◌, ◌≤◌, ◌*◌, ◌^◌, Ok, take}
use Rattle.std.specs.List.{sum_by}
use Rattle.slice_base.specs.Outcomes.{each_ok, up_to}
use Rattle.area_stage.specs.Outlines.{cleaned_of, open_at}
use Rattle.area_stage.specs.Walls.{mesh_walls_of}
use Rattle.area_stage.proofs.walling.layer_walls.Given as goal

abbrev pub invariant-loop-i : goal.invariant-loop-i
invariant-loop-i l = record {
  cleaned : each_ok (cleaned_of l.at.z) (take l.i l.meshes) ≡ Ok l.outlines;
  so_far : up_to (mesh_walls_of l.settings l.meshes l.layer) l.i ≡ Ok l.sets;
  counted : l.open_outlines ≡ sum_by (open_at l.at.z) (take l.i l.meshes);
  few : l.open_outlines ≤ l.i * 2 ^ 32;
  seen : l.i ≤ 16;
}
