use Rattle.std.proofs.Common.{◌≡◌, ◌+◌, ◌≤◌, length}
use Rattle.std.specs.List.{All}
use Rattle.std.specs.Vec.Iter.{into_iter_items}
use Rattle.plate_input.specs.declared.files.TheConstants.{MOST_BYTES}
use Rattle.plate_input.specs.Inner.Stages.{LiesInside}
use Rattle.plate_input.proofs.Rows.{Reached}
use Rattle.plate_input.proofs.meshes.place_meshes.Given as goal

abbrev pub invariant-loop-bytes : goal.invariant-loop-bytes
invariant-loop-bytes l = record {
  reached : Reached l.settings l.fn.files l.meshes l.number (into_iter_items l.bytes-iterator);
  inside : All (LiesInside l.settings) l.meshes;
  short : All (λ bytes. length bytes ≤ MOST_BYTES) (into_iter_items l.bytes-iterator);
  count : l.number + length (into_iter_items l.bytes-iterator) ≡ length l.settings.meshes;
  number : l.number ≡ length l.meshes;
}
