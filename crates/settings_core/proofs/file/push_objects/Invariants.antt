use Rattle.std.proofs.Common.{◌≡◌, ◌++◌, drop}
use Rattle.serde_json.specs.View.{items_view}
use Rattle.settings_core.specs.File.{object_pairs}
use Rattle.settings_core.specs.Inner.Contents.{scope_of}
use Rattle.settings_core.proofs.file.push_objects.Given as goal

abbrev pub invariant-loop-object : goal.invariant-loop-object
invariant-loop-object l = record {
  number : l.number ≡ l.object-index;
  pairs : l.pairs ++ object_pairs (scope_of l.owner) l.object-index (items_view (drop l.object-index l.objects)) ≡ l.initial.pairs ++ object_pairs (scope_of l.owner) 0 (items_view l.objects);
}
