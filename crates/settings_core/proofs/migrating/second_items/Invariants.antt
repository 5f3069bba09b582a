use Rattle.std.proofs.Common.{◌≡◌, map, take}
use Rattle.serde_json.specs.View.{view}
use Rattle.settings_core.proofs.Migrations.{second_item}
use Rattle.settings_core.proofs.migrating.second_items.Given as goal

abbrev pub invariant-loop-item : goal.invariant-loop-item
invariant-loop-item l = map view l.written.items ≡ map second_item (take l.item-index l.items)
