use Rattle.settings_core.proofs.Migrations.{second_items-all}
use Rattle.settings_core.proofs.migrating.second_items.Goals as goal

pub returns : goal.returns
returns c = second_items-all c.loop-item.written.items c.args.items.now c.loop-item.item-index c.loop-item-test.false c.loop-item.invariant
