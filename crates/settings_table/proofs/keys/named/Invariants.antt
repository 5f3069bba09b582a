use Rattle.std.proofs.Common.{◌≡◌, drop}
use Rattle.settings_table.specs.Keys.{named}
use Rattle.settings_table.proofs.keys.named.Given as goal

abbrev pub invariant-loop-setting : goal.invariant-loop-setting
invariant-loop-setting l = named (drop l.setting-index l.settings) l.key ≡ named l.settings l.key
