use Rattle.std.proofs.Common.{◌≡◌, ◌++◌, drop}
use Rattle.cura_slice.specs.Listing.{entries}
use Rattle.cura_slice.proofs.listing.push_entries.Given as goal

abbrev pub invariant-loop-setting : goal.invariant-loop-setting
invariant-loop-setting l = l.text.items ++ entries l.group (drop l.setting-index l.settings) ≡ l.initial.text.items ++ entries l.group l.settings
