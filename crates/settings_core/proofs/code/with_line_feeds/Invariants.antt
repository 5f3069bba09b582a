use Rattle.std.proofs.Common.{◌≡◌, ◌++◌, length}
use Rattle.settings_core.specs.Code.{with_line_feeds}
use Rattle.settings_core.proofs.code.with_line_feeds.Given as goal

abbrev pub invariant-bytes : goal.invariant-bytes
invariant-bytes l = l.lines.items ++ with_line_feeds l.rest ≡ with_line_feeds l.text

abbrev pub decreases-bytes : goal.decreases-bytes
decreases-bytes l = length l.rest
