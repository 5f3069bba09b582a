use Rattle.std.proofs.Common.{◌≡◌, ◌+◌}
use Rattle.plan_buffer.proofs.tests.accept_all.Given as goal

abbrev pub invariant-loop-number : goal.invariant-loop-number
invariant-loop-number l = l.buffer.window.taken ≡ l.initial.buffer.window.taken + l.number
