use Rattle.std.proofs.Common.{◌≡◌, ◌≤◌, ◌*◌, length}
use Rattle.std.specs.List.{All, sum_by}
use Rattle.plan_types.specs.Areas.{IsLoop}
use Rattle.layer_plan.proofs.tests.islands.Given as goal

abbrev pub invariant-loop-i : goal.invariant-loop-i
invariant-loop-i l = record {
  loops : All (IsLoop 1600000) l.region;
  few : sum_by length l.region ≡ l.i * 4;
}
