use Rattle.std.proofs.Common.{◌≡◌}
use Rattle.area_stage.specs.Inner.Columns.{no_columns}
use Rattle.area_stage.proofs.columns.no_columns.Given as goal

abbrev pub invariant-loop : goal.invariant-loop
invariant-loop l = l.columns ≡ no_columns l.counter
