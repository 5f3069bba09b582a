use Rattle.std.proofs.Common.{ℕ, ◌<◌, ◌≤◌, ◌+◌, sym, subst}
use Rattle.edge_cut.specs.Inner.Columns.{column_of}
use Rattle.edge_cut.proofs.InColumns.{le-next}
use Rattle.edge_cut.proofs.columns.file.Goals as goal

pub returns-clause-each : goal.returns-clause-each
returns-clause-each c k after before =
    c.in_ok-push_columns.ensures.each k
    (subst (λ (n : ℕ). n ≤ k) (sym c.first_column-first.ensures) after)
    (subst (λ (n : ℕ). k < n + 1) (sym c.last_column-last.ensures) (le-next k (column_of c.args.bits c.args.extent.across.high) before))
