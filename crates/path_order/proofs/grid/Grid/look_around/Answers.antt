use Rattle.std.proofs.Common.{◌≡◌, ◌<◌, ◌≤◌, ◌+◌, ◌-◌, ℕ, length, get_or, ◌⊎◌, inl, inr, arith}
use Rattle.path_order.specs.Inner.Remaining.{no_start}
use Rattle.path_order.specs.Inner.Squares.{strip_of}
use Rattle.path_order.proofs.Looking.{below-or}
use Rattle.path_order.proofs.grid.Grid.look_around.Goals as goal

pub rows-preserved : goal.rows-preserved
rows-preserved c =
    let g = c.args.self.now in
    let ss = g.starts.items in
    record {
      from = omega arith;
      found = c.look_in_row-found.ensures.found;
      seen = λ k within from lt left right.
          elim (below-or (strip_of g.side (get_or ss k no_start).at.y) c.rows.row lt) [
            | inl before ↦ c.look_in_row-found.ensures.kept (get_or ss k no_start) (c.rows.invariant.seen k within from before left right)
            | inr here ↦ c.look_in_row-found.ensures.seen k within here left right
          ];
    }

pub returns-clause-seen : goal.returns-clause-seen
returns-clause-seen c = λ k within near.
    let a = near.left in
    let b = near.right in
    let f = near.front in
    let h = near.back in
    c.rows.invariant.seen k within (omega arith) (omega arith) (omega arith) (omega arith)
