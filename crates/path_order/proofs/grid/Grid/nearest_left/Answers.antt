use Rattle.std.proofs.Common.{sym, ◌∙◌}
use Rattle.path_order.proofs.Far.{close-is}
use Rattle.path_order.proofs.grid.Grid.nearest_left.Goals as goal

pub returns-then-is_close : goal.returns-then-is_close
returns-then-is_close c =
    close-is c.args.gone.now c.args.at c.args.self.now.starts.items c.look_around-found.result c.args.self.now.side c.wider.reach c.requires.some_side (sym c.is_close.ensures ∙ c.if-is_close.true) c.look_around-found.ensures.found c.look_around-found.ensures.seen
