use Rattle.std.proofs.Common.{◌∙◌}
use Rattle.plan_store.proofs.Sound.{let_go-whole}
use Rattle.plan_store.proofs.window.Window.let_go.Goals as goal

pub invariant_of-self : goal.invariant_of-self
invariant_of-self c =
    let_go-whole c.self.inside.store c.take_first-oldest.new.self c.take_first-oldest.result c.self.inside.marks c.from.result c.layer_time.result c.take_first-oldest.ensures (c.from.ensures ∙ c.path_count.ensures) c.layer_time.ensures c.self.invariant
