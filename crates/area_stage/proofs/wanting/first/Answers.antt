use Rattle.std.proofs.lemmas.List.Elements.{All-get_or}
use Rattle.area_stage.specs.Inner.Layers.{AreBelow}
use Rattle.area_stage.proofs.wanting.first.Goals as goal

pub returns-then-w-ne0-clause-known : goal.returns-then-w-ne0-clause-known
returns-then-w-ne0-clause-known c = λ n some h. c.least.ensures.known n some (All-get_or (AreBelow n) c.args.wanted.now c.loop-w.w-index 0 c.loop-w-test.true h)
