use Rattle.std.proofs.Common.{length, subst}
use Rattle.std.specs.List.{All}
use Rattle.std.proofs.lemmas.List.Elements.{All-head}
use Rattle.preheat_plan.specs.Completed.{KnowsItsExtruders}
use Rattle.plan_buffer.proofs.writing.write_oldest.Goals as goal

pub layer-requires-clause-known : goal.layer-requires-clause-known
layer-requires-clause-known g c =
    let Known = KnowsItsExtruders (length c.args.writer.now.job.now.settings.extruders) in
    All-head Known c.let_go-oldest.result c.let_go-oldest.new.self.held.plans (subst (All Known) c.let_go-oldest.ensures.oldest c.requires.known)
