use Rattle.std.proofs.Common.{◌∙◌, sym}
use Rattle.clip_core.specs.Inner.Rays.{no_ray}
use Rattle.clip_core.proofs.Begun.{first-more}
use Rattle.clip_core.proofs.starts.first_from.Goals as goal

pub rest-preserved : goal.rest-preserved
rest-preserved c = first-more c.args.strip c.rest.k c.args.rays.now no_ray c.rest-test.true (sym c.is_under.ensures ∙ c.if-is_under.true) c.rest.invariant
