use Rattle.std.proofs.Common.{◌≡◌}
use Rattle.sample_meshes.specs.Draws.{after_draws}
use Rattle.sample_meshes.proofs.draws.skip_draws.Given as goal

abbrev pub invariant-draws : goal.invariant-draws
invariant-draws l = l.state ≡ after_draws l.start l.drawn
