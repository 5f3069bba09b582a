use Rattle.std.proofs.Common.{◌≡◌, drop}
use Rattle.slice_engine.specs.Done.{with_layers, uses_of}
use Rattle.slice_engine.specs.Files.{plans_of}
use Rattle.slice_engine.proofs.uses.uses.Given as goal

abbrev pub invariant-layers : goal.invariant-layers
invariant-layers l = with_layers l.so_far (drop l.layer (plans_of l.job)) ≡ uses_of l.job
