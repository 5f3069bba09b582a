use Rattle.std.proofs.Common.{◌≡◌, drop}
use Rattle.slice_engine.specs.Totals.{with_bare_layers}
use Rattle.slice_engine.proofs.totals.with_bare_layers.Given as goal

abbrev pub invariant-layers : goal.invariant-layers
invariant-layers l = with_bare_layers l.so_far (drop l.layer-index l.layers) ≡ with_bare_layers l.fn.n l.layers
