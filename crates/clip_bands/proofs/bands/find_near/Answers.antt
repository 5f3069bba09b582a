use Rattle.std.proofs.Common.{◌<◌, ◌++◌, drop, length, arith, sym, ◌∙◌}
use Rattle.clip_bands.specs.Indices.{touches, indices_from}
use Rattle.clip_bands.proofs.Blocks.{near-skip, index-step}
use Rattle.clip_bands.proofs.bands.find_near.Goals as goal

pub returns-then-not-touches : goal.returns-then-not-touches
returns-then-not-touches c = record { ok = near-skip c.args.span c.args.block c.args.spans.now c.args.from c.args.found.now.items c.requires.hull (sym c.touches.ensures ∙ c.if-not-touches.true) }

pub loop-i-preserved : goal.loop-i-preserved
loop-i-preserved c =
    let below : c.loop-i.i < length c.args.spans.now = omega (arith, c.min-i-end.ensures, c.loop-i-test.true) in
    index-step (touches c.args.span) c.args.spans.now c.loop-i.i c.loop-i.found.items c.push_if.new.found.items (c.args.found.now.items ++ indices_from (touches c.args.span) c.args.from (drop c.args.from c.args.spans.now)) c.touches-in-loop-i.result below c.touches-in-loop-i.ensures c.in_ok-push_if.ensures c.loop-i.invariant
