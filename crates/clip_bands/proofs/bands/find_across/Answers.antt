use Rattle.std.proofs.Common.{◌<◌, ◌++◌, drop, length, arith, sym, ◌∙◌}
use Rattle.clip_bands.specs.Indices.{holds, indices_from}
use Rattle.clip_bands.proofs.Blocks.{across-skip, index-step}
use Rattle.clip_bands.proofs.bands.find_across.Goals as goal

pub returns-then-not-holds : goal.returns-then-not-holds
returns-then-not-holds c = record { ok = across-skip c.args.at.twice c.args.block c.args.spans.now c.args.from c.args.found.now.items c.requires.hull (sym c.holds.ensures ∙ c.if-not-holds.true) }

pub loop-i-preserved : goal.loop-i-preserved
loop-i-preserved c =
    let below : c.loop-i.i < length c.args.spans.now = omega (arith, c.min-i-end.ensures, c.loop-i-test.true) in
    index-step (holds c.args.at.twice) c.args.spans.now c.loop-i.i c.loop-i.found.items c.push_if.new.found.items (c.args.found.now.items ++ indices_from (holds c.args.at.twice) c.args.from (drop c.args.from c.args.spans.now)) c.holds-in-loop-i.result below c.holds-in-loop-i.ensures c.in_ok-push_if.ensures c.loop-i.invariant
