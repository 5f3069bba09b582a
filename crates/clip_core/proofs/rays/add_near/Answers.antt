use Rattle.std.proofs.Common.{◌^◌, ◌+◌, arith}
use Rattle.clip_core.proofs.Stretches.{adds-none, adds-both, rays-small}
use Rattle.clip_core.proofs.rays.add_near.Goals as goal

pub near-init : goal.near-init
near-init c =
    record {
      later = omega arith;
      within = c.requires.some;
      adds = λ raises. adds-none c.args.m.slope.ends c.args.m.share c.args.i c.args.rays.now raises;
    }

pub add_one-requires-clause-small : goal.add_one-requires-clause-small
add_one-requires-clause-small c =
    let h = c.near.invariant in
    rays-small c.args.m.slope.ends c.args.m.share (2 ^ 60) c.args.i c.near.k (2 ^ 62) c.args.rays.now c.near.rays h.adds (omega (arith, h.within, c.requires.within, c.requires.few)) c.requires.small

pub near-preserved : goal.near-preserved
near-preserved c =
    let h = c.near.invariant in
    record {
      later = omega (arith, h.later);
      within = omega (arith, c.near-test.true);
      adds = λ raises. adds-both c.args.m.slope.ends c.args.m.share c.args.i c.near.k (c.near.k + 1) c.args.rays.now c.near.rays c.add_one.new.rays raises raises raises (omega (arith, h.later)) (omega arith) (h.adds raises) (c.add_one.ensures raises);
    }
