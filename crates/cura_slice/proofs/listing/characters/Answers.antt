use Rattle.std.proofs.Common.{arith}
use Rattle.cura_slice.proofs.Columns.{counted-more, counted-all}
use Rattle.cura_slice.proofs.listing.characters.Goals as goal

pub loop-byte-preserved : goal.loop-byte-preserved
loop-byte-preserved c = record {
  counted = counted-more c.args.text.now c.loop-byte.count c.begun_by-count.result c.loop-byte.byte-index (omega arith) c.begun_by-count.ensures.value c.loop-byte.invariant.counted;
  few = omega arith;
}

pub returns : goal.returns
returns c = counted-all c.args.text.now c.loop-byte.count c.loop-byte.byte-index (omega arith) c.loop-byte.invariant.counted
