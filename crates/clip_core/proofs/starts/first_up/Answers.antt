use Rattle.std.proofs.Common.{◌<◌, ◌≤◌, ◌+◌, length, arith}
use Rattle.clip_core.proofs.Begun.{first-none, first-listed}
use Rattle.clip_core.proofs.starts.first_up.Goals as goal

pub returns-then-strip-starts : goal.returns-then-strip-starts
returns-then-strip-starts c rays h = first-none c.args.strip rays

pub returns : goal.returns
returns c rays h =
    let base = c.args.starts.now.base in
    let least : base + c.place_of.result ≤ c.args.strip = omega (arith, c.place_of.ensures.least, c.if-strip-starts.false) in
    let inside : c.place_of.result < length c.args.starts.now.firsts.items = omega (arith, c.place_of.ensures.inside, c.len.ensures) in
    first-listed base c.args.strip c.place_of.result c.index.result.now c.args.starts.now.firsts.items rays h inside least c.index.ensures
