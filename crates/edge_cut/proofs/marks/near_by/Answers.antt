use Rattle.std.proofs.Common.{arith}
use Rattle.edge_cut.proofs.Cells.{far-by, far-more}
use Rattle.edge_cut.proofs.marks.near_by.Goals as goal

pub loop-index-preserved : goal.loop-index-preserved
loop-index-preserved c =
    let all = c.args.all.now in
    let news = c.args.news.now in
    let index = c.loop-index.index in
    let old = c.loop-index.near.items in
    record {
      count = omega (arith, c.in_ok-push.ensures.len, c.loop-index.invariant.count);
      far = far-more all news old c.push.new.self.items c.is_near.result index c.loop-index.invariant.count c.in_ok-push.ensures.items c.loop-index.invariant.far
          (λ far. far-by c.args.grid all news c.args.cells.now index c.requires.marked (c.is_near.ensures.old far) (c.is_near.ensures.clear far));
    }
