use Rattle.std.proofs.Common.{◌++◌, [], ◌∷◌, length, get_or, ap, ◌∙◌}
use Rattle.std.proofs.lemmas.List.{length-set}
use Rattle.path_order.proofs.Filed.{one_filed}
use Rattle.path_order.proofs.grid.file_all.Goals as goal

pub loop-i-preserved : goal.loop-i-preserved
loop-i-preserved c =
    let old = c.loop-i.squares in
    let b = c.square_at-at.result in
    let e = c.in_ok-put.ensures in
    record {
      same = ap length e ∙ length-set old b (get_or old b [] ++ c.loop-i.i ∷ []) ∙ c.loop-i.invariant.same;
      filed = one_filed c.args.starts.now c.args.side old c.put.new.squares b c.loop-i.i c.loop-i-test.true c.square_at-at.ensures.exact c.square_at-at.ensures.within e c.loop-i.invariant.filed;
    }
