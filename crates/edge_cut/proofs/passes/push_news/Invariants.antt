use Rattle.std.proofs.Common.{◌≡◌, ◌++◌, replicate}
use Rattle.edge_cut.proofs.passes.push_news.Given as goal

abbrev pub invariant-loop-k : goal.invariant-loop-k
invariant-loop-k l = l.news.items ≡ l.fn.news.items ++ replicate l.k l.new
