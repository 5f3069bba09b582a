use Rattle.std.proofs.Common.{List, Bool, length, true, ◌++◌, replicate, ap, ◌∙◌}
use Rattle.edge_cut.specs.declared.passes.Marked.{Marked}
use Rattle.edge_cut.proofs.Told.{new-settled}
use Rattle.edge_cut.proofs.passes.all_new.Goals as goal

pub returns-clause-settled : goal.returns-clause-settled
returns-clause-settled c =
    let count = length c.as_slice.result.now in
    new-settled c.args.list.items c.push_news.new.news.items count (ap (λ (ms : List Marked). length ms) c.as_slice.ensures.value)
    (c.in_ok-push_news.ensures.ok ∙ ap (λ (bs : List Bool). bs ++ replicate count true) c.in_ok-news.ensures.items)
