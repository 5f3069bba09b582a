use Rattle.std.proofs.Common.{List, Bool, rules, sym, subst}
use Rattle.std.specs.List.{All}
use Rattle.std.proofs.lemmas.List.Sorted.{Contains-permutation, IsPermutation-sym, IsNonDecreasingBy-from_sort_by_key}
use Rattle.edge_cut.specs.declared.columns.Filed.{Filed}
use Rattle.edge_cut.specs.Inner.Columns.{IsFileOf, AreFiled}
use Rattle.edge_cut.proofs.Compared.{moved-listed, are-listed}
use Rattle.edge_cut.proofs.meetings.find_meetings.Goals as goal

pub meetings_of-requires-clause-are : goal.meetings_of-requires-clause-are
meetings_of-requires-clause-are c = subst (λ (fs : List Filed). All (IsFileOf c.args.lies c.args.all.now) fs) (sym c.as_slice-2.ensures.value) c.in_ok-files.ensures.filed.are

pub returns-clause-listed : goal.returns-clause-listed
returns-clause-listed c =
    let lies = c.args.lies in
    let bits = c.args.bits in
    let all = c.args.all.now in
    let news = c.args.news.now in
    let near = c.in_ok-near.near.items in
    let by : AreFiled lies bits all near c.in_ok-files.files.items = subst (λ (bs : List Bool). AreFiled lies bits all bs c.in_ok-files.files.items) c.as_slice.ensures.value c.in_ok-files.ensures.filed in
    let files = subst (λ (fs : List Filed). AreFiled lies bits all near fs) (sym c.as_slice-2.ensures.value) by in
    moved-listed all c.in_ok-meetings.meetings.items c.sort_unstable_by_key.new.self.items c.sort_unstable_by_key.ensures.permutation
    (are-listed lies bits all news near c.in_ok-meetings.meetings.items c.as_slice-2.result.now c.requires.settled c.in_ok-near.ensures files c.in_ok-meetings.ensures.compared)

pub returns-clause-are : goal.returns-clause-are
returns-clause-are c = λ m h.
    c.in_ok-meetings.ensures.are m (Contains-permutation _ _ m (IsPermutation-sym _ _ c.sort_unstable_by_key.ensures.permutation) h)

pub returns-clause-rising : goal.returns-clause-rising
returns-clause-rising c = IsNonDecreasingBy-from_sort_by_key (λ m. m.index) _ c.sort_unstable_by_key.ensures.sorted (λ a r q k. search rules)
