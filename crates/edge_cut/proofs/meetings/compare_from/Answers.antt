use Rattle.std.proofs.Common.{◌<◌, length, get_or, arith, sym, ◌∙◌}
use Rattle.edge_cut.specs.Inner.Columns.{no_file}
use Rattle.edge_cut.proofs.Compared.{any-default, keeps-then, one-compared, rest-compared, all-behind}
use Rattle.edge_cut.proofs.meetings.compare_from.Goals as goal

pub compare-requires-clause-a_is : goal.compare-requires-clause-a_is
compare-requires-clause-a_is c = (c.requires.are c.args.r no_file c.requires.within).extent

pub compare-requires-clause-b_is : goal.compare-requires-clause-b_is
compare-requires-clause-b_is c = (c.requires.are c.walk.s no_file c.walk-test.true).extent

pub walk-preserved : goal.walk-preserved
walk-preserved c =
    let fs = c.args.files.now in
    let r = c.args.r in
    let s = c.walk.s in
    let h = c.walk.invariant in
    let below : s < length fs = c.walk-test.true in
    let old = c.walk.meetings.items in
    let new = c.compare.new.meetings.items in
    let done = c.in_ok-compare.ensures in
    record {
      behind = let b = h.behind in omega arith;
      within = omega arith;
      kept = keeps-then c.args.meetings.now.items old new h.kept done.kept;
      are = λ are. done.are (h.are are);
      so_far = one-compared c.args.all.now old new fs r s (get_or fs r no_file) (get_or fs s no_file) h.behind below (λ d. any-default fs r d no_file c.requires.within) (λ d. any-default fs s d no_file below) done.kept h.so_far done.compared;
    }

pub returns-else-is_up_to-clause-compared : goal.returns-else-is_up_to-clause-compared
returns-else-is_up_to-clause-compared c =
    let fs = c.args.files.now in
    rest-compared c.args.lies c.args.all.now c.walk.meetings.items fs c.args.r c.walk.s no_file c.limit_of-limit.result c.requires.within c.walk-test.true c.requires.rising c.requires.are c.limit_of-limit.ensures (sym c.is_up_to.ensures ∙ c.if-is_up_to.false) c.walk.invariant.so_far

pub returns-after-walk-clause-compared : goal.returns-after-walk-clause-compared
returns-after-walk-clause-compared c =
    all-behind c.args.all.now c.walk.meetings.items c.args.files.now c.args.r c.walk.s c.walk-test.false c.walk.invariant.so_far
