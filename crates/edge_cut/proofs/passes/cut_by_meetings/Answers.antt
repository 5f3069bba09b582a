use Rattle.std.proofs.Common.{◌-◌, drop, take, arith}
use Rattle.std.proofs.lemmas.List.{length-take}
use Rattle.edge_cut.proofs.Told.{told-settled}
use Rattle.edge_cut.proofs.Counts.{so_far-step}
use Rattle.edge_cut.proofs.Read.{group-is, group-tells}
use Rattle.edge_cut.proofs.passes.cut_by_meetings.Goals as goal

pub add_cut-requires-clause-told : goal.add_cut-requires-clause-told
add_cut-requires-clause-told c =
    let ms = c.args.meetings.now in
    let done = c.loop-index.done in
    let end = c.group_end-end.result in
    let index = c.loop-index.index in
    group-tells c.args.all.now ms (take (end - done) (drop done ms)) index c.loop-index-test.true c.requires.listed c.requires.are
    (group-is ms done end index c.group_end-end.ensures.later c.group_end-end.ensures.within c.loop-index.invariant.grouped c.group_end-end.ensures.next)

pub loop-index-preserved : goal.loop-index-preserved
loop-index-preserved c =
    let h = c.loop-index.invariant in
    let done = c.loop-index.done in
    let end = c.group_end-end.result in
    record {
      within = c.group_end-end.ensures.within;
      grouped = c.group_end-end.ensures.next;
      small = omega (arith, c.in_ok-add_cut.ensures.few, length-take (end - done) (drop done c.args.meetings.now), h.small, c.group_end-end.ensures.later);
      so_far = so_far-step c.args.all.now c.loop-index.index c.loop-index.pieces c.add_cut.new.pieces c.loop-index-test.true c.in_ok-add_cut.ensures.adds h.so_far;
      told = c.in_ok-add_cut.ensures.told h.told;
    }

pub returns-clause-settled : goal.returns-clause-settled
returns-clause-settled c = told-settled c.args.all.now c.loop-index.pieces.list.items c.loop-index.pieces.news.items c.loop-index.invariant.told
