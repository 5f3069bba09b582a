use Rattle.std.proofs.Common.{◌≡◌, ◌≤◌, ◌+◌, List, length, get_or, OnOk, arith, sym, subst, eqb-true, ◌∙◌}
use Rattle.std.proofs.lemmas.Result.{on_ok_weaker}
use Rattle.edge_cut.specs.declared.stops.Stop.{Stop}
use Rattle.edge_cut.specs.declared.passes.Marked.{Marked}
use Rattle.edge_cut.specs.Stops.{stops_of}
use Rattle.edge_cut.specs.Cut.{pieces_of}
use Rattle.edge_cut.specs.Inner.Gathered.{end_stops}
use Rattle.edge_cut.specs.Inner.Indices.{nothing}
use Rattle.edge_cut.specs.Inner.Passes.{AddsPieces}
use Rattle.edge_cut.proofs.Compared.{any-default}
use Rattle.edge_cut.proofs.Counts.{length-pieces_of}
use Rattle.edge_cut.proofs.WholeEdges.{ends-stops}
use Rattle.edge_cut.proofs.passes.add_cut.Goals as goal

pub returns-then-is_forward-clause-adds : goal.returns-then-is_forward-clause-adds
returns-then-is_forward-clause-adds c =
    let all = c.args.all.now in
    let m : Marked = get_or all c.args.index nothing in
    let none : length c.args.some.now ≡ 0 = eqb-true (length c.args.some.now) 0 (sym c.is_empty.ensures ∙ c.if-is_empty.true) in
    let ends : end_stops m.edge ≡ stops_of m.edge all = ends-stops m.edge all c.args.index c.args.some.now none c.requires.told (sym c.is_forward.ensures ∙ c.if-is_forward.true) in
    subst (λ (ss : List Stop). OnOk c.add_whole.result (AddsPieces c.args.pieces.now c.add_whole.new.pieces (pieces_of m.second ss))) ends c.add_whole.ensures.ok

pub returns-then-is_forward-clause-told : goal.returns-then-is_forward-clause-told
returns-then-is_forward-clause-told c =
    let all = c.args.all.now in
    let m : Marked = get_or all c.args.index nothing in
    let none : length c.args.some.now ≡ 0 = eqb-true (length c.args.some.now) 0 (sym c.is_empty.ensures ∙ c.if-is_empty.true) in
    let ends : end_stops m.edge ≡ stops_of m.edge all = ends-stops m.edge all c.args.index c.args.some.now none c.requires.told (sym c.is_forward.ensures ∙ c.if-is_forward.true) in
    on_ok_weaker c.add_whole.result (λ h. h all (c.args.index, c.requires.index_in, any-default all c.args.index m nothing c.requires.index_in) ends) c.add_whole.ensures.told

pub returns-clause-adds : goal.returns-clause-adds
returns-clause-adds c =
    let all = c.args.all.now in
    let m : Marked = get_or all c.args.index nothing in
    let is : c.as_slice.result.now ≡ stops_of m.edge all = c.as_slice.ensures.value ∙ c.in_ok-stops_of.ensures.ok all c.args.index c.requires.told in
    subst (λ (ss : List Stop). OnOk c.add_pieces.result (AddsPieces c.args.pieces.now c.add_pieces.new.pieces (pieces_of m.second ss))) is c.add_pieces.ensures.ok

pub returns-clause-told : goal.returns-clause-told
returns-clause-told c =
    let all = c.args.all.now in
    let m : Marked = get_or all c.args.index nothing in
    let is : c.as_slice.result.now ≡ stops_of m.edge all = c.as_slice.ensures.value ∙ c.in_ok-stops_of.ensures.ok all c.args.index c.requires.told in
    on_ok_weaker c.add_pieces.result (λ h. h all (c.args.index, c.requires.index_in, any-default all c.args.index m nothing c.requires.index_in) is) c.add_pieces.ensures.told

pub returns-clause-few : goal.returns-clause-few
returns-clause-few c =
    let few : length c.as_slice.result.now ≤ length c.args.some.now + 2 = rw c.as_slice.ensures.value c.in_ok-stops_of.ensures.few in
    let m : Marked = get_or c.args.all.now c.args.index nothing in
    on_ok_weaker c.add_pieces.result (λ adds. let e = length-pieces_of m.second c.as_slice.result.now in let f = adds.counted in omega arith) c.add_pieces.ensures.ok
