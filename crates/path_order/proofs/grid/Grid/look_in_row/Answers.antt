use Rattle.std.proofs.Common.{◌≡◌, ◌<◌, ◌≤◌, ◌+◌, ℕ, List, [], length, get_or, ◌⊎◌, inl, inr, arith, sym, ap, ◌∙◌, subst}
use Rattle.std.specs.List.{All}
use Rattle.std.proofs.lemmas.List.{get_or_default}
use Rattle.path_order.specs.declared.starts.Start.{Start}
use Rattle.path_order.specs.Inner.Remaining.{no_start}
use Rattle.path_order.specs.Inner.Squares.{IsFound, Beats, strip_of, square_of_strips}
use Rattle.path_order.proofs.Looking.{seen-here, below-or}
use Rattle.path_order.proofs.grid.Grid.look_in_row.Goals as goal

pub look_in-found-requires-clause-known : goal.look_in-found-requires-clause-known
look_in-found-requires-clause-known c =
    let squares = c.args.self.now.squares.items in
    let square = c.square_of_strips-square.result in
    let below : square < length squares = omega arith in
    let list = c.items.ensures ∙ c.index.ensures ∙ get_or_default squares square c.index.result.now [] below in
    subst (λ (ks : List ℕ). All (λ k. k < length c.as_slice.result.now) ks) (sym list)
    (subst (λ (ss : List Start). All (λ k. k < length ss) (get_or squares square [])) (sym c.as_slice.ensures.value) (c.requires.grid.filed.known square))

pub columns-preserved : goal.columns-preserved
columns-preserved c =
    let ms = c.args.gone.now in
    let at = c.args.at in
    let g = c.args.self.now in
    let ss = g.starts.items in
    let squares = g.squares.items in
    let square = c.square_of_strips-square.result in
    let r = c.look_in-found.result in
    let below : square < length squares = omega arith in
    let count : c.len.result ≡ length squares = omega arith in
    let list = c.items.ensures ∙ c.index.ensures ∙ get_or_default squares square c.index.result.now [] below in
    let number : square ≡ square_of_strips (length squares) c.columns.column c.args.row = c.square_of_strips-square.ensures.exact ∙ ap (λ n. square_of_strips n c.columns.column c.args.row) count in
    let seen : All (λ j. Beats ms at r (get_or ss j no_start)) c.items.result.now =
    subst (λ (ts : List Start). All (λ j. Beats ms at r (get_or ts j no_start)) c.items.result.now) c.as_slice.ensures.value c.look_in-found.ensures.seen in
    record {
      from = omega arith;
      found = subst (λ (ts : List Start). IsFound ms at ts r) c.as_slice.ensures.value c.look_in-found.ensures.found;
      kept = λ s h. c.look_in-found.ensures.kept s (c.columns.invariant.kept s h);
      seen = λ k within row from lt.
          elim (below-or (strip_of g.side (get_or ss k no_start).at.x) c.columns.column lt) [
            | inl before ↦ c.look_in-found.ensures.kept (get_or ss k no_start) (c.columns.invariant.seen k within row from before)
            | inr here ↦ seen-here ms at ss c.items.result.now g.side squares r c.columns.column c.args.row square c.requires.grid.filed list number seen k within row here
          ];
    }
