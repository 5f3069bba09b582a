use Rattle.std.proofs.Common.{◌≡◌, List, sym, ap, ◌∙◌, subst}
use Rattle.path_order.specs.declared.starts.Start.{Start}
use Rattle.path_order.specs.Inner.Remaining.{Known, remaining}
use Rattle.path_order.proofs.Visits.{remaining-twice, remaining-known}
use Rattle.path_order.proofs.grid.refile.Goals as goal

pub returns-in_ok-grid-clause-same : goal.returns-in_ok-grid-clause-same
returns-in_ok-grid-clause-same c =
    let ms = c.args.gone.now in
    let old = c.args.grid.now.starts.items in
    let is : c.in_ok-grid.field-0.starts.items ≡ remaining ms old =
    c.in_ok-grid.ensures.starts ∙ c.in_ok-kept.ensures ∙ ap (λ (ss : List Start). remaining ms ss) c.as_slice.ensures.value in
    ap (λ (ss : List Start). remaining ms ss) is ∙ remaining-twice ms old

pub returns-in_ok-grid-clause-known : goal.returns-in_ok-grid-clause-known
returns-in_ok-grid-clause-known c = λ n h.
    let ms = c.args.gone.now in
    let old = c.args.grid.now.starts.items in
    let is : c.in_ok-grid.field-0.starts.items ≡ remaining ms old =
    c.in_ok-grid.ensures.starts ∙ c.in_ok-kept.ensures ∙ ap (λ (ss : List Start). remaining ms ss) c.as_slice.ensures.value in
    subst (λ (ss : List Start). Known n ss) (sym is) (remaining-known n ms old h)
