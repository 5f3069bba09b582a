use Rattle.std.proofs.Common.{◌++◌, List, length, take, drop, refl, sym, ap, ◌∙◌}
use Rattle.slice_base.proofs.items.Items.items_mut.Goals as goal

pub returns : goal.returns
returns g c =
    let its = c.self.inside.items.items in
    let now = c.args.self.now in
    let is = c.self.view_is in
    let same = sym c.as_mut_slice.ensures.len ∙ ap length c.as_mut_slice.ensures.value ∙ ap length is in
    ((refl, λ w. ap (λ n. take n (w ++ drop (length w) its)) same ∙ ap (λ (xs : List g.row.T.Denot). take (length now) (w ++ drop (length w) xs)) is), record { writes_back = tt; value = c.as_mut_slice.ensures.value ∙ is })
