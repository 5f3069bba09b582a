use Rattle.std.proofs.Common.{◌≡◌, ◌++◌, ◌∙◌, List, length, take, drop, set, ap, sym}
use Rattle.std.specs.Prelude.{slice_get}
use Rattle.std.proofs.lemmas.List.{take_at, length-set}
use Rattle.plan_types.specs.Plans.{LayerPlanValue}
use Rattle.plan_types.specs.Inserts.{with_insert}
use Rattle.plan_store.proofs.store.Store.put.Goals as goal

pub returns : goal.returns
returns c = λ l h.
    let items = c.self.inside.plans.items in
    let is : items ≡ c.args.self.now = c.self.view_is in
    let i = c.args.slot in
    let more = record l { inserts = with_insert c.args.insert l.inserts } in
    let lent : c.as_mut_slice.result.now ≡ c.args.self.now = c.as_mut_slice.ensures.value ∙ is in
    let new = c.put_in.new.plans in
    let e : new ≡ set c.args.self.now i more = c.put_in.ensures l (ap (λ (ls : List LayerPlanValue). slice_get ls i) lent ∙ h) ∙ ap (λ (ls : List LayerPlanValue). set ls i more) lent in
    let size : length new ≡ length items = ap (λ (ls : List LayerPlanValue). length ls) e ∙ length-set c.args.self.now i more ∙ ap (λ (ls : List LayerPlanValue). length ls) (sym is) in
    take_at new (drop (length new) items) (length items) size ∙ e
