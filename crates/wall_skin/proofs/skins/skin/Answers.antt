use Rattle.std.proofs.Common.{[], sym, subst}
use Rattle.std.proofs.lemmas.Result.{IfOk-weaker}
use Rattle.std.proofs.lemmas.List.Elements.{All-get_or}
use Rattle.slice_base.specs.Regions.{RegionIn}
use Rattle.std.proofs.lemmas.List.{get_or_read}
use Rattle.wall_skin.specs.Sizes.{IsSmall}
use Rattle.wall_skin.proofs.Splits.{skin-is}
use Rattle.wall_skin.proofs.skins.skin.Goals as goal

pub skin_in-requires : goal.skin_in-requires
skin_in-requires c =
    record { small = subst IsSmall (sym c.index-inners-at.is) (All-get_or IsSmall c.args.inners.now c.args.layer c.index-inners-at.result c.requires.below c.requires.small) }

pub returns-clause-answer : goal.returns-clause-answer
returns-clause-answer c =
    let item = c.index-inners-at.result in
    let e = skin-is c.args.inners.now c.args.layer c.args.bottom c.args.top item (get_or_read c.args.inners.now c.args.layer item c.requires.below c.index-inners-at.is []) in
    rw e c.skin_in.ensures.answer

pub returns-clause-skin_within : goal.returns-clause-skin_within
returns-clause-skin_within c = IfOk-weaker c.skin_in.result _ _
    (λ s inside box h. inside box (subst (RegionIn box) (sym c.index-inners-at.is) (All-get_or (RegionIn box) c.args.inners.now c.args.layer c.index-inners-at.result c.requires.below h)) h)
    c.skin_in.ensures.skin_within

pub returns-clause-fill_within : goal.returns-clause-fill_within
returns-clause-fill_within c = IfOk-weaker c.skin_in.result _ _
    (λ s inside box h. inside box (subst (RegionIn box) (sym c.index-inners-at.is) (All-get_or (RegionIn box) c.args.inners.now c.args.layer c.index-inners-at.result c.requires.below h)) h)
    c.skin_in.ensures.fill_within
