use Rattle.std.proofs.Common.{◌≡◌, ◌∙◌, ℕ, ◌+◌, true, false, [], sym, ap, subst, length, Result, Ok}
use Rattle.std.specs.List.{All}
use Rattle.std.proofs.lemmas.List.Elements.{All-nil}
use Rattle.slice_base.specs.Boxes.{Box, IsIn}
use Rattle.slice_base.specs.Regions.{RegionIn}
use Rattle.std.specs.Prelude.{◌==◌}
use Rattle.wall_skin.specs.Sizes.{IsSmall}
use Rattle.wall_skin.proofs.Sizes.{small-none}
use Rattle.wall_skin.specs.declared.skins.Split.{Split}
use Rattle.wall_skin.specs.Skin.{skin_in_of, lacks_near, parts_of}
use Rattle.wall_skin.proofs.Splits.{split-none, split-open}
use Rattle.wall_skin.proofs.skins.skin_in.Goals as goal

as_ok : (answer : Result Split ℕ) (s t : Split) → answer ≡ Ok t → s ≡ t → answer ≡ Ok s
as_ok answer s t a e = a ∙ ap (λ (u : Split). let r : Result Split ℕ = Ok u in r) (sym e)

skin-few : (s t : Split) → s ≡ t → IsSmall t.skin → IsSmall s.skin
skin-few s t e h = subst (λ (u : Split). IsSmall u.skin) (sym e) h

fill-few : (s t : Split) → s ≡ t → IsSmall t.fill → IsSmall s.fill
fill-few s t e h = subst (λ (u : Split). IsSmall u.fill) (sym e) h

skin-in : (box : Box) (s t : Split) → s ≡ t → RegionIn box t.skin → RegionIn box s.skin
skin-in box s t e h = subst (λ (u : Split). RegionIn box u.skin) (sym e) h

fill-in : (box : Box) (s t : Split) → s ≡ t → RegionIn box t.fill → RegionIn box s.fill
fill-in box s t e h = subst (λ (u : Split). RegionIn box u.fill) (sym e) h

none-in : (box : Box) → RegionIn box []
none-in box = All-nil (All (IsIn box))

pub returns-then-wants_none : goal.returns-then-wants_none
returns-then-wants_none c =
    let s = c.in_ok-only_fill.field-0 in
    let inner = c.args.inner.now in
    let e = c.in_ok-only_fill.ensures in
    let t : (c.args.bottom + c.args.top == 0) ≡ true = sym c.wants_none.ensures ∙ c.if-wants_none.true in
    record {
      answer = as_ok (skin_in_of c.args.inners.now c.args.layer c.args.bottom c.args.top inner) s (parts_of [] inner) (split-none c.args.inners.now c.args.layer c.args.bottom c.args.top inner t) e;
      skin_small = skin-few s (parts_of [] inner) e small-none;
      fill_small = fill-few s (parts_of [] inner) e c.requires.small;
      skin_within = λ box h i. skin-in box s (parts_of [] inner) e (none-in box);
      fill_within = λ box h i. fill-in box s (parts_of [] inner) e h;
    }

pub returns-then-lacks_near : goal.returns-then-lacks_near
returns-then-lacks_near c =
    let s = c.in_ok-only_skin.field-0 in
    let inner = c.args.inner.now in
    let e = c.in_ok-only_skin.ensures in
    let n : (c.args.bottom + c.args.top == 0) ≡ false = sym c.wants_none.ensures ∙ c.if-wants_none.false in
    let l = c.lacks_near.ensures in
    let t : lacks_near (length c.args.inners.now) c.args.layer c.args.bottom c.args.top ≡ true = sym l ∙ c.if-lacks_near.true in
    record {
      answer = as_ok (skin_in_of c.args.inners.now c.args.layer c.args.bottom c.args.top inner) s (parts_of inner []) (split-open c.args.inners.now c.args.layer c.args.bottom c.args.top inner n t) e;
      skin_small = skin-few s (parts_of inner []) e c.requires.small;
      fill_small = fill-few s (parts_of inner []) e small-none;
      skin_within = λ box h i. skin-in box s (parts_of inner []) e h;
      fill_within = λ box h i. fill-in box s (parts_of inner []) e (none-in box);
    }
