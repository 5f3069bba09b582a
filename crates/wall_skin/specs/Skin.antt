-- Skin and fill: what the layers near a layer leave open of it, and the rest.
use Rattle.std.specs.Prelude.{ℕ, ◌+◌, ◌-◌, ◌==◌, Bool, cond, ◌||◌, nat_lt, nat_le, List, [], ◌∷◌, ◌++◌, length, take, drop, slice_index_or, Result, Ok}
use Rattle.slice_base.specs.Shapes.{Loops}
use Rattle.slice_base.specs.Outcomes.{and_then, fold_ok}
use Rattle.clip_core.specs.declared.keeping.Operation.TheVariants.{Subtract, Meet}
use Rattle.clip_core.specs.Clip.{clipped_of}
use Rattle.wall_skin.specs.declared.skins.Split.{Split}

-- the inner areas of the `bottom` layers below a layer and then of the `top` layers above it, rising
abbrev pub near_of : List Loops → ℕ → ℕ → ℕ → List Loops
near_of inners layer bottom top = take bottom (drop (layer - bottom) inners) ++ take top (drop (layer + 1) inners)

-- of so many layers, one that would be near this one isn't there
abbrev pub lacks_near : ℕ → ℕ → ℕ → ℕ → Bool
lacks_near count layer bottom top = nat_lt layer bottom || nat_le count (layer + top)

-- what lies in all of these regions, met from the left
abbrev pub shared_of : List Loops → Result Loops ℕ
shared_of [] = Ok []
shared_of (r ∷ rs) = fold_ok (clipped_of Meet) r rs

-- skin, and the rest as fill
abbrev pub parts_of : Loops → Loops → Split
parts_of skin fill = record { skin = skin; fill = fill }

-- this skin, and as fill what it leaves of the inner area
abbrev pub with_fill : Loops → Loops → Result Split ℕ
with_fill inner skin = and_then (clipped_of Subtract inner skin) (λ fill. Ok (parts_of skin fill))

-- as skin what lies outside of a region, and the rest of the inner area as fill
abbrev pub skin_outside_of : Loops → Loops → Result Split ℕ
skin_outside_of inner shared = and_then (clipped_of Subtract inner shared) (with_fill inner)

-- skin and fill in the inner area of a layer: without near layers all is fill, where one isn't there all is skin,
-- else skin is what lies outside of what they share
abbrev pub skin_in_of : List Loops → ℕ → ℕ → ℕ → Loops → Result Split ℕ
skin_in_of inners layer bottom top inner =
    cond (bottom + top == 0) (Ok (parts_of [] inner))
    (cond (lacks_near (length inners) layer bottom top) (Ok (parts_of inner []))
    (and_then (shared_of (near_of inners layer bottom top)) (skin_outside_of inner)))

-- skin and fill of a layer, by the inner areas of all layers; the first cut that fails ends the work
unfoldable pub skin_of : List Loops → ℕ → ℕ → ℕ → Result Split ℕ
skin_of inners layer bottom top = skin_in_of inners layer bottom top (slice_index_or inners layer [])
