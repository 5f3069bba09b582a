-- Texts and lengths of points, and what is left of a list.
use Rattle.std.proofs.Common.{ℕ, ℤ, ◌+◌, ◌*◌, ◌≡◌, ◌<◌, ◌≤◌, List, [], ◌∷◌, ◌++◌, length, get_or, drop, Option, Some, None, ap, sym, refl, ◌∙◌, arith}
use Rattle.std.specs.Prelude.{pos}
use Rattle.std.specs.List.{sum_by}
use Rattle.std.proofs.lemmas.List.{drop_more}
use Rattle.std.proofs.lemmas.List.Sums.{sum_by-cons}
use Rattle.slice_base.specs.declared.points.Pt.{Pt}
use Rattle.settings_core.specs.Values.{ExtruderSettingsValue}
use Rattle.plan_types.specs.declared.plans.Kind.{Kind}
use Rattle.plan_types.specs.declared.inserts.Insert.{Insert}
use Rattle.plan_types.specs.Paths.{PathValue}
use Rattle.plan_types.specs.Plans.{length_through, length_along}
use Rattle.gcode_write.specs.Filament.{line_area_of}
use Rattle.gcode_write.specs.Paths.{approach_of, kind_change_of, is_same_kind, print_moves_of, print_of}

abbrev pub nowhere : Pt
nowhere = record { x = pos 0; y = pos 0 }

abbrev pub no_insert : Insert
no_insert = record { at = 0; extruder = 0; degrees = 0 }

pub print_of-first : (x : ExtruderSettingsValue) (z : Option ℤ) (kind : Option Kind) (v : ℕ) (path : PathValue) (ps : List Pt) (d : Pt) → 0 < length ps →
    print_of x z kind v path ps ≡ approach_of x path.retract v (get_or ps 0 d) z ++ kind_change_of (is_same_kind kind path.kind) path.kind ++ print_moves_of x (line_area_of path) (Some path.speed) v (get_or ps 0 d) (drop 1 ps)
print_of-first x z kind v path [] d h = absurd (omega (arith, h))
print_of-first x z kind v path (p ∷ ps) d h = refl

pub length_along-first : (ps : List Pt) (d : Pt) → 0 < length ps → length_along ps ≡ length_through (get_or ps 0 d) (drop 1 ps)
length_along-first [] d h = absurd (omega (arith, h))
length_along-first (p ∷ ps) d h = refl

-- what is left of a list of owned items, by its first
pub here : {X : Type 0} (xs : List X) (i : ℕ) (x : X) → i < length xs → x ≡ get_or xs i x → drop i xs ≡ x ∷ drop (i + 1) xs
here xs i x within is = drop_more xs i x within ∙ ap (λ y. y ∷ drop (i + 1) xs) (sym is)

-- a sum over what is left of them, by its first
pub sum_here : {X : Type 0} (f : X → ℕ) (xs : List X) (i : ℕ) (x : X) → i < length xs → x ≡ get_or xs i x → sum_by f (drop i xs) ≡ f x + sum_by f (drop (i + 1) xs)
sum_here f xs i x within is = ap (sum_by f) (here xs i x within is) ∙ sum_by-cons f x (drop (i + 1) xs)
