-- An outline, point by point.
use Rattle.std.proofs.Common.{ℕ, zero, suc, ◌+◌, ◌≡◌, List, [], ◌∷◌, ◌++◌, add-one, refl, sym, ap, subst, ◌∙◌}
use Rattle.slice_base.specs.declared.points.Pt.{Pt}
use Rattle.sample_meshes.specs.declared.columns.SampleMesh.{SampleMesh}
use Rattle.sample_meshes.specs.Draws.{after_draw, after_draws, radius_at}
use Rattle.sample_meshes.specs.Columns.{axis_of, drawn_before, point_at, outline_of}

-- no draw, and one more
pub draws_none : (state : ℕ) → state ≡ after_draws state 0
unfolding after_draws
draws_none state = refl

pub draws_more : (start state now n : ℕ) → state ≡ after_draws start n → now ≡ after_draw state → now ≡ after_draws start (n + 1)
unfolding after_draws
draws_more start state now n so_far more = rw (add-one n) (more ∙ ap after_draw so_far)

-- no point, and one more
pub outline_none : (number : ℕ) (mesh : SampleMesh) → outline_of number mesh 0 ≡ []
unfolding outline_of
outline_none number mesh = refl

pub outline_more : (number : ℕ) (mesh : SampleMesh) (j : ℕ) (before now : List Pt) → before ≡ outline_of number mesh j
    → now ≡ before ++ point_at (axis_of mesh) j (radius_at (after_draws number (drawn_before mesh + (j + 1)))) ∷ [] → now ≡ outline_of number mesh (j + 1)
unfolding outline_of
outline_more number mesh j before now so_far more =
    let e : j + 1 ≡ suc j = add-one j in
    subst (λ (k : ℕ). now ≡ outline_of number mesh k) (sym e)
    (more ∙ ap (λ (xs : List Pt). xs ++ point_at (axis_of mesh) j (radius_at (after_draws number (drawn_before mesh + (j + 1)))) ∷ []) so_far
    ∙ ap (λ (k : ℕ). outline_of number mesh j ++ point_at (axis_of mesh) j (radius_at (after_draws number (drawn_before mesh + k))) ∷ []) e)
