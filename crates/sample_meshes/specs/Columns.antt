-- The outline of a column: 64 points round its axis.
use Rattle.std.specs.Prelude.{ℕ, zero, suc, ◌+◌, ◌*◌, ◌/◌, ◌%◌, ◌-◌, ◌==◌, cond, ℤ, pos, negsuc, neg_ℤ, ◌+ℤ◌, ◌-ℤ◌, List, [], ◌∷◌, ◌++◌}
use Rattle.slice_base.specs.declared.points.Pt.{Pt}
use Rattle.sample_meshes.specs.declared.columns.SampleMesh.{SampleMesh}
use Rattle.sample_meshes.specs.declared.columns.SampleMesh.TheVariants.{First, Second}
use Rattle.sample_meshes.specs.Draws.{after_draws, radius_at}

-- where the column's axis stands, in µm
abbrev pub axis_of : SampleMesh → Pt
axis_of First = record { x = pos 60000; y = pos 100000 }
axis_of Second = record { x = pos 90000; y = pos 100000 }

-- how many numbers were drawn before those of the mesh
abbrev pub drawn_before : SampleMesh → ℕ
drawn_before First = 0
drawn_before Second = 64

-- the direction at number t of 16 along a side of the square from -8 to 8
abbrev pub direction_along : ℕ → ℤ → Pt
direction_along side t =
    cond (side == 0) (record { x = pos 8; y = t -ℤ pos 8 })
    (cond (side == 1) (record { x = pos 8 -ℤ t; y = pos 8 })
    (cond (side == 2) (record { x = negsuc 7; y = pos 8 -ℤ t })
    (record { x = t -ℤ pos 8; y = negsuc 7 })))

-- direction j of 64, counterclockwise round that square
abbrev pub direction_of : ℕ → Pt
direction_of j = direction_along (j / 16) (pos (j % 16))

-- a radius in eighths of a direction's coordinate, to nearest, half away from zero
abbrev pub share_of : ℤ → ℕ → ℤ
share_of (pos d) radius = pos ((2 * (d * radius) + 8) / 16)
share_of (negsuc d) radius = neg_ℤ (pos ((2 * (suc d * radius) + 8) / 16))

-- the way from the axis to point j of the outline
abbrev pub way_of : ℕ → ℕ → Pt
way_of j radius = record { x = share_of (direction_of j).x radius; y = share_of (direction_of j).y radius }

-- a point, moved
abbrev pub moved_by : Pt → Pt → Pt
moved_by p way = record { x = p.x +ℤ way.x; y = p.y +ℤ way.y }

-- point j of the outline
abbrev pub point_at : Pt → ℕ → ℕ → Pt
point_at axis j radius = moved_by axis (way_of j radius)

-- the first n points of the outline of a mesh
unfoldable pub outline_of : ℕ → SampleMesh → ℕ → List Pt
outline_of number mesh zero = []
outline_of number mesh (suc j) =
    outline_of number mesh j
    ++ point_at (axis_of mesh) j (radius_at (after_draws number (drawn_before mesh + suc j))) ∷ []
