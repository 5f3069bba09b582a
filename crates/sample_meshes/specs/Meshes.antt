-- The text of a mesh in ASCII STL: a column of 400 rings, each 0.150 mm high, with a bottom and a top.
use Rattle.std.specs.Prelude.{ℕ, zero, suc, ◌+◌, ◌*◌, ◌%◌, ℤ, pos, negsuc, List, [], ◌∷◌, ◌++◌, slice_index_or, codes, decimal, unsigned_abs}
use Rattle.slice_base.specs.declared.points.Pt.{Pt}
use Rattle.sample_meshes.specs.declared.columns.SampleMesh.{SampleMesh}
use Rattle.sample_meshes.specs.declared.facets.Corner.{Corner}
use Rattle.sample_meshes.specs.Columns.{outline_of}

-- the texts of the numbers below n, in order
unfoldable pub texts : (ℕ → List ℕ) → ℕ → List ℕ
texts text zero = []
texts text (suc n) = texts text n ++ text n

-- a minus sign where the number is below 0
abbrev pub sign_of : ℤ → List ℕ
sign_of (pos n) = []
sign_of (negsuc n) = codes "-"

-- µm as millimetres, by an exponent
abbrev pub thousandths_text : ℤ → List ℕ
thousandths_text n = codes " " ++ sign_of n ++ decimal (unsigned_abs n) ++ codes "e-3"

-- a corner: point j of the outline, at the lower side of ring k
unfoldable pub vertex_at : Pt → ℕ → List ℕ
vertex_at p ring =
    codes "vertex" ++ thousandths_text p.x ++ thousandths_text p.y ++ thousandths_text (pos (150 * ring)) ++ codes "\n"

-- the vertex line of a corner
abbrev pub vertex_text : List Pt → Corner → List ℕ
vertex_text outline c = vertex_at (slice_index_or outline c.point (record { x = pos 0; y = pos 0 })) c.ring

-- a facet of three corners, counterclockwise from outside
unfoldable pub facet_text : List Pt → Corner → Corner → Corner → List ℕ
facet_text outline a b c =
    codes "facet normal 0 0 0\nouter loop\n" ++ vertex_text outline a ++ vertex_text outline b ++ vertex_text outline c
    ++ codes "endloop\nendfacet\n"

abbrev pub corner_at : ℕ → ℕ → Corner
corner_at point ring = record { point = point; ring = ring }

-- the two facets of side j of ring k
abbrev pub side_text : List Pt → ℕ → ℕ → List ℕ
side_text outline k j =
    facet_text outline (corner_at j k) (corner_at ((j + 1) % 64) k) (corner_at ((j + 1) % 64) (k + 1)) ++
    facet_text outline (corner_at j k) (corner_at ((j + 1) % 64) (k + 1)) (corner_at j (k + 1))

-- the facets of ring k
abbrev pub ring_text : List Pt → ℕ → List ℕ
ring_text outline k = texts (side_text outline k) 64

-- facet j of the bottom, which is looked at from below
abbrev pub bottom_text : List Pt → ℕ → List ℕ
bottom_text outline j = facet_text outline (corner_at 0 0) (corner_at (j + 2) 0) (corner_at (j + 1) 0)

-- facet j of the top
abbrev pub top_text : List Pt → ℕ → List ℕ
top_text outline j = facet_text outline (corner_at 0 400) (corner_at (j + 1) 400) (corner_at (j + 2) 400)

-- the column over an outline
abbrev pub column_text : List Pt → List ℕ
column_text outline =
    codes "solid sample\n" ++ texts (ring_text outline) 400 ++ texts (bottom_text outline) 62
    ++ texts (top_text outline) 62 ++ codes "endsolid sample\n"

-- the text of one of the two meshes of a number
abbrev pub mesh_text : ℕ → SampleMesh → List ℕ
mesh_text number mesh = column_text (outline_of number mesh 64)
