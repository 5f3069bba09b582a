-- What is kept of the facets so far.
use Rattle.std.specs.Prelude.{◌≡◌, ◌≤◌, ◌<◌, false, List, length, Vec, Result, Ok, Err}
use Rattle.std.specs.declared.alloc.Global.{Global}
use Rattle.slice_base.specs.declared.points.Tri.{Tri}
use Rattle.slice_base.specs.Limits.{max_facets}
use Rattle.stl_text.specs.declared.faults.StlFault.{StlFault}
use Rattle.stl_text.specs.declared.faults.StlFault.TheVariants.{BadLine, TooManyTriangles, NoMemory}
use Rattle.stl_text.specs.declared.gathered.Gathered.{Gathered}
use Rattle.stl_text.specs.Mesh.{triangles_of}

-- the number of these facets, and their triangles unless memory ran out or they are too many
pub record Gathers (facets : List Tri) (g : Gathered) : Type 0 where
  pub count : g.facets ≡ length facets
  pub kept : g.is_short ≡ false → g.facets ≤ max_facets → g.triangles.items ≡ triangles_of facets

-- the answer to a whole text with these facets
abbrev pub IsAnswer : List Tri → Result (Vec Tri Global) StlFault → Type 0
IsAnswer facets (Ok v) = (length facets ≤ max_facets) × (v.items ≡ triangles_of facets)
IsAnswer facets (Err (BadLine n)) = ⊥
IsAnswer facets (Err (TooManyTriangles n)) = (length facets ≡ n) × (max_facets < n)
IsAnswer facets (Err NoMemory) = length facets ≤ max_facets
