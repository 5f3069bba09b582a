-- ASCII STL as a grammar of whole texts, and what a text means.
use Rattle.std.specs.Prelude.{ℕ, ◌+◌, ◌≡◌, ◌<◌, ◌≤◌, Bool, true, false, not, ◌&&◌, List, [], ◌∷◌, ◌++◌, length, take, filter, unsigned_abs, Result, Ok, Err}
use Rattle.std.specs.Ordering.{int_eq}
use Rattle.slice_base.specs.Shapes.{Bytes}
use Rattle.slice_base.specs.declared.points.Pt3.{Pt3}
use Rattle.slice_base.specs.declared.points.Tri.{Tri}
use Rattle.slice_base.specs.Limits.{max_facets}
use Rattle.stl_text.specs.declared.faults.StlFault.{StlFault}
use Rattle.stl_text.specs.declared.faults.StlFault.TheVariants.{BadLine, TooManyTriangles, NoMemory}
use Rattle.stl_text.specs.declared.lines.Line.{Line}
use Rattle.stl_text.specs.declared.lines.Line.TheVariants.{Blank, Solid, Facet, OuterLoop, Vertex, EndLoop, EndFacet, EndSolid}
use Rattle.stl_text.specs.Lines.{read_lines}

-- the lines of solids with their facets, from outside (false) or inside a solid (true) to the end
pub data Solids : Bool → List Line → List Tri → Type 0 where
  no_more : Solids false [] []
  left_open : Solids true [] []
  solid : {lines : List Line} {facets : List Tri} → Solids true lines facets → Solids false (Solid ∷ lines) facets
  facet : {a b c : Pt3} {lines : List Line} {facets : List Tri} → Solids true lines facets
      → Solids true
      (Facet ∷ OuterLoop ∷ Vertex a ∷ Vertex b ∷ Vertex c ∷ EndLoop ∷ EndFacet ∷ lines)
      (record { a = a; b = b; c = c } ∷ facets)
  endsolid : {lines : List Line} {facets : List Tri} → Solids false lines facets → Solids true (EndSolid ∷ lines) facets

-- the line isn't blank
abbrev pub has_words : Line → Bool
has_words Blank = false
has_words line = true

-- the lines are a whole text with these facets; lines without words don't count
abbrev pub IsText : List Line → List Tri → Type 0
IsText lines facets = Solids false (filter has_words lines) facets

-- the bytes are a whole text with these facets
abbrev pub HasFacets : Bytes → List Tri → Type 0
HasFacets bytes facets = IsText (read_lines bytes) facets

-- some bytes after these lines make a whole text
pub record Begins (lines : List Line) : Type 0 where
  pub more : Bytes
  pub facets : List Tri
  pub whole : IsText (lines ++ read_lines more) facets

-- n is the number of the first line at fault, from 1: the least n such that the first n lines begin
-- no text, and where all lines begin one that isn't whole, the number after the last line
pub record IsFault (bytes : Bytes) (n : ℕ) : Type 0 where
  pub before : (k : ℕ) → k < n → Begins (take k (read_lines bytes))
  pub here : n ≤ length (read_lines bytes) → ¬ (Begins (take n (read_lines bytes)))
  pub end : length (read_lines bytes) < n
      → (n ≡ length (read_lines bytes) + 1) × ((facets : List Tri) → ¬ (HasFacets bytes facets))

-- two corners are one point
abbrev pub same_corner : Pt3 → Pt3 → Bool
same_corner p q = int_eq p.x q.x && int_eq p.y q.y && int_eq p.z q.z

-- no two corners are equal
abbrev pub is_proper : Tri → Bool
is_proper t = not (same_corner t.a t.b) && not (same_corner t.b t.c) && not (same_corner t.c t.a)

-- the triangles of facets: those without two equal corners, in order
abbrev pub triangles_of : List Tri → List Tri
triangles_of facets = filter is_proper facets

-- the bytes are a whole text with these triangles and not too many facets
pub record IsMesh (bytes : Bytes) (triangles : List Tri) : Type 0 where
  pub facets : List Tri
  pub whole : HasFacets bytes facets
  pub few : length facets ≤ max_facets
  pub proper : triangles ≡ triangles_of facets

-- the bytes are a whole text with this number of facets, which is too many
pub record HasTooMany (bytes : Bytes) (count : ℕ) : Type 0 where
  pub facets : List Tri
  pub whole : HasFacets bytes facets
  pub counted : length facets ≡ count
  pub many : max_facets < count

-- what the bytes give: a mesh, or why they give none; want of memory isn't defined
abbrev pub StlGives : Bytes → Result (List Tri) StlFault → Type 0
StlGives bytes (Ok triangles) = IsMesh bytes triangles
StlGives bytes (Err (BadLine n)) = IsFault bytes n
StlGives bytes (Err (TooManyTriangles n)) = HasTooMany bytes n
StlGives bytes (Err NoMemory) = ⊥

-- a corner in the range of coordinates
pub record IsNearCorner (p : Pt3) : Type 0 where
  pub x : unsigned_abs p.x ≤ 1000000000
  pub y : unsigned_abs p.y ≤ 1000000000
  pub z : unsigned_abs p.z ≤ 1000000000

-- a triangle in the range of coordinates
pub record IsNear (t : Tri) : Type 0 where
  pub a : IsNearCorner t.a
  pub b : IsNearCorner t.b
  pub c : IsNearCorner t.c
