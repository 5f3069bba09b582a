-- Every corner of a text lies in the range of coordinates.
use Rattle.std.proofs.Common.{ℕ, ◌≡◌, ◌≤◌, Bool, true, false, cond, List, [], ◌∷◌, get_or, Option, Some, None, refl, ℤ, IfSome, rules, codes}
use Rattle.std.specs.Prelude.{All, filter, unsigned_abs, ⊤, nat_le}
use Rattle.std.specs.List.{AllByRecursion}
use Rattle.std.proofs.lemmas.List.Elements.{All-map, All-filter, All-from_recursion, recursion_from_All}
use Rattle.slice_base.specs.declared.points.Tri.{Tri}
use Rattle.slice_base.specs.Decimal.{decimal_of}
use Rattle.stl_text.specs.declared.lines.TheConstants.{MOST_COORDINATE}
use Rattle.stl_text.specs.declared.lines.Line.{Line}
use Rattle.stl_text.specs.declared.lines.Line.TheVariants.{Solid, Facet, OuterLoop, Vertex, EndLoop, EndFacet, EndSolid, Other}
use Rattle.stl_text.specs.Words.{lines_of, words_of, is_keyword}
use Rattle.stl_text.specs.Lines.{in_range, coordinate_of, corner_at, corner_of, vertex_of, is_loop, no_words, line_of, read_lines}
use Rattle.stl_text.specs.Mesh.{Solids, no_more, left_open, solid, facet, endsolid, has_words, HasFacets, is_proper, triangles_of, IsNearCorner, IsNear}

abbrev NearLine : Line → Type 0
NearLine (Vertex corner) = IsNearCorner corner
NearLine line = ⊤

abbrev NearNumber : Option ℤ → Type 0
NearNumber o = IfSome o (λ v. unsigned_abs v ≤ MOST_COORDINATE)

limited : (t : Bool) (v : ℤ) → nat_le (unsigned_abs v) MOST_COORDINATE ≡ t → NearNumber (cond t (Some v) None)
limited true v e = search rules
limited false v e = tt

near_number : (o : Option ℤ) → NearNumber (in_range o)
near_number None = tt
near_number (Some v) = limited (nat_le (unsigned_abs v) MOST_COORDINATE) v refl

near_coordinate : (word : List ℕ) → NearNumber (coordinate_of word)
near_coordinate word = near_number (decimal_of word 3)

near_corner : (x y z : Option ℤ) → NearNumber x → NearNumber y → NearNumber z → NearLine (vertex_of (corner_at x y z))
near_corner (Some x) (Some y) (Some z) hx hy hz = record { x = hx; y = hy; z = hz }
near_corner x y z hx hy hz = tt

near_vertex : (words : List (List ℕ)) → NearLine (vertex_of (corner_of words))
near_vertex (x ∷ y ∷ z ∷ []) = near_corner (coordinate_of x) (coordinate_of y) (coordinate_of z) (near_coordinate x) (near_coordinate y) (near_coordinate z)
near_vertex words = tt

bare : (t : Bool) (line : Line) → NearLine line → NearLine (cond t line Other)
bare true line h = h
bare false line h = tt

first_of_seven : (t1 t2 t3 t4 t5 t6 t7 : Bool) (a b c d : Line) → NearLine a → NearLine b → NearLine c → NearLine d → NearLine (cond t1 a (cond t2 Facet (cond t3 b (cond t4 c (cond t5 d (cond t6 Solid (cond t7 EndSolid Other)))))))
first_of_seven true t2 t3 t4 t5 t6 t7 a b c d ha hb hc hd = ha
first_of_seven false true t3 t4 t5 t6 t7 a b c d ha hb hc hd = tt
first_of_seven false false true t4 t5 t6 t7 a b c d ha hb hc hd = hb
first_of_seven false false false true t5 t6 t7 a b c d ha hb hc hd = hc
first_of_seven false false false false true t6 t7 a b c d ha hb hc hd = hd
first_of_seven false false false false false true t7 a b c d ha hb hc hd = tt
first_of_seven false false false false false false true a b c d ha hb hc hd = tt
first_of_seven false false false false false false false a b c d ha hb hc hd = tt

line_near : (words : List (List ℕ)) → NearLine (line_of words)
line_near [] = tt
line_near (word ∷ words) =
    first_of_seven
    (is_keyword word (codes "vertex")) (is_keyword word (codes "facet")) (is_keyword word (codes "outer")) (is_keyword word (codes "endloop")) (is_keyword word (codes "endfacet")) (is_keyword word (codes "solid")) (is_keyword word (codes "endsolid"))
    (vertex_of (corner_of words)) (cond (is_loop words) OuterLoop Other) (cond (no_words words) EndLoop Other) (cond (no_words words) EndFacet Other)
    (near_vertex words) (bare (is_loop words) OuterLoop tt) (bare (no_words words) EndLoop tt) (bare (no_words words) EndFacet tt)

lines_near : (bytes : List ℕ) → All NearLine (read_lines bytes)
lines_near bytes = All-map NearLine (λ (line : List ℕ). line_of (words_of line)) (lines_of bytes) (λ k d h. line_near (words_of (get_or (lines_of bytes) k d)))

solids_near : (b : Bool) (ls : List Line) (ts : List Tri) → Solids b ls ts → AllByRecursion NearLine ls → AllByRecursion IsNear ts
solids_near b ls ts no_more h = tt
solids_near b ls ts left_open h = tt
solids_near b ls ts (solid s) h = solids_near true _ ts s h.1
solids_near b ls ts (facet s) h = (record { a = h.1.1.0; b = h.1.1.1.0; c = h.1.1.1.1.0 }, solids_near true _ _ s h.1.1.1.1.1.1.1)
solids_near b ls ts (endsolid s) h = solids_near false _ ts s h.1

pub facets_near : (bytes : List ℕ) (ts : List Tri) → HasFacets bytes ts → All IsNear ts
facets_near bytes ts text =
    All-from_recursion IsNear ts (solids_near false (filter has_words (read_lines bytes)) ts text (recursion_from_All NearLine (filter has_words (read_lines bytes)) (All-filter has_words NearLine (read_lines bytes) (lines_near bytes))))

pub triangles_near : (bytes : List ℕ) (ts : List Tri) → HasFacets bytes ts → All IsNear (triangles_of ts)
triangles_near bytes ts text = All-filter is_proper IsNear ts (facets_near bytes ts text)
