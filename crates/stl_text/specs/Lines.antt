-- What a line of an STL text says.
use Rattle.std.specs.Prelude.{ℤ, Bool, true, false, List, [], ◌∷◌, map, Option, Some, None, codes, nat_le, unsigned_abs, cond}
use Rattle.slice_base.specs.Shapes.{Bytes}
use Rattle.slice_base.specs.declared.points.Pt3.{Pt3}
use Rattle.slice_base.specs.Decimal.{decimal_of}
use Rattle.stl_text.specs.declared.lines.Line.{Line}
use Rattle.stl_text.specs.declared.lines.Line.TheVariants.{Blank, Solid, Facet, OuterLoop, Vertex, EndLoop, EndFacet, EndSolid, Other}
use Rattle.stl_text.specs.Words.{lines_of, words_of, is_keyword}

-- a number of µm that lies in the range of coordinates
abbrev pub in_range : Option ℤ → Option ℤ
in_range None = None
in_range (Some v) = cond (nat_le (unsigned_abs v) 1000000000) (Some v) None

-- a decimal in mm, as whole µm
abbrev pub coordinate_of : Bytes → Option ℤ
coordinate_of word = in_range (decimal_of word 3)

-- a corner, where there are all three coordinates
abbrev pub corner_at : Option ℤ → Option ℤ → Option ℤ → Option Pt3
corner_at (Some x) (Some y) (Some z) = Some (record { x = x; y = y; z = z })
corner_at x y z = None

-- exactly three coordinates
abbrev pub corner_of : List Bytes → Option Pt3
corner_of (x ∷ y ∷ z ∷ []) = corner_at (coordinate_of x) (coordinate_of y) (coordinate_of z)
corner_of words = None

-- the line of a vertex, where it has a corner
abbrev pub vertex_of : Option Pt3 → Line
vertex_of None = Other
vertex_of (Some corner) = Vertex corner

-- exactly the word `loop`
abbrev pub is_loop : List Bytes → Bool
is_loop (word ∷ []) = is_keyword word (codes "loop")
is_loop words = false

-- no word follows
abbrev pub no_words : List Bytes → Bool
no_words [] = true
no_words (word ∷ words) = false

-- what a line says whose first word is this one, by the words behind it
abbrev pub line_by : Bytes → List Bytes → Line
line_by word words =
    cond (is_keyword word (codes "vertex")) (vertex_of (corner_of words))
    (cond (is_keyword word (codes "facet")) Facet
    (cond (is_keyword word (codes "outer")) (cond (is_loop words) OuterLoop Other)
    (cond (is_keyword word (codes "endloop")) (cond (no_words words) EndLoop Other)
    (cond (is_keyword word (codes "endfacet")) (cond (no_words words) EndFacet Other)
    (cond (is_keyword word (codes "solid")) Solid
    (cond (is_keyword word (codes "endsolid")) EndSolid
    Other))))))

-- what the words of a line say
abbrev pub line_of : List Bytes → Line
line_of [] = Blank
line_of (word ∷ words) = line_by word words

-- all lines of a text
abbrev pub read_lines : Bytes → List Line
read_lines bytes = map (λ line. line_of (words_of line)) (lines_of bytes)
