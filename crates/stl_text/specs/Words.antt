-- How a text is cut into lines, and a line into words.
use Rattle.std.specs.Prelude.{ℕ, ◌==◌, ◌||◌, Bool, true, List, [], ◌∷◌, cond}
use Rattle.std.specs.Str.{str_eq_ignore_ascii_case}
use Rattle.slice_base.specs.Shapes.{Bytes}

-- a byte at the front of the first piece, or as a piece of its own where there is none
abbrev pub onto_first : ℕ → List Bytes → List Bytes
onto_first b [] = (b ∷ []) ∷ []
onto_first b (piece ∷ pieces) = (b ∷ piece) ∷ pieces

-- the lines of a text: cut at line feeds, and behind the last one a line where there are bytes
abbrev pub lines_of : Bytes → List Bytes
lines_of [] = []
lines_of (b ∷ bs) = cond (b == 10) ([] ∷ lines_of bs) (onto_first b (lines_of bs))

-- space, tab and carriage return
abbrev pub is_blank : ℕ → Bool
is_blank b = b == 32 || b == 9 || b == 13

-- no word goes on here
abbrev pub begins_blank : Bytes → Bool
begins_blank [] = true
begins_blank (b ∷ bs) = is_blank b

-- the words of a line: its runs of bytes that aren't blank
abbrev pub words_of : Bytes → List Bytes
words_of [] = []
words_of (b ∷ bs) =
    cond (is_blank b) (words_of bs)
    (cond (begins_blank bs) ((b ∷ []) ∷ words_of bs) (onto_first b (words_of bs)))

-- the word is this keyword, in any ASCII case
abbrev pub is_keyword : Bytes → Bytes → Bool
is_keyword word keyword = str_eq_ignore_ascii_case word keyword
