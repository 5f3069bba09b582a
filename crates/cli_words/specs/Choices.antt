-- What the words of a command line choose. A word is the list of its bytes.
use Rattle.std.specs.Prelude.{ℕ, ◌+◌, ◌==◌, nat_le, Bool, true, false, cond, ◌&&◌, List, [], ◌∷◌, ◌++◌, length, take, drop, position, count_by, Option, Some, None, Result, Ok, Err, bytes_eq, codes}
use Rattle.std.specs.Str.{all_ascii_digits}
use Rattle.std.specs.Str.Parse.{digits_value}
use Rattle.slice_base.specs.Limits.{max_workers, max_meshes}
use Rattle.cli_words.specs.declared.choice.Taker.{Taker}
use Rattle.cli_words.specs.declared.choice.Taker.TheVariants.{Settings, Mesh, Pair, Output}

-- these words take the next one
abbrev pub taker_of : List ℕ → Option Taker
taker_of w =
    cond (bytes_eq w (codes "-j")) (Some Settings)
    (cond (bytes_eq w (codes "-l")) (Some Mesh)
    (cond (bytes_eq w (codes "-s")) (Some Pair)
    (cond (bytes_eq w (codes "-o")) (Some Output) None)))

-- a word with the next one, where it takes one
pub data Piece : Type 0 where
  alone : List ℕ → Piece
  taking : Taker → List ℕ → Piece
  lacking : Piece

-- a word is a piece by itself, unless it takes the next
abbrev pub opened : List ℕ → Option Taker → List Piece
opened w None = alone w ∷ []
opened w (Some t) = []

-- all words, cut into pieces; a word that takes the next may stand before them
abbrev pub cut : Option Taker → List (List ℕ) → List Piece
cut None [] = []
cut (Some t) [] = lacking ∷ []
cut None (w ∷ ws) = opened w (taker_of w) ++ cut (taker_of w) ws
cut (Some t) (w ∷ ws) = taking t w ∷ cut None ws

-- how many words a piece has
abbrev pub words_in : Piece → ℕ
words_in (alone w) = 1
words_in (taking t w) = 2
words_in lacking = 1

-- what a piece chooses
pub data Chosen : Type 0 where
  settings : List ℕ → Chosen
  mesh : List ℕ → Chosen
  extruder : ℕ → Chosen
  everything : Chosen
  pair : List ℕ → List ℕ → Chosen
  output : List ℕ → Chosen
  workers : ℕ → Chosen
  journal : Chosen
  nothing : Chosen

-- the number that bytes write, where all of them are digits
abbrev pub numeral : List ℕ → Option ℕ
numeral ds = cond (all_ascii_digits ds) (Some (digits_value 10 ds)) None

-- a number from the least to the greatest
abbrev pub if_within : ℕ → ℕ → Option ℕ → Option ℕ
if_within least greatest None = None
if_within least greatest (Some n) = cond (nat_le least n && nat_le n greatest) (Some n) None

-- one digit or more, at most so many, for a number from the least to the greatest
abbrev pub number_of : ℕ → ℕ → ℕ → List ℕ → Option ℕ
number_of most least greatest ds =
    cond (nat_le 1 (length ds) && nat_le (length ds) most) (if_within least greatest (numeral ds)) None

-- the extruder of a number, where there is one
abbrev pub extruder_if : Option ℕ → Option Chosen
extruder_if None = None
extruder_if (Some n) = Some (extruder n)

-- that many workers, where there is a number
abbrev pub workers_if : Option ℕ → Option Chosen
workers_if None = None
workers_if (Some n) = Some (workers n)

-- the extruder that one digit from 0 to 7 names
abbrev pub extruder_of : List ℕ → Option Chosen
extruder_of ds = extruder_if (number_of 1 0 7 ds)

-- the workers that at most two digits count, from 1 to 64
abbrev pub workers_of : List ℕ → Option Chosen
workers_of ds = workers_if (number_of 2 1 max_workers ds)

-- `-e` and an extruder, or `-m` and a count of workers
abbrev pub numbered : List ℕ → Option Chosen
numbered (a ∷ b ∷ ds) =
    cond (a == 45 && b == 101) (extruder_of ds)
    (cond (a == 45 && b == 109) (workers_of ds) None)
numbered (a ∷ []) = None
numbered [] = None

-- what a word alone chooses
abbrev pub alone_of : List ℕ → Option Chosen
alone_of w =
    cond (bytes_eq w (codes "-g")) (Some everything)
    (cond (bytes_eq w (codes "-v")) (Some nothing)
    (cond (bytes_eq w (codes "-p")) (Some nothing)
    (cond (bytes_eq w (codes "--journal")) (Some journal) (numbered w))))

-- a key that ends before the byte of that number, and the value behind that byte
abbrev pub pair_at : List ℕ → Option ℕ → Option Chosen
pair_at w None = None
pair_at w (Some i) = Some (pair (take i w) (drop (i + 1) w))

-- a key and a value with the first `=` between them
abbrev pub pair_of : List ℕ → Option Chosen
pair_of w = pair_at w (position (λ c. c == 61) w)

-- what a word chooses behind one that takes it
abbrev pub taken_of : Taker → List ℕ → Option Chosen
taken_of Settings w = Some (settings w)
taken_of Mesh w = Some (mesh w)
taken_of Output w = Some (output w)
taken_of Pair w = pair_of w

-- a settings file is chosen
abbrev pub is_settings : Chosen → Bool
is_settings (settings w) = true
is_settings c = false

-- a mesh is chosen
abbrev pub is_mesh : Chosen → Bool
is_mesh (mesh w) = true
is_mesh c = false

-- there are sixteen of these already
abbrev pub is_full : Taker → ℕ → ℕ → Bool
is_full Settings files meshes = nat_le 16 files
is_full Mesh files meshes = nat_le max_meshes meshes
is_full t files meshes = false

-- what is chosen, or word n is at fault
abbrev pub or_fault : ℕ → Option Chosen → Result Chosen ℕ
or_fault n None = Err n
or_fault n (Some c) = Ok c

-- What a piece chooses behind so many settings files and meshes, or the number of its word at fault.
-- Its first word has number n.
abbrev pub choice_of : ℕ → ℕ → ℕ → Piece → Result Chosen ℕ
choice_of n files meshes lacking = Err n
choice_of n files meshes (alone w) = or_fault n (alone_of w)
choice_of n files meshes (taking t w) = cond (is_full t files meshes) (Err n) (or_fault (n + 1) (taken_of t w))

-- a choice and then others, or the fault
abbrev pub with_choice : Result Chosen ℕ → (Chosen → Result (List Chosen) ℕ) → Result (List Chosen) ℕ
with_choice (Err n) rest = Err n
with_choice (Ok c) rest = rest c

-- the choices of all pieces, or the number of the first word at fault
abbrev pub read : ℕ → List Chosen → List Piece → Result (List Chosen) ℕ
read n done [] = Ok done
read n done (p ∷ ps) =
    with_choice (choice_of n (count_by is_settings done) (count_by is_mesh done) p)
    (λ c. read (n + words_in p) (done ++ c ∷ []) ps)

-- the choices of the words behind the command, the first of which is word 2
abbrev pub choices_of : List (List ℕ) → Result (List Chosen) ℕ
choices_of ws = read 2 [] (cut None ws)
