-- What a command line asks of the program itself.
use Rattle.std.specs.Prelude.{ℕ, ◌==◌, nat_lt, ◌&&◌, Bool, cond, List, [], length, Option, Some, None, codes, slice_index_or}
use Rattle.std.specs.Str.{bytes_eq}
use Rattle.cura_slice.specs.declared.help.Topic.{Topic}
use Rattle.cura_slice.specs.declared.help.Topic.TheVariants.{Usage, Settings, Messages, Version}

-- there is a word at that index, from 0, and it is this text
abbrev pub has_word : List (List ℕ) → ℕ → List ℕ → Bool
has_word words k text = nat_lt k (length words) && bytes_eq (slice_index_or words k []) text

-- the words are `--help`, `--version`, `--help settings` or `--help messages`, and no others
abbrev pub asked_of : List (List ℕ) → Option Topic
asked_of words =
    cond (length words == 1 && has_word words 0 (codes "--help")) (Some Usage)
    (cond (length words == 1 && has_word words 0 (codes "--version")) (Some Version)
    (cond (length words == 2 && has_word words 0 (codes "--help") && has_word words 1 (codes "settings"))
    (Some Settings)
    (cond (length words == 2 && has_word words 0 (codes "--help") && has_word words 1 (codes "messages"))
    (Some Messages)
    None)))
