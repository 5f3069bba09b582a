-- The files that items name, and the pairs and meshes that they give.
use Rattle.std.specs.Prelude.{ℕ, ◌≡◌, ◌≤◌, List, [], ◌∷◌, ◌++◌, length, Option, Some, None, Result, Ok, Err}
use Rattle.slice_base.specs.Limits.{max_file_bytes}
use Rattle.settings_core.specs.declared.pairs.Pair.{Pair}
use Rattle.settings_core.specs.File.{file_pairs}
use Rattle.outside.specs.Files.{Files, IsFile, IsTooLong}
use Rattle.cli_words.specs.declared.command.Item.{Item}
use Rattle.cli_words.specs.declared.command.Item.TheVariants as item
use Rattle.cli_words.specs.Command.{item_names}

-- these are the contents of the files of these names, in order, and none is too long
abbrev pub AreFiles : Option Files → List (List ℕ) → List (List ℕ) → Type 0
AreFiles files [] [] = Unit {0}
AreFiles files [] (bytes ∷ contents) = ⊥
AreFiles files (name ∷ names) [] = ⊥
AreFiles files (name ∷ names) (bytes ∷ contents) =
    IsFile files name bytes × (length bytes ≤ max_file_bytes) × AreFiles files names contents

-- the first file at fault, of those that the items name, is too long
pub record FirstTooLong (items : List Item) (files : Option Files) (name : List ℕ) : Type 0 where
  pub front : List (List ℕ)
  pub rest : List (List ℕ)
  pub contents : List (List ℕ)
  pub names : item_names items ≡ front ++ name ∷ rest
  pub are : AreFiles files front contents
  pub too_long : IsTooLong files name max_file_bytes

-- pairs, and then others
abbrev pub in_front : List Pair → Result (List Pair) (List ℕ) → Result (List Pair) (List ℕ)
in_front pairs (Ok others) = Ok (pairs ++ others)
in_front pairs (Err name) = Err name

-- the pairs of a settings file of this name, where it is one, and then others
abbrev pub file_in_front : List ℕ → Option (List Pair) → Result (List Pair) (List ℕ) → Result (List Pair) (List ℕ)
file_in_front name None others = Err name
file_in_front name (Some pairs) others = in_front pairs others

-- all pairs in order, where the contents are those of the files that the items name: the pairs of a
-- settings file stand where it is named. Or the name of the first settings file that isn't one.
abbrev pub pairs_of : List Item → List (List ℕ) → Result (List Pair) (List ℕ)
pairs_of [] contents = Ok []
pairs_of (item.Pair p ∷ is) contents = in_front (p ∷ []) (pairs_of is contents)
pairs_of (item.Settings name ∷ is) [] = pairs_of is []
pairs_of (item.Settings name ∷ is) (bytes ∷ contents) = file_in_front name (file_pairs bytes) (pairs_of is contents)
pairs_of (item.Mesh name e ∷ is) [] = pairs_of is []
pairs_of (item.Mesh name e ∷ is) (bytes ∷ contents) = pairs_of is contents

-- the contents of the meshes' files, in order
abbrev pub mesh_bytes : List Item → List (List ℕ) → List (List ℕ)
mesh_bytes [] contents = []
mesh_bytes (item.Pair p ∷ is) contents = mesh_bytes is contents
mesh_bytes (item.Settings name ∷ is) [] = mesh_bytes is []
mesh_bytes (item.Settings name ∷ is) (bytes ∷ contents) = mesh_bytes is contents
mesh_bytes (item.Mesh name e ∷ is) [] = mesh_bytes is []
mesh_bytes (item.Mesh name e ∷ is) (bytes ∷ contents) = bytes ∷ mesh_bytes is contents

-- all files are there, and all settings files are such
pub record HasPairs (items : List Item) (files : Option Files) : Type 0 where
  pub contents : List (List ℕ)
  pub are : AreFiles files (item_names items) contents
  pub pairs : List Pair
  pub given : pairs_of items contents ≡ Ok pairs

-- all files are there, and that settings file is the first that isn't one
pub record FirstNotJson (items : List Item) (files : Option Files) (name : List ℕ) : Type 0 where
  pub contents : List (List ℕ)
  pub are : AreFiles files (item_names items) contents
  pub not_json : pairs_of items contents ≡ Err name
