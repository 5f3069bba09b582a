-- The command that a list of words gives, or the first fault of it. A word is the list of its bytes.
use Rattle.std.specs.Prelude.{ℕ, ◌+◌, ◌<◌, ◌≤◌, ◌==◌, count_by, Bool, true, false, cond, ◌&&◌, List, [], ◌∷◌, ◌++◌, length, Option, Some, None, IsSome, Result, Ok, Err, bytes_eq, codes, option_to_list}
use Rattle.std.specs.List.{All, fold}
use Rattle.settings_core.specs.declared.pairs.Scope.{Scope}
use Rattle.settings_core.specs.declared.pairs.Scope.TheVariants as scope
use Rattle.settings_core.specs.declared.pairs.Given.TheVariants.{Words}
use Rattle.slice_base.specs.Limits.{max_workers, max_meshes, max_extruders}
use Rattle.cli_words.specs.declared.command.Item.{Item}
use Rattle.cli_words.specs.declared.command.Item.TheVariants as item
use Rattle.cli_words.specs.declared.command.Task.{Task}
use Rattle.cli_words.specs.declared.command.Command.{Command}
use Rattle.cli_words.specs.declared.command.Command.TheVariants as command
use Rattle.cli_words.specs.declared.command.WordFault.{WordFault}
use Rattle.cli_words.specs.declared.command.WordFault.TheVariants.{BadWord, NoInput, NoOutput}
use Rattle.cli_words.specs.declared.read.Kind.{Kind}
use Rattle.cli_words.specs.declared.read.Kind.TheVariants as kind
use Rattle.cli_words.specs.Choices.{Chosen, settings, mesh, extruder, everything, pair, output, workers, journal, is_mesh, number_of, choices_of}

-- what later pairs belong to, the extruder of later meshes, and the meshes so far
pub record Context : Type 0 where
  pub scope : Scope
  pub extruder : ℕ
  pub meshes : ℕ

-- before any choice
abbrev pub start : Context
start = record { scope = scope.Global; extruder = 0; meshes = 0 }

-- what later choices belong to
abbrev pub moved : Context → Chosen → Context
moved p (extruder n) = record { scope = scope.Extruder n; extruder = n; meshes = p.meshes }
moved p everything = record { scope = scope.Global; extruder = p.extruder; meshes = p.meshes }
moved p (mesh name) = record { scope = scope.Mesh p.meshes; extruder = p.extruder; meshes = p.meshes + 1 }
moved p c = p

-- what a choice adds to a task
abbrev pub items_of : Context → Chosen → List Item
items_of p (settings name) = item.Settings name ∷ []
items_of p (mesh name) = item.Mesh name p.extruder ∷ []
items_of p (pair key value) = item.Pair (record { scope = p.scope; key = key; value = Words value }) ∷ []
items_of p c = []

-- what all choices add, in order
abbrev pub all_items : Context → List Chosen → List Item
all_items p [] = []
all_items p (c ∷ cs) = items_of p c ++ all_items (moved p c) cs

-- of the numbers of workers the last one counts
abbrev pub workers_or : ℕ → Chosen → ℕ
workers_or n (workers m) = m
workers_or n c = n

-- of the files to write the last one counts
abbrev pub output_or : Option (List ℕ) → Chosen → Option (List ℕ)
output_or o (output name) = Some name
output_or o c = o

-- the journal is asked for once at least
abbrev pub journal_or : Bool → Chosen → Bool
journal_or b journal = true
journal_or b c = b

-- the file to write, where one is chosen
abbrev pub output_in : List Chosen → Option (List ℕ)
output_in cs = fold output_or None cs

-- the task that choices make: four workers and no journal, unless they say otherwise
abbrev pub task_of : List Chosen → Task
task_of cs = record {
  workers = fold workers_or 4 cs;
  journal = fold journal_or false cs;
  out = output_in cs;
  items = all_items start cs;
}

-- no file is named
abbrev pub is_none : Option (List ℕ) → Bool
is_none None = true
is_none (Some name) = false

-- the command that a word names
abbrev pub kind_of : List ℕ → Option Kind
kind_of w =
    cond (bytes_eq w (codes "slice")) (Some kind.Slice)
    (cond (bytes_eq w (codes "serial")) (Some kind.Serial)
    (cond (bytes_eq w (codes "check")) (Some kind.Check)
    (cond (bytes_eq w (codes "gen")) (Some kind.Gen) None)))

-- the command writes a file
abbrev pub needs_output : Kind → Bool
needs_output kind.Check = false
needs_output k = true

-- the command of a task
abbrev pub task_command : Kind → Task → Command
task_command kind.Slice t = command.Slice t
task_command kind.Serial t = command.Serial t
task_command k t = command.Check t

-- a task has a mesh, and a file to write where it writes one
abbrev pub task_checked : Kind → List Chosen → Result Command WordFault
task_checked k cs =
    cond (count_by is_mesh cs == 0) (Err NoInput)
    (cond (needs_output k && is_none (output_in cs)) (Err NoOutput) (Ok (task_command k (task_of cs))))

-- a task, or the first word at fault
abbrev pub task_if : Kind → Result (List Chosen) ℕ → Result Command WordFault
task_if k (Err n) = Err (BadWord n)
task_if k (Ok cs) = task_checked k cs

-- behind `-o`: a file, and no other word
abbrev pub gen_file : ℕ → List (List ℕ) → Result Command WordFault
gen_file n [] = Err (BadWord 3)
gen_file n (name ∷ []) = Ok (command.Gen n name)
gen_file n (name ∷ w ∷ ws) = Err (BadWord 5)

-- behind the number: `-o` and a file
abbrev pub gen_output : ℕ → List (List ℕ) → Result Command WordFault
gen_output n [] = Err NoOutput
gen_output n (w ∷ ws) = cond (bytes_eq w (codes "-o")) (gen_file n ws) (Err (BadWord 3))

-- behind `gen`: a number, and what follows it
abbrev pub gen_numbered : Option ℕ → List (List ℕ) → Result Command WordFault
gen_numbered None ws = Err (BadWord 2)
gen_numbered (Some n) ws = gen_output n ws

-- `gen`, a number of at most ten digits, `-o` and a file; no other word
abbrev pub gen_of : List (List ℕ) → Result Command WordFault
gen_of [] = Err (BadWord 2)
gen_of (w ∷ ws) = gen_numbered (number_of 10 0 4294967295 w) ws

-- what the words behind the first one give
abbrev pub command_by : Option Kind → List (List ℕ) → Result Command WordFault
command_by None ws = Err (BadWord 1)
command_by (Some kind.Gen) ws = gen_of ws
command_by (Some k) ws = task_if k (choices_of ws)

-- the command that the words give, or their first fault
unfoldable pub command_of : List (List ℕ) → Result Command WordFault
command_of [] = Err (BadWord 1)
command_of (w ∷ ws) = command_by (kind_of w) ws

-- the file names of items, in order
abbrev pub item_names : List Item → List (List ℕ)
item_names [] = []
item_names (item.Pair p ∷ is) = item_names is
item_names (item.Settings name ∷ is) = name ∷ item_names is
item_names (item.Mesh name e ∷ is) = name ∷ item_names is

-- the file names of a task, in order: the file to write, and those of the items
abbrev pub task_names : Task → List (List ℕ)
task_names t = option_to_list t.out ++ item_names t.items

-- the file names of a command, in order
abbrev pub names_of : Command → List (List ℕ)
names_of (command.Slice t) = task_names t
names_of (command.Serial t) = task_names t
names_of (command.Check t) = task_names t
names_of (command.Gen n name) = name ∷ []

-- the extruders given with the meshes of items, in order
abbrev pub item_extruders : List Item → List ℕ
item_extruders [] = []
item_extruders (item.Pair p ∷ is) = item_extruders is
item_extruders (item.Settings name ∷ is) = item_extruders is
item_extruders (item.Mesh name e ∷ is) = e ∷ item_extruders is

-- a task has 1 to 64 workers, and 1 to 16 meshes, each with an extruder below 8
pub record IsTask (t : Task) : Type 0 where
  pub a_worker : 0 < t.workers
  pub few_workers : t.workers ≤ max_workers
  pub some : 0 < length (item_extruders t.items)
  pub few : length (item_extruders t.items) ≤ max_meshes
  pub below_eight : All (λ e. e < max_extruders) (item_extruders t.items)

-- a task is one, and one that writes has a file to write
abbrev pub IsSound : Command → Type 0
IsSound (command.Slice t) = IsTask t × IsSome t.out
IsSound (command.Serial t) = IsTask t × IsSome t.out
IsSound (command.Check t) = IsTask t
IsSound (command.Gen n name) = Unit {0}
