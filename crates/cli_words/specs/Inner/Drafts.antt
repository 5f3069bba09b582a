-- A task as far as its words were read.
use Rattle.std.specs.Prelude.{◌≡◌, ◌+◌, ◌++◌, List, count_by, cond}
use Rattle.std.specs.List.{fold}
use Rattle.cli_words.specs.declared.draft.Draft.{Draft}
use Rattle.cli_words.specs.declared.survey.Survey.{Survey}
use Rattle.cli_words.specs.Choices.{Chosen, is_settings, is_mesh}
use Rattle.cli_words.specs.Command.{Context, start, workers_or, journal_or, output_or, output_in, is_none, items_of, moved}

-- what later choices belong to, behind these
abbrev pub context_after : List Chosen → Context
context_after cs = fold moved start cs

-- what later choices belong to, by a draft
abbrev pub context_of : Draft → Context
context_of d = record { scope = d.scope; extruder = d.extruder; meshes = d.meshes }

-- what a choice adds
pub record Adds (old new : Draft) (c : Chosen) : Type 0 where
  pub workers : new.workers ≡ workers_or old.workers c
  pub journal : new.journal ≡ journal_or old.journal c
  pub out : new.out ≡ output_or old.out c
  pub items : new.items ≡ old.items ++ items_of (context_of old) c
  pub context : context_of new ≡ moved (context_of old) c
  pub files : new.files ≡ cond (is_settings c) (old.files + 1) old.files

-- a survey has found what these choices hold
pub record HasFound (cs : List Chosen) (s : Survey) : Type 0 where
  pub meshes : s.meshes ≡ count_by is_mesh cs
  pub lacks_output : s.lacks_output ≡ is_none (output_in cs)
