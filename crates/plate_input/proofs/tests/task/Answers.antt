use Rattle.std.proofs.Common.{ℕ, List, Option, Some, None, ◌++◌, subst}
use Rattle.std.specs.Prelude.{option_to_list}
use Rattle.std.specs.List.{All}
use Rattle.std.specs.Str.{IsUtf8}
use Rattle.std.proofs.lemmas.List.Elements.{All-tail}
use Rattle.cli_words.specs.Command.{item_names, names_of}
use Rattle.plate_input.proofs.tests.task.Goals as goal

without_output : (o : Option (List ℕ)) (names : List (List ℕ)) → All IsUtf8 (option_to_list o ++ names) → All IsUtf8 names
without_output None names h = h
without_output (Some name) names h = All-tail IsUtf8 name names h

pub returns-in-Ok-Serial-clause-utf8 : goal.returns-in-Ok-Serial-clause-utf8
returns-in-Ok-Serial-clause-utf8 c =
    without_output c.in-Ok-Serial.task.out (item_names c.in-Ok-Serial.task.items) (subst (λ x. All IsUtf8 (names_of x)) c.in-Ok-Serial.field-0-is c.in-Ok-Serial.ensures.names)
