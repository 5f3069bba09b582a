use Rattle.std.proofs.Common.{subst}
use Rattle.std.specs.List.{All}
use Rattle.std.specs.Str.{IsUtf8}
use Rattle.cli_words.specs.declared.command.Command.{Command}
use Rattle.cli_words.specs.Command.{item_names, names_of}
use Rattle.slice_engine.proofs.Endings.{behind_output}
use Rattle.slice_engine.proofs.wide.do_wide.Goals as goal

pub slice_wide-requires-clause-names : goal.slice_wide-requires-clause-names
slice_wide-requires-clause-names g c κs within =
    let task = c.in-Slice.task in
    behind_output IsUtf8 task.out (item_names task.items) (subst (λ (x : Command). All IsUtf8 (names_of x)) c.in-Slice.is c.requires.names)

pub end_still-requires-clause-names : goal.end_still-requires-clause-names
end_still-requires-clause-names g c = subst (λ (x : Command). All IsUtf8 (names_of x)) c.in-Serial.is c.requires.names

pub end_still-requires-in-Check-clause-names : goal.end_still-requires-in-Check-clause-names
end_still-requires-in-Check-clause-names g c = subst (λ (x : Command). All IsUtf8 (names_of x)) c.in-Check.is c.requires.names
