use Rattle.std.proofs.Common.{subst}
use Rattle.std.specs.List.{All}
use Rattle.std.specs.Str.{IsUtf8}
use Rattle.cli_words.specs.declared.command.Command.{Command}
use Rattle.cli_words.specs.Command.{item_names, names_of}
use Rattle.slice_engine.proofs.Endings.{behind_output, checked_writes}
use Rattle.slice_engine.proofs.still.do_still.Goals as goal

pub slice_still-requires-clause-names : goal.slice_still-requires-clause-names
slice_still-requires-clause-names g c =
    let task = c.in-Slice.task in
    behind_output IsUtf8 task.out (item_names task.items) (subst (λ (x : Command). All IsUtf8 (names_of x)) c.in-Slice.is c.requires.names)

pub slice_still-requires-in-Serial-clause-names : goal.slice_still-requires-in-Serial-clause-names
slice_still-requires-in-Serial-clause-names g c =
    let task = c.in-Serial.task in
    behind_output IsUtf8 task.out (item_names task.items) (subst (λ (x : Command). All IsUtf8 (names_of x)) c.in-Serial.is c.requires.names)

pub check-requires-clause-names : goal.check-requires-clause-names
check-requires-clause-names g c =
    let task = c.in-Check.task in
    behind_output IsUtf8 task.out (item_names task.items) (subst (λ (x : Command). All IsUtf8 (names_of x)) c.in-Check.is c.requires.names)

pub returns-in-Check-clause-write_faults : goal.returns-in-Check-clause-write_faults
returns-in-Check-clause-write_faults g c =
    let o = g.Si.Sink.output c.args.sink in
    checked_writes c.check.result c.in-Check.task (g.Sh.Shelf.store c.args.shelf.now) (g.Sh.Shelf.store c.check.new.shelf) o (c.check.ensures.says o)
