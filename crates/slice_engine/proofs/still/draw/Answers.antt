use Rattle.std.proofs.Common.{◌≡◌, Ok, Err, Some, sym, subst, Result, refl}
use Rattle.answers.specs.declared.refusal.Refusal.{Refusal}
use Rattle.cli_words.specs.declared.command.Command.TheVariants as command
use Rattle.slice_engine.specs.declared.writing.Stop.{Stop}
use Rattle.slice_engine.specs.Reads.{read_faults}
use Rattle.slice_engine.specs.Answers.{SaysEnd, write_faults}
use Rattle.slice_engine.specs.Inner.Feeding.{Wrote}
use Rattle.slice_engine.proofs.Endings.{stopped, stopped_reads, stopped_writes}
use Rattle.slice_engine.proofs.still.draw.Goals as goal

pub returns-clause-says : goal.returns-clause-says
returns-clause-says g c = λ shelf.
    let job = c.in-Ok.sample.job in
    let before = g.Si.Sink.output c.args.sink in
    let after = g.Si.Sink.output c.write_file-wrote.result.sink in
    let drawn = c.in-Ok.ensures.sample in
    subst (λ (r : Refusal). SaysEnd (Err r) (Ok (command.Gen c.args.number c.args.name)) shelf shelf before after) (sym c.stop_refusal.ensures)
    (stopped (Ok (command.Gen c.args.number c.args.name)) shelf shelf job c.args.name before after c.in-Err-wrote.stop
    (record { plate = drawn.plate; defined = drawn.defined; areas = drawn.areas }) refl
    (subst (λ (w : Result (Unit {0}) Stop). Wrote w job c.args.name before after) c.in-Err-wrote.is c.write_file-wrote.ensures.wrote))

pub returns-clause-read_faults : goal.returns-clause-read_faults
returns-clause-read_faults g c = λ n. subst (λ (r : Refusal). n ≡ read_faults (Some r) n) (sym c.stop_refusal.ensures) (stopped_reads c.in-Err-wrote.stop n)

pub returns-clause-write_faults : goal.returns-clause-write_faults
returns-clause-write_faults g c =
    let job = c.in-Ok.sample.job in
    let before = g.Si.Sink.output c.args.sink in
    let after = g.Si.Sink.output c.write_file-wrote.result.sink in
    subst (λ (r : Refusal). after.faults ≡ write_faults (Some r) before.faults) (sym c.stop_refusal.ensures)
    (stopped_writes job c.args.name before after c.in-Err-wrote.stop
    (subst (λ (w : Result (Unit {0}) Stop). Wrote w job c.args.name before after) c.in-Err-wrote.is c.write_file-wrote.ensures.wrote))
