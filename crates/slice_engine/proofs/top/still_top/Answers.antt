use Rattle.std.proofs.Common.{false, [], map, string_bytes, Some, Option, ap, sym, subst, ◌≡◌, ◌⊎◌, ◌∙◌}
use Rattle.answers.specs.declared.refusal.Refusal.{Refusal}
use Rattle.answers.specs.declared.refusal.Refusal.TheVariants as refusal
use Rattle.cli_words.specs.Command.{command_of}
use Rattle.slice_engine.specs.declared.totals.Totals.{Totals}
use Rattle.slice_engine.specs.Totals.{RunTotals}
use Rattle.slice_engine.specs.Done.{kept_totals}
use Rattle.slice_engine.proofs.Endings.{bad_word_told, no_input_told, no_output_told, refused_told}
use Rattle.slice_engine.proofs.RunTotals.{run_totals}
use Rattle.slice_engine.proofs.top.still_top.Goals as goal

pub returns-clause-bad_word : goal.returns-clause-bad_word
returns-clause-bad_word g c = λ n.
    rw c.of.ensures.refusal (bad_word_told false [] (command_of (map string_bytes c.args.words.now)) n c.run_still-ended.result.0 c.tell-refusal.result
    (g.Sh.Shelf.store c.args.shelf.now) (g.Sh.Shelf.store c.run_still-ended.new.shelf) (g.Si.Sink.output c.args.sink) (g.Si.Sink.output c.run_still-ended.result.1)
    (g.Co.Sink.output c.args.console.now) (g.Co.Sink.output c.tell-refusal.new.console) c.run_still-ended.ensures.says c.run_still-ended.ensures.word c.tell-refusal.ensures)

pub returns-clause-no_input : goal.returns-clause-no_input
returns-clause-no_input g c =
    rw c.of.ensures.refusal (no_input_told false [] (command_of (map string_bytes c.args.words.now)) c.run_still-ended.result.0 c.tell-refusal.result
    (g.Sh.Shelf.store c.args.shelf.now) (g.Sh.Shelf.store c.run_still-ended.new.shelf) (g.Si.Sink.output c.args.sink) (g.Si.Sink.output c.run_still-ended.result.1)
    (g.Co.Sink.output c.args.console.now) (g.Co.Sink.output c.tell-refusal.new.console) c.run_still-ended.ensures.says c.run_still-ended.ensures.word c.tell-refusal.ensures)

pub returns-clause-no_output : goal.returns-clause-no_output
returns-clause-no_output g c =
    rw c.of.ensures.refusal (no_output_told false [] (command_of (map string_bytes c.args.words.now)) c.run_still-ended.result.0 c.tell-refusal.result
    (g.Sh.Shelf.store c.args.shelf.now) (g.Sh.Shelf.store c.run_still-ended.new.shelf) (g.Si.Sink.output c.args.sink) (g.Si.Sink.output c.run_still-ended.result.1)
    (g.Co.Sink.output c.args.console.now) (g.Co.Sink.output c.tell-refusal.new.console) c.run_still-ended.ensures.says c.run_still-ended.ensures.word c.tell-refusal.ensures)

pub returns-clause-refused : goal.returns-clause-refused
returns-clause-refused g c = λ files r told gives quiet.
    subst (λ (x : Option Refusal). (x ≡ Some r) ⊎ (x ≡ Some refusal.NoMemory)) (sym c.of.ensures.refusal)
    (refused_told false [] (command_of (map string_bytes c.args.words.now)) (Some files) r c.run_still-ended.result.0 c.tell-refusal.result
    (g.Sh.Shelf.store c.args.shelf.now) (g.Sh.Shelf.store c.run_still-ended.new.shelf) (g.Si.Sink.output c.args.sink) (g.Si.Sink.output c.run_still-ended.result.1)
    (g.Co.Sink.output c.args.console.now) (g.Co.Sink.output c.tell-refusal.new.console) (c.one_job.ensures (map string_bytes c.args.words.now) files) told gives quiet
    c.run_still-ended.ensures.says c.tell-refusal.ensures)

pub returns-clause-totals : goal.returns-clause-totals
returns-clause-totals g c =
    let command = command_of (map string_bytes c.args.words.now) in
    let ended = c.run_still-ended.result.0 in
    let shelf = g.Sh.Shelf.store c.args.shelf.now in
    subst (λ (x : Option Refusal). RunTotals x command shelf.files c.of.result.totals) (sym c.of.ensures.refusal)
    (subst (λ (t : Totals). RunTotals c.tell-refusal.result command shelf.files t) (sym (c.of.ensures.totals ∙ ap (kept_totals c.tell-refusal.result) c.totals_in-totals.ensures))
    (run_totals false [] ended command c.tell-refusal.result shelf (g.Sh.Shelf.store c.run_still-ended.new.shelf) (g.Si.Sink.output c.args.sink) (g.Si.Sink.output c.run_still-ended.result.1)
    (g.Co.Sink.output c.args.console.now) (g.Co.Sink.output c.tell-refusal.new.console) c.run_still-ended.ensures.says c.tell-refusal.ensures))
