use Rattle.std.proofs.Common.{rules, map, string_bytes, Some, None, Option, List, ap, sym, subst, ◌≡◌, ◌⊎◌, ◌∙◌}
use Rattle.answers.specs.declared.refusal.Refusal.{Refusal}
use Rattle.answers.specs.declared.refusal.Refusal.TheVariants as refusal
use Rattle.cli_words.specs.Command.{command_of}
use Rattle.ring_core.specs.declared.event.Event.{Event}
use Rattle.slice_engine.specs.declared.totals.Totals.{Totals}
use Rattle.slice_engine.specs.Totals.{RunTotals}
use Rattle.slice_engine.specs.Done.{kept_totals}
use Rattle.slice_engine.specs.Answers.{SaysAll, Tells, asks_journal}
use Rattle.slice_engine.proofs.Endings.{bad_word_told, no_input_told, no_output_told, refused_told}
use Rattle.slice_engine.proofs.WideEndings.{as_still, complete_told, tells_asked}
use Rattle.slice_engine.proofs.RunTotals.{run_totals}
use Rattle.slice_engine.proofs.top.slice_top.Goals as goal

pub returns-clause-says : goal.returns-clause-says
returns-clause-says g c =
    let words = map string_bytes c.args.words.now in
    let w = c.run_wide-ended.result in
    let shelf = g.Sh.Shelf.store c.args.shelf.now in
    let shelf_after = g.Sh.Shelf.store c.run_wide-ended.new.shelf in
    let before = g.Co.Sink.output c.args.console.now in
    let after = g.Co.Sink.output c.tell-refusal.new.console in
    let o = g.Si.Sink.output c.args.sink in
    let p = g.Si.Sink.output w.sink in
    let same : c.deref.result.now ≡ w.journal.items = search rules in
    let all : SaysAll c.tell-refusal.result words w.journal.items shelf shelf_after o p before after =
    record {
      ended = w.ended;
      says = c.run_wide-ended.ensures.says;
      told = tells_asked w.ended w.is_asked (asks_journal (command_of words)) w.journal.items c.tell-refusal.result before after c.run_wide-ended.ensures.asked
          (subst (λ (j : List Event). Tells w.ended w.is_asked j c.tell-refusal.result before after) same c.tell-refusal.ensures);
    } in
    subst (λ (x : Option Refusal). SaysAll x words c.of-2.result.journal shelf shelf_after o p before after) (sym c.of-2.ensures.refusal)
    (subst (λ (j : List Event). SaysAll c.tell-refusal.result words j shelf shelf_after o p before after) (sym (c.of-2.ensures.journal ∙ c.of.ensures)) all)

pub returns-clause-bad_word : goal.returns-clause-bad_word
returns-clause-bad_word g c = λ n.
    let command = command_of (map string_bytes c.args.words.now) in
    let w = c.run_wide-ended.result in
    let shelf = g.Sh.Shelf.store c.args.shelf.now in
    let shelf_after = g.Sh.Shelf.store c.run_wide-ended.new.shelf in
    let before = g.Co.Sink.output c.args.console.now in
    let after = g.Co.Sink.output c.tell-refusal.new.console in
    let o = g.Si.Sink.output c.args.sink in
    let still = as_still w.ended command w.journal.items shelf shelf_after o (g.Si.Sink.output w.sink) c.run_wide-ended.ensures.says in
    rw c.of-2.ensures.refusal (bad_word_told w.is_asked c.deref.result.now command n w.ended c.tell-refusal.result shelf shelf_after o still.0 before after still.1 c.run_wide-ended.ensures.word c.tell-refusal.ensures)

pub returns-clause-no_input : goal.returns-clause-no_input
returns-clause-no_input g c =
    let command = command_of (map string_bytes c.args.words.now) in
    let w = c.run_wide-ended.result in
    let shelf = g.Sh.Shelf.store c.args.shelf.now in
    let shelf_after = g.Sh.Shelf.store c.run_wide-ended.new.shelf in
    let before = g.Co.Sink.output c.args.console.now in
    let after = g.Co.Sink.output c.tell-refusal.new.console in
    let o = g.Si.Sink.output c.args.sink in
    let still = as_still w.ended command w.journal.items shelf shelf_after o (g.Si.Sink.output w.sink) c.run_wide-ended.ensures.says in
    rw c.of-2.ensures.refusal (no_input_told w.is_asked c.deref.result.now command w.ended c.tell-refusal.result shelf shelf_after o still.0 before after still.1 c.run_wide-ended.ensures.word c.tell-refusal.ensures)

pub returns-clause-no_output : goal.returns-clause-no_output
returns-clause-no_output g c =
    let command = command_of (map string_bytes c.args.words.now) in
    let w = c.run_wide-ended.result in
    let shelf = g.Sh.Shelf.store c.args.shelf.now in
    let shelf_after = g.Sh.Shelf.store c.run_wide-ended.new.shelf in
    let before = g.Co.Sink.output c.args.console.now in
    let after = g.Co.Sink.output c.tell-refusal.new.console in
    let o = g.Si.Sink.output c.args.sink in
    let still = as_still w.ended command w.journal.items shelf shelf_after o (g.Si.Sink.output w.sink) c.run_wide-ended.ensures.says in
    rw c.of-2.ensures.refusal (no_output_told w.is_asked c.deref.result.now command w.ended c.tell-refusal.result shelf shelf_after o still.0 before after still.1 c.run_wide-ended.ensures.word c.tell-refusal.ensures)

pub returns-clause-complete : goal.returns-clause-complete
returns-clause-complete g c = λ files job told gives shelf_quiet quiet console_quiet.
    let command = command_of (map string_bytes c.args.words.now) in
    let w = c.run_wide-ended.result in
    let shelf = g.Sh.Shelf.store c.args.shelf.now in
    let shelf_after = g.Sh.Shelf.store c.run_wide-ended.new.shelf in
    let before = g.Co.Sink.output c.args.console.now in
    let after = g.Co.Sink.output c.tell-refusal.new.console in
    let o = g.Si.Sink.output c.args.sink in
    let still = as_still w.ended command w.journal.items shelf shelf_after o (g.Si.Sink.output w.sink) c.run_wide-ended.ensures.says in
    subst (λ (x : Option Refusal). (x ≡ None) ⊎ (x ≡ Some refusal.NoMemory)) (sym c.of-2.ensures.refusal)
    (complete_told command (Some files) job w.ended w.is_asked c.deref.result.now c.tell-refusal.result shelf shelf_after o (g.Si.Sink.output w.sink) still.0 before after
    (c.one_job.ensures (map string_bytes c.args.words.now) files) told gives shelf_quiet quiet console_quiet c.run_wide-ended.ensures.read_faults c.run_wide-ended.ensures.write_faults still.1 c.tell-refusal.ensures)

pub returns-clause-refused : goal.returns-clause-refused
returns-clause-refused g c = λ files r told gives quiet.
    let command = command_of (map string_bytes c.args.words.now) in
    let w = c.run_wide-ended.result in
    let shelf = g.Sh.Shelf.store c.args.shelf.now in
    let shelf_after = g.Sh.Shelf.store c.run_wide-ended.new.shelf in
    let before = g.Co.Sink.output c.args.console.now in
    let after = g.Co.Sink.output c.tell-refusal.new.console in
    let o = g.Si.Sink.output c.args.sink in
    let still = as_still w.ended command w.journal.items shelf shelf_after o (g.Si.Sink.output w.sink) c.run_wide-ended.ensures.says in
    subst (λ (x : Option Refusal). (x ≡ Some r) ⊎ (x ≡ Some refusal.NoMemory)) (sym c.of-2.ensures.refusal)
    (refused_told w.is_asked c.deref.result.now command (Some files) r w.ended c.tell-refusal.result shelf shelf_after o still.0 before after
    (c.one_job.ensures (map string_bytes c.args.words.now) files) told gives quiet still.1 c.tell-refusal.ensures)

pub returns-clause-totals : goal.returns-clause-totals
returns-clause-totals g c =
    let command = command_of (map string_bytes c.args.words.now) in
    let w = c.run_wide-ended.result in
    let shelf = g.Sh.Shelf.store c.args.shelf.now in
    let shelf_after = g.Sh.Shelf.store c.run_wide-ended.new.shelf in
    let before = g.Co.Sink.output c.args.console.now in
    let after = g.Co.Sink.output c.tell-refusal.new.console in
    let o = g.Si.Sink.output c.args.sink in
    let still = as_still w.ended command w.journal.items shelf shelf_after o (g.Si.Sink.output w.sink) c.run_wide-ended.ensures.says in
    subst (λ (x : Option Refusal). RunTotals x command shelf.files c.of-2.result.totals) (sym c.of-2.ensures.refusal)
    (subst (λ (t : Totals). RunTotals c.tell-refusal.result command shelf.files t) (sym (c.of-2.ensures.totals ∙ ap (kept_totals c.tell-refusal.result) c.totals_in-totals.ensures))
    (run_totals w.is_asked c.deref.result.now w.ended command c.tell-refusal.result shelf shelf_after o still.0 before after still.1 c.tell-refusal.ensures))
