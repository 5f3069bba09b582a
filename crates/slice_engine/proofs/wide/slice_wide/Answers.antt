use Rattle.std.proofs.Common.{rules, ◌≡◌, ℕ, Ok, Err, Result, sym, ap, subst, ◌∙◌}
use Rattle.answers.specs.declared.refusal.Refusal.{Refusal}
use Rattle.slice_engine.specs.declared.done.Done.{Done}
use Rattle.slice_engine.specs.declared.done.Done.TheVariants.{Sliced}
use Rattle.slice_engine.specs.declared.writing.Stop.{Stop}
use Rattle.slice_engine.specs.Answers.{SaysSlice}
use Rattle.slice_engine.specs.Totals.{totals_of}
use Rattle.slice_engine.specs.Inner.Slicing.{WroteWide}
use Rattle.slice_engine.proofs.WideEndings.{sliced, slice_stopped}
use Rattle.slice_engine.proofs.wide.slice_wide.Goals.{in-Ok-wrote, in-Err-wrote}
use Rattle.slice_engine.proofs.wide.slice_wide.Goals as goal

pub returns-clause-says : goal.returns-clause-says
returns-clause-says g c =
    let task = c.args.task in
    let job = c.in-Ok.job in
    let name = c.in-Some.name in
    let shelf = g.Sh.Shelf.store c.args.shelf.now in
    let shelf_after = g.Sh.Shelf.store c.plan_task_wide.new.shelf in
    let journal = c.write_wide-wrote.result.journal.items in
    let before = g.Si.Sink.output c.args.sink in
    let after = g.Si.Sink.output c.write_wide-wrote.result.sink in
    let told : (e : Result Done Refusal) → c.match-wrote.ended ≡ e → SaysSlice e task journal shelf shelf_after before after → SaysSlice c.match-wrote.ended task journal shelf shelf_after before after =
    λ e is h. subst (λ (x : Result Done Refusal). SaysSlice x task journal shelf shelf_after before after) (sym is) h in
    let wrote : WroteWide c.write_wide-wrote.result.wrote journal job task.workers name before after =
    subst (λ (n : ℕ). WroteWide c.write_wide-wrote.result.wrote journal job n name before after) c.from-workers.ensures c.write_wide-wrote.ensures.wrote in
    elim c.match-wrote.branch [
      | in-Ok-wrote w ↦
          let same : w.totals_of.result ≡ totals_of job = search rules in
          told (Ok (Sliced (totals_of job))) (w.ended-is ∙ ap (λ t. Ok (Sliced t)) same) (sliced task shelf shelf_after journal job name before after c.in-Ok.ensures.says c.in-Some.is
          (subst (λ (r : Result (Unit {0}) Stop). WroteWide r journal job task.workers name before after) w.in-Ok-wrote.is wrote))
      | in-Err-wrote w ↦
          told _ (w.ended-is ∙ ap Err w.stop_refusal.ensures) (slice_stopped task shelf shelf_after journal job name before after w.in-Err-wrote.stop c.in-Ok.ensures.says c.in-Some.is
          (subst (λ (r : Result (Unit {0}) Stop). WroteWide r journal job task.workers name before after) w.in-Err-wrote.is wrote))
    ]
