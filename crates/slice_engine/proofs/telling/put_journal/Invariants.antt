use Rattle.std.proofs.Common.{drop}
use Rattle.slice_engine.specs.Done.{journal_text}
use Rattle.outside.specs.Walks.{Walked}
use Rattle.slice_engine.proofs.telling.put_journal.Given as goal

abbrev pub invariant-events : goal.invariant-events
invariant-events g l = Walked (g.Co.Sink.output l.initial.console) (journal_text l.journal) (journal_text (drop l.event-index l.journal)) (g.Co.Sink.output l.console)
