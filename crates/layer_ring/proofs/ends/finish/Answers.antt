use Rattle.std.proofs.Common.{◌≡◌, None, sym, ap, ◌∙◌, subst}
use Rattle.ring_core.specs.Core.{IsRun, reached}
use Rattle.ring_core.specs.Keeps.{Waits}
use Rattle.ring_core.specs.Laws.{Orderly}
use Rattle.layer_ring.proofs.AllEnded.{nobody_holds, all_taken, kept_at}
use Rattle.layer_ring.proofs.ends.finish.Goals as goal

pub finish-requires-after_bounds : goal.finish-requires-after_bounds
finish-requires-after_bounds g c κs within =
    nobody_holds c.args.ring.layers c.args.ring.workers c.args.ring.events (c.runs_are_orderly.ensures c.args.ring.layers c.args.ring.workers c.args.ring.events c.events-events.ensures.run) c.requires.ended

pub returns-clause-free : goal.returns-clause-free
returns-clause-free g c =
    ap (λ xs. (reached xs).holder) c.finish.ensures.events ∙ nobody_holds c.args.ring.layers c.args.ring.workers c.args.ring.events (c.runs_are_orderly.ensures c.args.ring.layers c.args.ring.workers c.args.ring.events c.events-events.ensures.run) c.requires.ended

pub returns-clause-taken : goal.returns-clause-taken
returns-clause-taken g c = λ h.
    let none : (reached c.args.ring.events).cause ≡ None = sym c.finish.ensures.halted ∙ h in
    ap (λ xs. (reached xs).taken) c.finish.ensures.events
    ∙ all_taken c.args.ring.layers c.args.ring.workers c.args.ring.events c.runs_are_orderly.ensures c.idle_workers_leave_nothing.ensures c.last_worker_took_all.ensures c.events-events.ensures.run c.requires.some c.requires.ended none

pub returns-clause-fed : goal.returns-clause-fed
returns-clause-fed g c = λ h.
    let none : (reached c.args.ring.events).cause ≡ None = sym c.finish.ensures.halted ∙ h in
    let all : (reached c.args.ring.events).taken ≡ c.args.ring.layers = all_taken c.args.ring.layers c.args.ring.workers c.args.ring.events c.runs_are_orderly.ensures c.idle_workers_leave_nothing.ensures c.last_worker_took_all.ensures c.events-events.ensures.run c.requires.some c.requires.ended none in
    subst (g.C.Consumer.is_at c.finish.result.consumer) all (c.finish.ensures.fed h)

pub returns-clause-kept : goal.returns-clause-kept
returns-clause-kept g c =
    kept_at g.C.Consumer.name g.C.Consumer.is_at g.C.Consumer.fault_count c.args.ring.planner c.args.ring.faults c.args.ring.layers c.args.ring.workers c.finish.result.events.items c.finish.result.consumer
    (subst (λ xs. Waits g.C.Consumer.name g.C.Consumer.is_at g.C.Consumer.fault_count c.args.ring.planner c.args.ring.faults (reached xs) c.finish.result.consumer) (sym c.finish.ensures.events) c.finish.ensures.consumer)
    (c.takes_are_given_back.ensures c.args.ring.layers c.args.ring.workers c.finish.result.events.items (subst (IsRun c.args.ring.layers c.args.ring.workers) (sym c.finish.ensures.events) c.finish.ensures.run))
    (subst (Orderly c.args.ring.layers c.args.ring.workers) (sym c.finish.ensures.events) (c.runs_are_orderly.ensures c.args.ring.layers c.args.ring.workers c.args.ring.events c.events-events.ensures.run))
    (ap (λ xs. (reached xs).holder) c.finish.ensures.events ∙ nobody_holds c.args.ring.layers c.args.ring.workers c.args.ring.events (c.runs_are_orderly.ensures c.args.ring.layers c.args.ring.workers c.args.ring.events c.events-events.ensures.run) c.requires.ended)
