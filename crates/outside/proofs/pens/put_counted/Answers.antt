use Rattle.std.proofs.Common.{rules, ◌≤◌, ◌-◌, ◌^◌, take, drop, arith}
use Rattle.std.proofs.lemmas.List.{take_rest}
use Rattle.std.proofs.lemmas.Result.{err_from_is_err_and}
use Rattle.outside.specs.Output.{Put}
use Rattle.outside.proofs.Puts.{Put-more}
use Rattle.outside.proofs.Writes.{counted_next, failed_behind}
use Rattle.outside.proofs.pens.put_counted.Goals as goal

pub returns-in_err-taken-clause-err : goal.returns-in_err-taken-clause-err
returns-in_err-taken-clause-err g c =
    let out = g.S.Sink.output in
    let p = err_from_is_err_and c.from_residual.result c.from_residual.ensures.1 in
    let e = c.in_err-taken.ensures in
    let i = c.pieces.invariant in
    rw p.1 (failed_behind (out c.args.sink.now) (out c.pieces.sink) (out c.put.new.self) c.args.count.now c.pieces.count c.pieces.at c.args.bytes.now i.within i.put i.counted e.kept e.only e.faults)

pub pieces-preserved : goal.pieces-preserved
pieces-preserved g c =
    let out = g.S.Sink.output in
    let i = c.pieces.invariant in
    let e = c.in_ok-taken.ensures in
    let t = c.in_ok-taken.taken in
    let next : Put (out c.pieces.sink) (take t (drop c.pieces.at c.args.bytes.now)) (out c.put.new.self) =
    record { held = rw take_rest at e.held; kept = e.only; quiet = e.faults } in
    let small : c.pieces.count ≤ 2 ^ 128 - 1 = search (rules, arith) in
    record {
      within = grind arith;
      put = Put-more _ _ _ _ _ _ i.put next;
      counted = counted_next c.args.count.now c.pieces.count c.pieces.at t c.saturating_add.result i.counted c.saturating_add.ensures small;
    }
