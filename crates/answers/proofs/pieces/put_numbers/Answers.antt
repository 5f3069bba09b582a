use Rattle.std.proofs.Common.{◌++◌, decimal, refl}
use Rattle.std.proofs.lemmas.List.{append_assoc}
use Rattle.answers.proofs.pieces.put_numbers.Goals as goal

pub returns-clause-err : goal.returns-clause-err
returns-clause-err g c =
    let l = c.puts_add_up.ensures in
    let xs = c.args.first.now ++ decimal c.args.m in
    let ys = c.args.second.now ++ decimal c.args.n in
    let whole = xs ++ c.args.second.now ++ decimal c.args.n in
    let a = g.S.Sink.output c.args.console.now in
    let b = g.S.Sink.output c.put_number.new.console in
    let first = l.step a a b whole whole xs ys xs (l.start a whole) (append_assoc xs c.args.second.now (decimal c.args.n)) refl c.in_ok-put_number.ensures.ok in
    l.last_err c.put_number-2.result a b (g.S.Sink.output c.put_number-2.new.console) whole ys ys first refl c.put_number-2.ensures.err
