use Rattle.std.proofs.Common.{◌++◌, refl}
use Rattle.answers.proofs.pieces.put_two.Goals as goal

pub returns-clause-err : goal.returns-clause-err
returns-clause-err g c =
    let l = c.puts_add_up.ensures in
    let xs = c.args.first.now in
    let ys = c.args.second.now in
    let a = g.S.Sink.output c.args.console.now in
    let b = g.S.Sink.output c.put_all.new.sink in
    let first = l.step a a b (xs ++ ys) (xs ++ ys) xs ys xs (l.start a (xs ++ ys)) refl refl c.in_ok-put_all.ensures.ok in
    l.last_err c.put_all-2.result a b (g.S.Sink.output c.put_all-2.new.sink) (xs ++ ys) ys ys first refl c.put_all-2.ensures.err
