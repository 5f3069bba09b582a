use Rattle.std.proofs.Common.{ℕ, List, ◌≡◌, ◌++◌, codes, refl}
use Rattle.std.proofs.lemmas.List.{append_assoc}
use Rattle.std.proofs.lemmas.Result.{err_from_is_err_and}
use Rattle.answers.specs.Lines.{scope_text}
use Rattle.answers.proofs.pieces.put_key.Goals as goal

by_first : (xs ys key : List ℕ) → xs ++ ys ++ codes " " ++ key ≡ xs ++ (ys ++ (codes " " ++ key))
by_first xs ys key = simp append_assoc

pub returns-in_err-put_scope-clause-err : goal.returns-in_err-put_scope-clause-err
returns-in_err-put_scope-clause-err g c =
    let l = c.puts_add_up.ensures in
    let xs = c.args.text.now in
    let ys = scope_text c.args.scope in
    let rest = codes " " ++ c.args.key.now in
    let whole = xs ++ ys ++ codes " " ++ c.args.key.now in
    let a = g.S.Sink.output c.args.console.now in
    let b = g.S.Sink.output c.put_all.new.sink in
    let first = l.step a a b whole whole xs (ys ++ rest) xs (l.start a whole) (by_first xs ys c.args.key.now) refl c.in_ok-put_all.ensures.ok in
    let p = err_from_is_err_and c.from_residual-in_err-put_scope.result c.from_residual-in_err-put_scope.ensures.1 in
    rw p.1 (l.front a b (g.S.Sink.output c.put_scope.new.console) whole (ys ++ rest) ys rest ys first refl refl c.in_err-put_scope.ensures.err)

pub returns-clause-err : goal.returns-clause-err
returns-clause-err g c =
    let l = c.puts_add_up.ensures in
    let xs = c.args.text.now in
    let ys = scope_text c.args.scope in
    let rest = codes " " ++ c.args.key.now in
    let whole = xs ++ ys ++ codes " " ++ c.args.key.now in
    let a = g.S.Sink.output c.args.console.now in
    let b = g.S.Sink.output c.put_all.new.sink in
    let d = g.S.Sink.output c.put_scope.new.console in
    let first = l.step a a b whole whole xs (ys ++ rest) xs (l.start a whole) (by_first xs ys c.args.key.now) refl c.in_ok-put_all.ensures.ok in
    let second = l.step a b d whole (ys ++ rest) ys rest ys first refl refl c.in_ok-put_scope.ensures.ok in
    l.last_err c.put_two.result a d (g.S.Sink.output c.put_two.new.console) whole rest rest second refl c.put_two.ensures.err
