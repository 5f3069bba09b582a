use Rattle.std.proofs.Common.{◌++◌, ◌∷◌, [], codes, refl}
use Rattle.std.proofs.lemmas.List.{append_assoc}
use Rattle.std.proofs.lemmas.Result.{err_from_is_err_and}
use Rattle.answers.specs.Lines.{refusal_text, refusal_line}
use Rattle.answers.proofs.lines.put_refusal.Goals as goal

pub returns-in_err-put_all-clause-err : goal.returns-in_err-put_all-clause-err
returns-in_err-put_all-clause-err g c =
    let l = c.puts_add_up.ensures in
    let head = codes "error: " in
    let text = refusal_text c.args.refusal.now in
    let whole = refusal_line c.args.refusal.now in
    let a = g.S.Sink.output c.args.console.now in
    let p = err_from_is_err_and c.from_residual.result c.from_residual.ensures.1 in
    rw p.1 (l.front a a (g.S.Sink.output c.put_all.new.sink) whole whole head (text ++ 10 ∷ []) head (l.start a whole) (append_assoc head text (10 ∷ [])) refl c.in_err-put_all.ensures.err)

pub returns-in_err-put_text-clause-err : goal.returns-in_err-put_text-clause-err
returns-in_err-put_text-clause-err g c =
    let l = c.puts_add_up.ensures in
    let head = codes "error: " in
    let text = refusal_text c.args.refusal.now in
    let whole = refusal_line c.args.refusal.now in
    let a = g.S.Sink.output c.args.console.now in
    let b = g.S.Sink.output c.put_all.new.sink in
    let first = l.step a a b whole whole head (text ++ 10 ∷ []) head (l.start a whole) (append_assoc head text (10 ∷ [])) refl c.in_ok-put_all.ensures.ok in
    let p = err_from_is_err_and c.from_residual-in_err-put_text.result c.from_residual-in_err-put_text.ensures.1 in
    rw p.1 (l.front a b (g.S.Sink.output c.put_text.new.console) whole (text ++ 10 ∷ []) text (10 ∷ []) text first refl refl c.in_err-put_text.ensures.err)

pub returns-clause-err : goal.returns-clause-err
returns-clause-err g c =
    let l = c.puts_add_up.ensures in
    let head = codes "error: " in
    let text = refusal_text c.args.refusal.now in
    let whole = refusal_line c.args.refusal.now in
    let a = g.S.Sink.output c.args.console.now in
    let b = g.S.Sink.output c.put_all.new.sink in
    let d = g.S.Sink.output c.put_text.new.console in
    let first = l.step a a b whole whole head (text ++ 10 ∷ []) head (l.start a whole) (append_assoc head text (10 ∷ [])) refl c.in_ok-put_all.ensures.ok in
    let second = l.step a b d whole (text ++ 10 ∷ []) text (10 ∷ []) text first refl refl c.in_ok-put_text.ensures.ok in
    l.last_err c.put_all-2.result a d (g.S.Sink.output c.put_all-2.new.sink) whole (10 ∷ []) (10 ∷ []) second refl c.put_all-2.ensures.err
