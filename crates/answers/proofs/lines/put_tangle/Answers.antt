use Rattle.std.proofs.Common.{ℕ, ◌≡◌, ◌++◌, codes, decimal}
use Rattle.std.proofs.lemmas.List.{append_assoc}
use Rattle.std.proofs.lemmas.Result.{err_from_is_err_and}
use Rattle.answers.specs.Lines.{tangle_text}
use Rattle.answers.proofs.Ends.{broke_first, broke_second, put_both}
use Rattle.answers.proofs.lines.put_tangle.Goals as goal

cut : (m n k : ℕ) → codes "too tangled: mesh " ++ decimal m ++ codes " layer " ++ decimal n ++ (codes " count " ++ decimal k) ≡ tangle_text m n k
cut m n k = simp append_assoc

pub returns-in_err-put_numbers-clause-err : goal.returns-in_err-put_numbers-clause-err
returns-in_err-put_numbers-clause-err g c =
    let out = g.S.Sink.output in
    let p = err_from_is_err_and c.from_residual.result c.from_residual.ensures.1 in
    rw p.1 (broke_first c.puts_add_up.ensures (out c.args.console.now) (out c.put_numbers.new.console) (codes "too tangled: mesh " ++ decimal c.args.mesh ++ codes " layer " ++ decimal c.args.layer) (codes " count " ++ decimal c.args.count) (tangle_text c.args.mesh c.args.layer c.args.count) (cut c.args.mesh c.args.layer c.args.count) c.in_err-put_numbers.ensures.err)

pub returns-clause-err : goal.returns-clause-err
returns-clause-err g c =
    let out = g.S.Sink.output in
    broke_second c.puts_add_up.ensures c.put_number.result (out c.args.console.now) (out c.put_numbers.new.console) (out c.put_number.new.console) (codes "too tangled: mesh " ++ decimal c.args.mesh ++ codes " layer " ++ decimal c.args.layer) (codes " count " ++ decimal c.args.count) (tangle_text c.args.mesh c.args.layer c.args.count) (cut c.args.mesh c.args.layer c.args.count) c.in_ok-put_numbers.ensures.ok c.put_number.ensures.err

pub returns-clause-ok : goal.returns-clause-ok
returns-clause-ok g c =
    let out = g.S.Sink.output in
    put_both c.puts_add_up.ensures c.put_number.result (out c.args.console.now) (out c.put_numbers.new.console) (out c.put_number.new.console) (codes "too tangled: mesh " ++ decimal c.args.mesh ++ codes " layer " ++ decimal c.args.layer) (codes " count " ++ decimal c.args.count) (tangle_text c.args.mesh c.args.layer c.args.count) (cut c.args.mesh c.args.layer c.args.count) c.in_ok-put_numbers.ensures.ok c.put_number.ensures.ok
