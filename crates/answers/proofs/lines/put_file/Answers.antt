use Rattle.std.proofs.Common.{◌≡◌, ◌++◌, codes, decimal}
use Rattle.std.proofs.lemmas.List.{append_assoc}
use Rattle.std.proofs.lemmas.Result.{err_from_is_err_and}
use Rattle.answers.specs.declared.lines.Generated.{Generated}
use Rattle.answers.specs.Inner.Ends.{file_text}
use Rattle.answers.proofs.Ends.{broke_first, broke_second}
use Rattle.answers.proofs.lines.put_file.Goals as goal

cut : (g : Generated) → codes ", preheats " ++ decimal g.preheats ++ codes ", bytes " ++ decimal g.bytes ++ codes "\n" ≡ file_text g
cut g = simp append_assoc

pub returns-in_err-put_numbers-clause-err : goal.returns-in_err-put_numbers-clause-err
returns-in_err-put_numbers-clause-err g c =
    let out = g.S.Sink.output in
    let p = err_from_is_err_and c.from_residual.result c.from_residual.ensures.1 in
    rw p.1 (broke_first c.puts_add_up.ensures (out c.args.console.now) (out c.put_numbers.new.console) (codes ", preheats " ++ decimal c.args.job.preheats ++ codes ", bytes " ++ decimal c.args.job.bytes) (codes "\n") (file_text c.args.job) (cut c.args.job) c.in_err-put_numbers.ensures.err)

pub returns-clause-err : goal.returns-clause-err
returns-clause-err g c =
    let out = g.S.Sink.output in
    broke_second c.puts_add_up.ensures c.put_all.result (out c.args.console.now) (out c.put_numbers.new.console) (out c.put_all.new.sink) (codes ", preheats " ++ decimal c.args.job.preheats ++ codes ", bytes " ++ decimal c.args.job.bytes) (codes "\n") (file_text c.args.job) (cut c.args.job) c.in_ok-put_numbers.ensures.ok c.put_all.ensures.err
