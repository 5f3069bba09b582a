use Rattle.std.proofs.Common.{ℕ, List, ◌≡◌, ◌++◌, codes, decimal}
use Rattle.std.proofs.lemmas.List.{append_assoc}
use Rattle.std.proofs.lemmas.Result.{err_from_is_err_and}
use Rattle.answers.specs.declared.lines.Generated.{Generated}
use Rattle.answers.specs.Lines.{generated_line}
use Rattle.answers.specs.Inner.Ends.{plan_text}
use Rattle.answers.proofs.Ends.{broke_first, broke_second, put_both}
use Rattle.answers.proofs.lines.put_generated.Goals as goal

in_three : (a b c d e f g h i j k l m : List ℕ) → a ++ b ++ c ++ d ++ (e ++ f ++ g ++ h ++ (i ++ j ++ k ++ l ++ m)) ≡ a ++ b ++ c ++ d ++ e ++ f ++ g ++ h ++ i ++ j ++ k ++ l ++ m
in_three a b c d e f g h i j k l m = simp append_assoc

cut : (g : Generated) → codes "gen " ++ decimal g.number ++ codes ": triangles " ++ decimal g.triangles ++ plan_text g ≡ generated_line g
cut g =
    in_three (codes "gen ") (decimal g.number) (codes ": triangles ") (decimal g.triangles) (codes ", layers ") (decimal g.layers)
    (codes ", uses ") (decimal g.uses) (codes ", preheats ") (decimal g.preheats) (codes ", bytes ") (decimal g.bytes) (codes "\n")

pub returns-in_err-put_numbers-clause-err : goal.returns-in_err-put_numbers-clause-err
returns-in_err-put_numbers-clause-err g c =
    let out = g.S.Sink.output in
    let p = err_from_is_err_and c.from_residual.result c.from_residual.ensures.1 in
    rw p.1 (broke_first c.puts_add_up.ensures (out c.args.console.now) (out c.put_numbers.new.console) (codes "gen " ++ decimal c.args.job.number ++ codes ": triangles " ++ decimal c.args.job.triangles) (plan_text c.args.job) (generated_line c.args.job) (cut c.args.job) c.in_err-put_numbers.ensures.err)

pub returns-clause-err : goal.returns-clause-err
returns-clause-err g c =
    let out = g.S.Sink.output in
    broke_second c.puts_add_up.ensures c.put_plan.result (out c.args.console.now) (out c.put_numbers.new.console) (out c.put_plan.new.console) (codes "gen " ++ decimal c.args.job.number ++ codes ": triangles " ++ decimal c.args.job.triangles) (plan_text c.args.job) (generated_line c.args.job) (cut c.args.job) c.in_ok-put_numbers.ensures.ok c.put_plan.ensures.err

pub returns-clause-ok : goal.returns-clause-ok
returns-clause-ok g c =
    let out = g.S.Sink.output in
    put_both c.puts_add_up.ensures c.put_plan.result (out c.args.console.now) (out c.put_numbers.new.console) (out c.put_plan.new.console) (codes "gen " ++ decimal c.args.job.number ++ codes ": triangles " ++ decimal c.args.job.triangles) (plan_text c.args.job) (generated_line c.args.job) (cut c.args.job) c.in_ok-put_numbers.ensures.ok c.put_plan.ensures.ok
