use Rattle.std.proofs.Common.{refl}
use Rattle.stl_text.proofs.Outcomes.{bad-bad_line, bad-too_many, bad-gives, whole-mesh, whole-gives, whole-bad_line, whole-too_many, whole-no_memory, whole-near, whole-few}
use Rattle.stl_text.proofs.reader.read_stl.Goals as goal

pub returns-in-Err-clause-bad_line : goal.returns-in-Err-clause-bad_line
returns-in-Err-clause-bad_line c = bad-bad_line c.args.bytes.now c.in-Err.line c.in-Err.ensures.err _ refl

pub returns-in-Err-clause-too_many : goal.returns-in-Err-clause-too_many
returns-in-Err-clause-too_many c = bad-too_many c.args.bytes.now c.in-Err.line c.in-Err.ensures.err _ refl

pub returns-in-Ok-clause-mesh : goal.returns-in-Ok-clause-mesh
returns-in-Ok-clause-mesh c = let h = c.in-Ok.ensures.ok in whole-mesh c.args.bytes.now h.0 h.1 c.finish.result (c.finish.ensures h.0 h.2)

pub returns-in-Ok-clause-bad_line : goal.returns-in-Ok-clause-bad_line
returns-in-Ok-clause-bad_line c = let h = c.in-Ok.ensures.ok in whole-bad_line c.args.bytes.now h.0 h.1 c.finish.result (c.finish.ensures h.0 h.2)

pub returns-in-Ok-clause-too_many : goal.returns-in-Ok-clause-too_many
returns-in-Ok-clause-too_many c = let h = c.in-Ok.ensures.ok in whole-too_many c.args.bytes.now h.0 h.1 c.finish.result (c.finish.ensures h.0 h.2)

pub returns-in-Ok-clause-no_memory : goal.returns-in-Ok-clause-no_memory
returns-in-Ok-clause-no_memory c = let h = c.in-Ok.ensures.ok in whole-no_memory c.args.bytes.now h.0 h.1 c.finish.result (c.finish.ensures h.0 h.2)

pub returns-in-Ok-clause-near : goal.returns-in-Ok-clause-near
returns-in-Ok-clause-near c = let h = c.in-Ok.ensures.ok in whole-near c.args.bytes.now h.0 h.1 c.finish.result (c.finish.ensures h.0 h.2)

pub returns-in-Ok-clause-few : goal.returns-in-Ok-clause-few
returns-in-Ok-clause-few c = let h = c.in-Ok.ensures.ok in whole-few c.args.bytes.now h.0 h.1 c.finish.result (c.finish.ensures h.0 h.2)

pub returns-in-Err-clause-gives : goal.returns-in-Err-clause-gives
returns-in-Err-clause-gives c = bad-gives c.args.bytes.now c.in-Err.line c.in-Err.ensures.err _ refl

pub returns-in-Ok-clause-gives : goal.returns-in-Ok-clause-gives
returns-in-Ok-clause-gives c = let h = c.in-Ok.ensures.ok in whole-gives c.args.bytes.now h.0 h.1 c.finish.result (c.finish.ensures h.0 h.2)
