use Rattle.std.proofs.Common.{refl, true}
use Rattle.gcode_write.specs.Ends.{footer_of}
use Rattle.gcode_write.proofs.Closing.{broke_behind, broke_at_end, nothing_more}
use Rattle.gcode_write.proofs.writer.Writer.finish.Goals as goal

pub returns-then-self-clause-err : goal.returns-then-self-clause-err
returns-then-self-clause-err g c =
    let a = c.args.self.now.pen in
    λ quiet. broke_behind g.S.Sink.output a c.put_footer.new.pen (footer_of c.args.self.now.job.now) c.put_footer.ensures quiet c.if-self.true

pub returns-then-self-clause-again : goal.returns-then-self-clause-again
returns-then-self-clause-again g c =
    λ failed. nothing_more g.S.Sink.output c.args.self.now.pen c.put_footer.new.pen (footer_of c.args.self.now.job.now) c.put_footer.ensures failed

pub returns-in-Err-clause-err : goal.returns-in-Err-clause-err
returns-in-Err-clause-err g c =
    let a = c.args.self.now.pen in
    let b = c.put_footer.new.pen in
    let v = c.in-Err.ensures in
    λ quiet. broke_at_end g.S.Sink.output a b (record { sink = c.end.new.self; failed = true; bytes = b.bytes }) (footer_of c.args.self.now.job.now) c.put_footer.ensures quiet c.if-self.false v.content v.name v.begun v.begins v.ends v.faults refl
