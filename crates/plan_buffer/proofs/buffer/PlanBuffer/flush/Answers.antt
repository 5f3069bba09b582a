use Rattle.std.proofs.Common.{◌∙◌}
use Rattle.plan_buffer.specs.Buffers.{BufferValue}
use Rattle.plan_buffer.proofs.Accepts.{flushed_ok, flushed_bytes, flushed_err}
use Rattle.plan_buffer.proofs.buffer.PlanBuffer.flush.Goals as goal

pub returns-clause-ok : goal.returns-clause-ok
returns-clause-ok g c = λ past at.
    let w = c.self.inside.writer in
    let v : BufferValue g.row.S.Denot = record { job = w.job.now; window = c.self.inside.window; pen = w.pen; progress = w.progress; layers = w.layers } in
    let m = c.write_all.new.writer in
    flushed_ok c.windows_follow.ensures g.S.Sink.output v c.args.self.now m.job.now past c.finish.result c.write_all.new.window.held m.progress m.pen c.finish.new.self.pen c.self.view_is c.write_all.ensures.job at c.write_all.ensures.all c.finish.ensures.again c.finish.ensures.failed c.finish.ensures.ok

pub returns-clause-bytes : goal.returns-clause-bytes
returns-clause-bytes g c = λ past at.
    let w = c.self.inside.writer in
    let v : BufferValue g.row.S.Denot = record { job = w.job.now; window = c.self.inside.window; pen = w.pen; progress = w.progress; layers = w.layers } in
    let m = c.write_all.new.writer in
    flushed_bytes c.windows_follow.ensures g.S.Sink.output v c.args.self.now m.job.now past c.finish.result c.write_all.new.window.held m.progress m.pen c.finish.new.self.pen c.self.view_is c.write_all.ensures.job at c.write_all.ensures.all c.finish.ensures.again c.finish.ensures.failed c.finish.ensures.bytes

pub returns-clause-err : goal.returns-clause-err
returns-clause-err g c = λ past at.
    let w = c.self.inside.writer in
    let v : BufferValue g.row.S.Denot = record { job = w.job.now; window = c.self.inside.window; pen = w.pen; progress = w.progress; layers = w.layers } in
    let m = c.write_all.new.writer in
    flushed_err c.windows_follow.ensures g.S.Sink.output v c.args.self.now m.job.now past c.finish.result c.write_all.new.window.held m.progress m.pen c.finish.new.self.pen c.self.view_is c.write_all.ensures.job at c.write_all.ensures.all c.finish.ensures.again c.finish.ensures.err
