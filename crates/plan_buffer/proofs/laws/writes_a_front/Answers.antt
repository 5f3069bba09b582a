use Rattle.std.proofs.Common.{◌-◌, take}
use Rattle.plan_buffer.specs.File.{file_of, written_of}
use Rattle.plan_buffer.proofs.Texts.{rest_from, written_front, front_of}
use Rattle.plan_buffer.proofs.laws.writes_a_front.Goals as goal

pub returns-clause-whole : goal.returns-clause-whole
returns-clause-whole c = λ job k plans. (rest_from job plans (k - job.settings.preheat_window_layers), written_front c.rests_on_a_window.ensures job k plans)

pub returns-clause-front : goal.returns-clause-front
returns-clause-front c = λ job k plans before now p.
    front_of before now (written_of job (take k plans) k) (rest_from job plans (k - job.settings.preheat_window_layers)) (file_of job plans) (written_front c.rests_on_a_window.ensures job k plans) p
