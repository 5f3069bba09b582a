use Rattle.slice_engine.specs.Files.{plans_of}
use Rattle.slice_engine.specs.Totals.{job_filaments}
use Rattle.slice_engine.proofs.totals.job_filaments.Goals as goal

pub returns : goal.returns
unfolding job_filaments
returns c = c.filaments.ensures (plans_of c.args.job.now) c.requires
