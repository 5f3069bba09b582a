use Rattle.slice_engine.specs.Files.{plans_of}
use Rattle.slice_engine.specs.Totals.{job_time}
use Rattle.slice_engine.proofs.totals.job_time.Goals as goal

pub returns : goal.returns
unfolding job_time
returns c = c.time.ensures c.args.job.now (plans_of c.args.job.now) c.requires
