use Rattle.clip_core.specs.Inner.Rays.{no_ray}
use Rattle.clip_core.proofs.Stretches.{adds-one}
use Rattle.clip_core.proofs.rays.add_one.Goals as goal

pub returns : goal.returns
returns c raises =
    adds-one c.args.m.slope.ends c.args.m.share c.args.i c.args.rays.now raises c.ray_with.result no_ray c.requires.inside c.ray_with.ensures c.requires.member.share_small
