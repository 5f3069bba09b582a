use Rattle.wall_skin.specs.declared.skins.Split.{Split}
use Rattle.wall_skin.specs.Skin.{skin_of}
use Rattle.area_stage.proofs.Naming.{named-answer}
use Rattle.area_stage.proofs.fills.named_split.Goals as goal

pub returns : goal.returns
returns c = named-answer c.args.i c.args.layer c.split.result c.named_result.result (skin_of c.args.column.now c.args.layer c.args.m.bottom_layers c.args.m.top_layers) (λ (p : Split). p) c.named_result.ensures c.split.ensures
