use Rattle.std.proofs.Common.{to_z, of_z, w32, rules, ◌∙◌, arith}
use Rattle.std.proofs.lemmas.Grind.{common_steps}
use Rattle.std.proofs.lemmas.Int.{to_z-of_z}
use Rattle.cross_section.proofs.Tops.{all-under}
use Rattle.cross_section.proofs.mesh.top_of_all.Goals as goal

pub returns-clause-under : goal.returns-clause-under
returns-clause-under c = λ z h. all-under z c.args.meshes.now (to_z w32 (of_z w32 c.raised_by_all.result)) c.requires.some c.requires.each (to_z-of_z w32 c.raised_by_all.result (search rules) ∙ grind (arith, common_steps)) h
