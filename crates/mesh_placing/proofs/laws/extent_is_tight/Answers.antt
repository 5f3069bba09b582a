use Rattle.mesh_placing.proofs.Extents.{extent_of-tight, extent_of-one}
use Rattle.mesh_placing.proofs.laws.extent_is_tight.Goals as goal

pub returns-clause-tight : goal.returns-clause-tight
returns-clause-tight c = extent_of-tight c.args.tris.now c.requires

pub returns-clause-one : goal.returns-clause-one
returns-clause-one c = λ e is. extent_of-one c.args.tris.now e c.requires is
