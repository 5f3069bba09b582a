use Rattle.std.proofs.Common.{arith, refl}
use Rattle.slice_base.proofs.Outcomes.{up_to-none}
use Rattle.area_stage.specs.Walls.{layer_walls_of}
use Rattle.area_stage.proofs.walling.no_walls.Goals as goal

pub returns : goal.returns
returns c = λ s meshes. record {
  sets = rw c.new.ensures (up_to-none (layer_walls_of s meshes));
  outlines = λ some. absurd (omega (arith, some));
  open_outlines = refl;
  few = omega arith;
}
