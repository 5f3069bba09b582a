use Rattle.std.proofs.Common.{◌≡◌, drop, map}
use Rattle.std.specs.Prelude.{fold}
use Rattle.std.specs.Int.{int_max}
use Rattle.cross_section.specs.Heights.{top_of}
use Rattle.cross_section.proofs.mesh.raised_by_all.Given as goal

abbrev pub invariant-loop-mesh : goal.invariant-loop-mesh
invariant-loop-mesh l = fold int_max l.top (map top_of (drop l.mesh-index l.others)) ≡ fold int_max l.initial.top (map top_of l.others)
