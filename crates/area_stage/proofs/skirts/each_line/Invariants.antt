use Rattle.std.proofs.Common.{◌≡◌, Ok}
use Rattle.slice_base.specs.Outcomes.{up_to}
use Rattle.area_stage.specs.Skirt.{line_of}
use Rattle.area_stage.proofs.skirts.each_line.Given as goal

abbrev pub invariant-loop-k : goal.invariant-loop-k
invariant-loop-k l = up_to (line_of l.settings l.region) l.k ≡ Ok l.lines
