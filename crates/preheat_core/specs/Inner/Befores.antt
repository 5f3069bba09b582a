-- The times that the paths of a layer carry.
use Rattle.std.specs.Prelude.{ℕ, List, map}
use Rattle.std.specs.List.{flat_map}
use Rattle.plan_types.specs.declared.plans.ExtruderPlan.{ExtruderPlan}

-- the times from the layer's first boundary that the paths of its extruders have
abbrev pub befores_in : List ExtruderPlan → List ℕ
befores_in xs = flat_map (λ x. map (λ p. p.before) x.paths) xs
