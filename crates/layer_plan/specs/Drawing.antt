-- Paths, drawn one after another from where one stands.
use Rattle.std.specs.Prelude.{ℕ, ◌==◌, nat_le, Bool, ◌&&◌, ◌||◌, List, [], ◌∷◌, ◌++◌, length}
use Rattle.slice_base.specs.declared.points.Pt.{Pt}
use Rattle.slice_base.specs.Shapes.{Points}
use Rattle.slice_base.specs.Plane.{square_of}
use Rattle.slice_base.specs.Whole.{root_of}
use Rattle.settings_core.specs.Values.{ExtruderSettingsValue as ExtruderSettings}
use Rattle.plan_types.specs.Paths.{PathValue as Path}
use Rattle.path_order.specs.Order.{order_of}
use Rattle.layer_plan.specs.declared.groups.Pen.{Pen}
use Rattle.layer_plan.specs.declared.groups.Group.{Group}
use Rattle.layer_plan.specs.declared.drawing.Drawing.{Drawing}
use Rattle.layer_plan.specs.Pieces.{ways_of}

-- the first of these points, or this one where there is none
abbrev pub first_or : Pt → Points → Pt
first_or at [] = at
first_or at (p ∷ ps) = p

-- the last of these points, or this one where there is none
abbrev pub last_or : Pt → Points → Pt
last_or at [] = at
last_or at (p ∷ ps) = last_or p ps

-- filament is pulled back, where that is enabled, before an extruder's first path and before a travel of the least
-- length
abbrev pub retracts : ExtruderSettings → Drawing → Pt → Bool
retracts e d to =
    e.retraction_enable && (length d.paths == 0 || nat_le e.retraction_min_travel (root_of (square_of d.at to)))

-- a path along points, its times not set yet
abbrev pub path_along : Pen → Points → Bool → Path
path_along pen points retract = record {
  kind = pen.kind;
  width = pen.width;
  thickness = pen.thickness;
  speed = pen.speed;
  points = points;
  retract = retract;
  time = 0;
  before = 0;
}

-- a path more, along these points
abbrev pub with_way : ExtruderSettings → Pen → Drawing → Points → Drawing
with_way e pen d points = record {
  at = last_or d.at points;
  paths = d.paths ++ path_along pen points (retracts e d (first_or d.at points)) ∷ [];
}

-- a path more along each of these ways
abbrev pub with_ways : ExtruderSettings → Pen → Drawing → List Points → Drawing
with_ways e pen d [] = d
with_ways e pen d (w ∷ ws) = with_ways e pen (with_way e pen d w) ws

-- the pieces of a group in their order from where one stands
abbrev pub with_group : ExtruderSettings → Drawing → Group → Drawing
with_group e d g = with_ways e g.pen d (ways_of g.pieces (order_of g.pieces d.at g.seam))

-- one group after another
abbrev pub with_groups : ExtruderSettings → Drawing → List Group → Drawing
with_groups e d [] = d
with_groups e d (g ∷ gs) = with_groups e (with_group e d g) gs
