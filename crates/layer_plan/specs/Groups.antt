-- What an extruder prints on a layer, group by group. The pieces of a group are visited in one order.
use Rattle.std.specs.Prelude.{ℕ, pos, ◌==◌, ◌%◌, Bool, cond, ◌&&◌, List, [], ◌∷◌, ◌++◌, take, drop}
use Rattle.slice_base.specs.Shapes.{Loops}
use Rattle.settings_core.specs.Values.{MeshSettingsValue as MeshSettings}
use Rattle.settings_core.specs.declared.resolved.Seam.TheVariants.{Shortest}
use Rattle.plan_types.specs.declared.plans.Kind.{Kind}
use Rattle.plan_types.specs.declared.plans.Kind.TheVariants.{WallOuter, WallInner, Skin, Fill, Skirt}
use Rattle.plan_types.specs.Areas.{MeshAreasValue as MeshAreas}
use Rattle.plan_types.specs.Jobs.{JobValue as Job}
use Rattle.infill_lines.specs.declared.angles.Angle.{Angle}
use Rattle.infill_lines.specs.declared.angles.Angle.TheVariants.{A0, A45, A90, A135}
use Rattle.infill_lines.specs.Fill.{fill_of}
use Rattle.layer_plan.specs.declared.groups.Pen.{Pen}
use Rattle.layer_plan.specs.declared.groups.Group.{Group}
use Rattle.layer_plan.specs.declared.groups.Sheet.{Sheet}
use Rattle.layer_plan.specs.Pieces.{loops_of, loops_of_all, lines_of}

-- the number is even
abbrev pub is_even : ℕ → Bool
is_even n = n % 2 == 0

-- the angle of skin lines: 0 and 90 degrees in turn
abbrev pub skin_angle : Sheet → Angle
skin_angle sheet = cond (is_even sheet.number) A0 A90

-- the angle of fill lines: 45 and 135 degrees in turn
abbrev pub fill_angle : Sheet → Angle
fill_angle sheet = cond (is_even sheet.number) A45 A135

-- what a mesh prints with: its line width, the height of the layer
abbrev pub pen_of : Sheet → MeshSettings → Kind → ℕ → Pen
pen_of sheet m kind speed =
    record { kind = kind; width = pos m.wall_line_width; thickness = sheet.thickness; speed = speed }

-- the loops of walls 1 and up, in order of the wall
abbrev pub inner_walls : Sheet → MeshSettings → MeshAreas → Group
inner_walls sheet m a = record {
  pieces = loops_of_all (drop 1 a.walls);
  seam = m.z_seam_type;
  pen = pen_of sheet m WallInner m.speed_wall_x;
}

-- the loops of wall 0
abbrev pub outer_wall : Sheet → MeshSettings → MeshAreas → Group
outer_wall sheet m a = record {
  pieces = loops_of_all (take 1 a.walls);
  seam = m.z_seam_type;
  pen = pen_of sheet m WallOuter m.speed_wall_0;
}

-- lines of skin, as far apart as they are wide
abbrev pub skin_lines : Sheet → MeshSettings → MeshAreas → Group
skin_lines sheet m a = record {
  pieces = lines_of (fill_of a.skin (skin_angle sheet) m.wall_line_width 0);
  seam = m.z_seam_type;
  pen = pen_of sheet m Skin m.speed_topbottom;
}

-- lines of infill
abbrev pub fill_lines : Sheet → MeshSettings → MeshAreas → Group
fill_lines sheet m a = record {
  pieces = lines_of (fill_of a.fill (fill_angle sheet) m.infill_line_distance 0);
  seam = m.z_seam_type;
  pen = pen_of sheet m Fill m.speed_infill;
}

-- the groups of a mesh; no infill where its distance is 0
abbrev pub mesh_groups : Sheet → MeshSettings → MeshAreas → List Group
mesh_groups sheet m a =
    inner_walls sheet m a ∷ outer_wall sheet m a ∷ skin_lines sheet m a
    ∷ cond (m.infill_line_distance == 0) [] (fill_lines sheet m a ∷ [])

-- the groups of those meshes that this extruder prints
abbrev pub groups_of_meshes : Sheet → ℕ → List MeshSettings → List MeshAreas → List Group
groups_of_meshes sheet e [] areas = []
groups_of_meshes sheet e (m ∷ ms) [] = []
groups_of_meshes sheet e (m ∷ ms) (a ∷ areas) =
    cond (m.extruder_nr == e) (mesh_groups sheet m a) [] ++ groups_of_meshes sheet e ms areas

-- the skirt, printed like a mesh's inner walls, each loop from its nearest point
abbrev pub skirt_group : Sheet → MeshSettings → Loops → Group
skirt_group sheet m skirt =
    record { pieces = loops_of skirt; seam = Shortest; pen = pen_of sheet m Skirt m.speed_wall_x }

-- the skirt, printed like the first mesh
abbrev pub skirt_groups : Sheet → List MeshSettings → Loops → List Group
skirt_groups sheet [] skirt = []
skirt_groups sheet (m ∷ ms) skirt = skirt_group sheet m skirt ∷ []

-- all groups of an extruder: on layer 0 the first extruder begins with the skirt
abbrev pub groups_of : Job → Sheet → List MeshAreas → Bool → ℕ → List Group
groups_of job sheet areas is_first e =
    cond (sheet.number == 0 && is_first) (skirt_groups sheet job.settings.meshes job.skirt) []
    ++ groups_of_meshes sheet e job.settings.meshes areas
