-- The text of a layer, and where it leaves the print.
use Rattle.std.specs.Prelude.{ℕ, ℤ, ◌+◌, ◌==◌, Bool, true, false, cond, List, [], ◌∷◌, ◌++◌, length, Option, Some, None}
use Rattle.slice_base.specs.Shapes.{Bytes}
use Rattle.settings_core.specs.Values.{ExtruderSettingsValue}
use Rattle.plan_types.specs.declared.plans.Kind.{Kind}
use Rattle.plan_types.specs.declared.plans.ExtruderPlan.{ExtruderPlan}
use Rattle.plan_types.specs.Extruders.{extruder_of}
use Rattle.plan_types.specs.Paths.{PathValue}
use Rattle.plan_types.specs.Plans.{LayerPlanValue}
use Rattle.gcode_text.specs.declared.labels.Counted.TheVariants.{Layer}
use Rattle.gcode_text.specs.Lines.{count_of, blow_of, elapsed_of}
use Rattle.gcode_write.specs.declared.progress.Progress.{Progress}
use Rattle.gcode_write.specs.Filament.{path_volume_of}
use Rattle.gcode_write.specs.Paths.{boundary_of, print_of}

-- the volume since the filament's last zero, which each change of the extruder makes
abbrev pub volume_before : Progress → ℕ → ℕ
volume_before s e = cond (s.extruder == e) s.volume 0

-- the height is told on the travel to a layer's first path
abbrev pub height_at : ℕ → ℤ → Option ℤ
height_at at z = cond (at == 0) (Some z) None

-- a path of extruder e, with this number in its layer, behind a path of this kind
abbrev pub path_of : List ExtruderSettingsValue → LayerPlanValue → Progress → ℕ → ℕ → Option Kind → PathValue → Bytes
path_of es l s e at kind p =
    boundary_of es s.extruder e at l.inserts ++
    print_of (extruder_of es e) (height_at at l.z) kind (volume_before s e) p p.points

-- where a path of extruder e leaves the print
abbrev pub after_path : List ExtruderSettingsValue → Progress → ℕ → PathValue → Progress
after_path es s e p = record {
  extruder = e;
  volume = volume_before s e + path_volume_of (extruder_of es e) p;
  elapsed = s.elapsed + p.time;
  fan = s.fan;
}

-- the paths of an extruder in order, the first of which has this number in its layer
abbrev pub paths_of : List ExtruderSettingsValue → LayerPlanValue → Progress → ℕ → ℕ → Option Kind → List PathValue
    → Bytes
paths_of es l s e at kind [] = []
paths_of es l s e at kind (p ∷ ps) =
    path_of es l s e at kind p ++ paths_of es l (after_path es s e p) e (at + 1) (Some p.kind) ps

-- where they leave the print
abbrev pub after_paths : List ExtruderSettingsValue → Progress → ℕ → List PathValue → Progress
after_paths es s e [] = s
after_paths es s e (p ∷ ps) = after_paths es (after_path es s e p) e ps

-- the paths of all extruders in order, the first of which has this number in its layer
abbrev pub plans_of : List ExtruderSettingsValue → LayerPlanValue → Progress → ℕ → List ExtruderPlan → Bytes
plans_of es l s at [] = []
plans_of es l s at (x ∷ xs) =
    paths_of es l s x.extruder at None x.paths ++
    plans_of es l (after_paths es s x.extruder x.paths) (at + length x.paths) xs

-- where they leave the print
abbrev pub after_plans : List ExtruderSettingsValue → Progress → List ExtruderPlan → Progress
after_plans es s [] = s
after_plans es s (x ∷ xs) = after_plans es (after_paths es s x.extruder x.paths) xs

-- the fan's power, where it changes
abbrev pub fan_change_of : Bool → ℕ → Bytes
fan_change_of true power = []
fan_change_of false power = blow_of power

-- where a layer's paths begin: its lead is over, and its fan runs
abbrev pub entered_of : Progress → LayerPlanValue → Progress
entered_of s l = record s { elapsed = s.elapsed + l.lead; fan = l.fan }

-- where a layer leaves the print
abbrev pub after_layer : List ExtruderSettingsValue → Progress → LayerPlanValue → Progress
after_layer es s l = after_plans es (entered_of s l) l.plans

-- the text of a layer
abbrev pub layer_text_of : List ExtruderSettingsValue → Progress → LayerPlanValue → Bytes
layer_text_of es s l =
    count_of Layer l.number ++ fan_change_of (s.fan == l.fan) l.fan ++ plans_of es l (entered_of s l) 0 l.plans ++
    elapsed_of (after_layer es s l).elapsed

-- the texts of layers in order
abbrev pub layers_text_of : List ExtruderSettingsValue → Progress → List LayerPlanValue → Bytes
layers_text_of es s [] = []
layers_text_of es s (l ∷ ls) = layer_text_of es s l ++ layers_text_of es (after_layer es s l) ls

-- where layers leave the print
abbrev pub after_layers : List ExtruderSettingsValue → Progress → List LayerPlanValue → Progress
after_layers es s [] = s
after_layers es s (l ∷ ls) = after_layers es (after_layer es s l) ls
