-- One step through print moves, through paths and through the plans of extruders.
use Rattle.std.proofs.Common.{ℕ, ◌+◌, ◌*◌, ◌≡◌, ◌<◌, ◌≤◌, ◌^◌, List, [], ◌∷◌, ◌++◌, length, get_or, drop, Option, Some, None, ap, sym, refl, ◌∙◌, subst, arith}
use Rattle.std.specs.List.{sum_by}
use Rattle.std.proofs.lemmas.List.{drop_more}
use Rattle.slice_base.specs.declared.points.Pt.{Pt}
use Rattle.slice_base.specs.Plane.{InSquare, square_of}
use Rattle.slice_base.specs.Whole.{root_of}
use Rattle.settings_core.specs.Values.{ExtruderSettingsValue}
use Rattle.outside.specs.declared.pens.Pen.{Pen}
use Rattle.outside.specs.Output.{Output}
use Rattle.outside.specs.Pens.{Wrote, Going, PenLaws}
use Rattle.plan_types.specs.declared.plans.Kind.{Kind}
use Rattle.plan_types.specs.declared.plans.ExtruderPlan.{ExtruderPlan}
use Rattle.plan_types.specs.Paths.{PathValue}
use Rattle.plan_types.specs.Plans.{LayerPlanValue, length_through, moves_of, moves_of_plan, moves_in, volume_of, volume_of_plan, volume_in, time_of_plan, time_in}
use Rattle.gcode_text.specs.Lines.{extrude_of}
use Rattle.gcode_write.specs.declared.progress.Progress.{Progress}
use Rattle.gcode_write.specs.Filament.{move_volume_of, extruded_of}
use Rattle.gcode_write.specs.Paths.{print_moves_of}
use Rattle.gcode_write.specs.Layers.{path_of, after_path, paths_of, after_paths, plans_of, after_plans}
use Rattle.gcode_write.proofs.Points.{nowhere, here, sum_here}
use Rattle.gcode_write.proofs.Sizes.{spread}

abbrev pub time_of : PathValue → ℕ
time_of p = p.time

-- what is known once the first print moves were written
pub record WroteMoves {S : Type 0} (out : S → Output) (x : ExtruderSettingsValue) (area : ℕ) (speed0 : Option ℕ) (v0 : ℕ) (from0 : Pt) (ps : List Pt) (a : Pen S) (i : ℕ) (speed : Option ℕ) (v : ℕ) (from : Pt) (b : Pen S) : Type 0 where
  pub going : Going out a (print_moves_of x area speed0 v0 from0 ps) (print_moves_of x area speed v from (drop i ps)) b
  pub volume : v + length_through from (drop i ps) * area * x.material_flow ≡ v0 + length_through from0 ps * area * x.material_flow
  pub at : InSquare 1700000 from

-- the volume of the moves that are left, by the next one
left_volume : (x : ExtruderSettingsValue) (area : ℕ) (from : Pt) (ps : List Pt) (i : ℕ) → i < length ps → length_through from (drop i ps) * area * x.material_flow ≡ move_volume_of x area from (get_or ps i nowhere) + length_through (get_or ps i nowhere) (drop (i + 1) ps) * area * x.material_flow
left_volume x area from ps i h =
    ap (λ qs. length_through from qs * area * x.material_flow) (drop_more ps i nowhere h) ∙
    spread (root_of (square_of from (get_or ps i nowhere))) (length_through (get_or ps i nowhere) (drop (i + 1) ps)) area x.material_flow

-- the volume behind the next move is in range
pub next_small : {S : Type 0} (out : S → Output) (x : ExtruderSettingsValue) (area : ℕ) (speed0 : Option ℕ) (v0 : ℕ) (from0 : Pt) (ps : List Pt) (a : Pen S) (i : ℕ) (speed : Option ℕ) (v : ℕ) (from : Pt) (b : Pen S) (t : ℕ) →
    i < length ps → WroteMoves out x area speed0 v0 from0 ps a i speed v from b → t ≡ move_volume_of x area from (get_or ps i nowhere) →
    v0 + length_through from0 ps * area * x.material_flow < 2 ^ 116 → v + t < 2 ^ 116
next_small out x area speed0 v0 from0 ps a i speed v from b t h w is small =
    omega (arith, is, small, w.volume, left_volume x area from ps i h)

pub move_step : {S : Type 0} (out : S → Output) (laws : PenLaws out) (x : ExtruderSettingsValue) (area : ℕ) (speed0 : Option ℕ) (v0 : ℕ) (from0 : Pt) (ps : List Pt) (a : Pen S) (i : ℕ) (speed : Option ℕ) (v : ℕ) (from : Pt) (b : Pen S) (t : ℕ) (c : Pen S) →
    i < length ps → WroteMoves out x area speed0 v0 from0 ps a i speed v from b → t ≡ move_volume_of x area from (get_or ps i nowhere) →
    Wrote out b (extrude_of speed (get_or ps i nowhere) (extruded_of x (v + t))) c → InSquare 1700000 (get_or ps i nowhere) →
    WroteMoves out x area speed0 v0 from0 ps a (i + 1) None (v + t) (get_or ps i nowhere) c
move_step out laws x area speed0 v0 from0 ps a i speed v from b t c within w is put at =
    let q = get_or ps i nowhere in
    let rest = drop (i + 1) ps in
    let cut = drop_more ps i nowhere within in
    let e : move_volume_of x area from q ≡ t = sym is in
    record {
      going = laws.step a b c (print_moves_of x area speed0 v0 from0 ps) (print_moves_of x area speed v from (drop i ps)) (extrude_of speed q (extruded_of x (v + t))) (print_moves_of x area None (v + t) q rest) w.going (ap (print_moves_of x area speed v from) cut ∙ ap (λ t. extrude_of speed q (extruded_of x (v + t)) ++ print_moves_of x area None (v + t) q rest) e) put;
      volume = omega (arith, is, w.volume, left_volume x area from ps i within);
      at = at;
    }

-- what is known once the first paths were written
pub record WrotePaths {S : Type 0} (out : S → Output) (es : List ExtruderSettingsValue) (l : LayerPlanValue) (s : Progress) (e at : ℕ) (ps : List PathValue) (a : Pen S) (i : ℕ) (now : Progress) (next : ℕ) (kind : Option Kind) (b : Pen S) : Type 0 where
  pub going : Going out a (paths_of es l s e at None ps) (paths_of es l now e next kind (drop i ps)) b
  pub after : after_paths es now e (drop i ps) ≡ after_paths es s e ps
  pub volume : now.volume + 500 * sum_by volume_of (drop i ps) ≤ s.volume + 500 * sum_by volume_of ps
  pub elapsed : now.elapsed + sum_by time_of (drop i ps) ≡ s.elapsed + sum_by time_of ps
  pub moves : i + sum_by moves_of (drop i ps) ≤ sum_by moves_of ps
  pub known : now.extruder < length es
  pub next_is : next ≡ at + i

pub path_step : {S : Type 0} (out : S → Output) (laws : PenLaws out) (es : List ExtruderSettingsValue) (l : LayerPlanValue) (s : Progress) (e at : ℕ) (ps : List PathValue) (a : Pen S) (i : ℕ) (now : Progress) (next : ℕ) (kind : Option Kind) (b : Pen S) (x : PathValue) (then : Progress) (c : Pen S) →
    e < length es → i < length ps → x ≡ get_or ps i x → WrotePaths out es l s e at ps a i now next kind b → Wrote out b (path_of es l now e next kind x) c →
    then ≡ after_path es now e x → then.volume ≤ now.volume + 500 * volume_of x → 1 ≤ moves_of x →
    WrotePaths out es l s e at ps a (i + 1) then (next + 1) (Some x.kind) c
path_step out laws es l s e at ps a i now next kind b x then c known within is w put after grown moves =
    let rest = drop (i + 1) ps in
    let cut = here ps i x within is in
    let later : then.elapsed ≡ now.elapsed + x.time = ap (λ (t : Progress). t.elapsed) after in
    record {
      going = laws.step a b c (paths_of es l s e at None ps) (paths_of es l now e next kind (drop i ps)) (path_of es l now e next kind x) (paths_of es l then e (next + 1) (Some x.kind) rest) w.going (ap (paths_of es l now e next kind) cut ∙ ap (λ (t : Progress). path_of es l now e next kind x ++ paths_of es l t e (next + 1) (Some x.kind) rest) (sym after)) put;
      after = ap (λ (t : Progress). after_paths es t e rest) after ∙ sym (ap (after_paths es now e) cut) ∙ w.after;
      volume = omega (arith, w.volume, grown, sum_here volume_of ps i x within is);
      elapsed = omega (arith, w.elapsed, later, sum_here time_of ps i x within is);
      moves = omega (arith, w.moves, moves, sum_here moves_of ps i x within is);
      known = subst (λ n. n < length es) (sym (ap (λ (t : Progress). t.extruder) after)) known;
      next_is = omega (arith, w.next_is);
    }

-- what is known once the plans of the first extruders were written
pub record WrotePlans {S : Type 0} (out : S → Output) (es : List ExtruderSettingsValue) (l : LayerPlanValue) (s : Progress) (xs : List ExtruderPlan) (a : Pen S) (i : ℕ) (now : Progress) (next : ℕ) (b : Pen S) : Type 0 where
  pub going : Going out a (plans_of es l s 0 xs) (plans_of es l now next (drop i xs)) b
  pub after : after_plans es now (drop i xs) ≡ after_plans es s xs
  pub volume : now.volume + 500 * volume_in (drop i xs) ≤ s.volume + 500 * volume_in xs
  pub elapsed : now.elapsed + time_in (drop i xs) ≤ s.elapsed + time_in xs
  pub moves : next + moves_in (drop i xs) ≤ moves_in xs
  pub known : now.extruder < length es

pub plan_step : {S : Type 0} (out : S → Output) (laws : PenLaws out) (es : List ExtruderSettingsValue) (l : LayerPlanValue) (s : Progress) (xs : List ExtruderPlan) (a : Pen S) (i : ℕ) (now : Progress) (next : ℕ) (b : Pen S) (x : ExtruderPlan) (then : Progress) (c : Pen S) →
    i < length xs → x ≡ get_or xs i x → WrotePlans out es l s xs a i now next b → Wrote out b (paths_of es l now x.extruder next None x.paths) c →
    then ≡ after_paths es now x.extruder x.paths → then.volume ≤ now.volume + 500 * volume_of_plan x → then.elapsed ≤ now.elapsed + time_of_plan x → then.extruder < length es → length x.paths ≤ moves_of_plan x →
    WrotePlans out es l s xs a (i + 1) then (next + length x.paths) c
plan_step out laws es l s xs a i now next b x then c within is w put after grown later known few =
    let rest = drop (i + 1) xs in
    let cut = here xs i x within is in
    let volumes : volume_in (drop i xs) ≡ volume_of_plan x + volume_in rest = sum_here volume_of_plan xs i x within is in
    let times : time_in (drop i xs) ≡ time_of_plan x + time_in rest = sum_here time_of_plan xs i x within is in
    let moves : moves_in (drop i xs) ≡ moves_of_plan x + moves_in rest = sum_here moves_of_plan xs i x within is in
    record {
      going = laws.step a b c (plans_of es l s 0 xs) (plans_of es l now next (drop i xs)) (paths_of es l now x.extruder next None x.paths) (plans_of es l then (next + length x.paths) rest) w.going (ap (plans_of es l now next) cut ∙ ap (λ (t : Progress). paths_of es l now x.extruder next None x.paths ++ plans_of es l t (next + length x.paths) rest) (sym after)) put;
      after = ap (λ (t : Progress). after_plans es t rest) after ∙ sym (ap (after_plans es now) cut) ∙ w.after;
      volume = omega (arith, w.volume, grown, volumes);
      elapsed = omega (arith, w.elapsed, later, times);
      moves = omega (arith, w.moves, few, moves);
      known = known;
    }
