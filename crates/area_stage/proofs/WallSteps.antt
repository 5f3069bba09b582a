-- Outlines and walls of a mesh, step by step.
use Rattle.std.proofs.Common.{◌≡◌, ◌∙◌, ◌<◌, ◌+◌, ℕ, zero, suc, ℤ, pos, Bool, true, false, cond, List, [], ◌∷◌, ◌++◌, Result, Ok, length, get_or, take, add-one, arith, refl, sym, ap}
use Rattle.std.specs.Prelude.{◌==◌}
use Rattle.std.specs.List.{sum_by}
use Rattle.std.proofs.lemmas.Bool.Decides.{nat_tests}
use Rattle.std.proofs.lemmas.List.Sums.{sum_by_push}
use Rattle.std.proofs.lemmas.List.{take_more, get_or_default}
use Rattle.slice_base.specs.declared.points.Pt.{Pt}
use Rattle.slice_base.specs.declared.points.Tri.{Tri}
use Rattle.slice_base.specs.Outcomes.{and_then, each_ok, up_to}
use Rattle.slice_base.proofs.Outcomes.{and_then-ok, each_ok-more}
use Rattle.settings_core.specs.Values.{SettingsValue, MeshSettingsValue}
use Rattle.cross_section.specs.Planes.{plane_of}
use Rattle.edge_cut.specs.declared.cutting.CutFault.{CutFault}
use Rattle.edge_cut.specs.Faults.{IsCutFault}
use Rattle.stitch_core.specs.declared.stitches.Stitched.{Stitched}
use Rattle.clip_core.specs.declared.keeping.Operation.TheVariants.{NonZero}
use Rattle.clip_core.specs.Clip.{clipped_of}
use Rattle.area_stage.specs.Outlines.{stitched_of, cleaned_of, without_of, outline_of, open_at, open_on, open_outlines_of}
use Rattle.area_stage.specs.Faults.{named}
use Rattle.area_stage.specs.Meshes.{mesh_settings_of}
use Rattle.area_stage.specs.Walls.{walls_at, mesh_walls_of, layer_walls_of}
use Rattle.area_stage.specs.Inner.Walls.{walls_with, walls_without_of}
use Rattle.area_stage.proofs.Naming.{cut-and_then}

pub cleaned-is : (z : ℤ) (mesh : List Tri) (s : Stitched) → s ≡ stitched_of z mesh → clipped_of NonZero s.loops [] ≡ cleaned_of z mesh
unfolding cleaned_of
cleaned-is z mesh s e = ap (λ (t : Stitched). clipped_of NonZero t.loops []) e

pub walls-own_fault : (z : ℤ) (before : List (List Tri)) (mesh : List Tri) (m : MeshSettingsValue) (fault : CutFault) → IsCutFault (cleaned_of z mesh) fault → IsCutFault (walls_at z before mesh m) fault
unfolding walls_at outline_of
walls-own_fault z before mesh m fault h =
    cut-and_then (and_then (cleaned_of z mesh) (λ own. and_then (each_ok (cleaned_of z) before) (without_of own))) (walls_with m) fault
    (cut-and_then (cleaned_of z mesh) (λ own. and_then (each_ok (cleaned_of z) before) (without_of own)) fault h)

-- by the cleaned outlines
pub walls-are : (z : ℤ) (before : List (List Tri)) (mesh : List Tri) (m : MeshSettingsValue) (own : List (List Pt)) (others : List (List (List Pt))) → cleaned_of z mesh ≡ Ok own → each_ok (cleaned_of z) before ≡ Ok others
    → walls_at z before mesh m ≡ walls_without_of m own others
unfolding walls_at outline_of
walls-are z before mesh m own others e f =
    ap (λ (r : Result (List (List Pt)) ℕ). and_then r (walls_with m))
    (and_then-ok (cleaned_of z mesh) (λ o. and_then (each_ok (cleaned_of z) before) (without_of o)) own e
    ∙ and_then-ok (each_ok (cleaned_of z) before) (without_of own) others f)

-- ---- layers in steps

pub take-item : {X : Type 0} (xs : List X) (i : ℕ) (x : X) → i < length xs → x ≡ get_or xs i x → take (i + 1) xs ≡ take i xs ++ x ∷ []
take-item {X} xs i x below at = take_more xs i x below ∙ ap (λ (y : X). take i xs ++ y ∷ []) (sym at)

pub cleaned-step : (z : ℤ) (meshes : List (List Tri)) (i : ℕ) (mesh : List Tri) (done new : List (List (List Pt))) (own : List (List Pt)) → i < length meshes → mesh ≡ get_or meshes i mesh → cleaned_of z mesh ≡ Ok own → new ≡ done ++ own ∷ []
    → each_ok (cleaned_of z) (take i meshes) ≡ Ok done → each_ok (cleaned_of z) (take (i + 1) meshes) ≡ Ok new
cleaned-step z meshes i mesh done new own below at is pushed so_far =
    ap (λ (l : List (List Tri)). each_ok (cleaned_of z) l) (take-item meshes i mesh below at)
    ∙ (each_ok-more (cleaned_of z) (take i meshes) mesh done own so_far is
    ∙ ap (λ (l : List (List (List Pt))). let r : Result (List (List (List Pt))) ℕ = Ok l in r) (sym pushed))

pub open-step : (z : ℤ) (meshes : List (List Tri)) (i : ℕ) (mesh : List Tri) (done new own : ℕ) → i < length meshes → mesh ≡ get_or meshes i mesh → own ≡ open_at z mesh → new ≡ done + own
    → done ≡ sum_by (open_at z) (take i meshes) → new ≡ sum_by (open_at z) (take (i + 1) meshes)
open-step z meshes i mesh done new own below at is added so_far =
    let t = ap (λ (l : List (List Tri)). sum_by (open_at z) l) (take-item meshes i mesh below at) in
    let s = sum_by_push (open_at z) (take i meshes) mesh in
    omega (arith, t, s, is, added, so_far)

-- ---- many layers

not-first : (n : ℕ) → (suc n == 0) ≡ false
not-first n = grind (arith, nat_tests)

if-false : {X : Type 0} (t : Bool) (x y : X) → t ≡ false → cond t x y ≡ y
if-false true x y h = absurd (cc)
if-false false x y h = refl

pub kept-is : (r : Result (List (List (List Pt))) ℕ) (n : ℕ) (old new kept : List (List (List Pt))) → kept ≡ cond (n == 0) new old → (0 < n → r ≡ Ok old) → (n ≡ 0 → r ≡ Ok new) → r ≡ Ok kept
kept-is r zero old new kept is o w = w refl ∙ ap (λ (l : List (List (List Pt))). let q : Result (List (List (List Pt))) ℕ = Ok l in q) (sym is)
kept-is r (suc n) old new kept is o w =
    let e : kept ≡ old = is ∙ if-false (suc n == 0) new old (not-first n) in
    o (omega arith) ∙ ap (λ (l : List (List (List Pt))). let q : Result (List (List (List Pt))) ℕ = Ok l in q) (sym e)

pub open-more : (s : SettingsValue) (meshes : List (List Tri)) (n a b : ℕ) → a ≡ open_outlines_of s meshes n → b ≡ open_on s meshes n → a + b ≡ open_outlines_of s meshes (n + 1)
open-more s meshes n a b e f = rw (add-one n) (omega (arith, e, f))

-- ---- all meshes on a layer

pub mesh-walls-at : (s : SettingsValue) (meshes : List (List Tri)) (layer i : ℕ) (z : ℤ) (mesh : List Tri) (m : MeshSettingsValue) → i < length meshes → mesh ≡ get_or meshes i mesh → z ≡ pos (plane_of s layer) → m ≡ mesh_settings_of s i
    → named i layer (walls_at z (take i meshes) mesh m) ≡ mesh_walls_of s meshes layer i
mesh-walls-at s meshes layer i z mesh m below at ez em =
    let c : mesh ≡ get_or meshes i [] = at ∙ get_or_default meshes i mesh [] below in
    ap (λ (k : ℤ). named i layer (walls_at k (take i meshes) mesh m)) ez
    ∙ (ap (λ (l : List Tri). named i layer (walls_at (pos (plane_of s layer)) (take i meshes) l m)) c
    ∙ ap (λ (n : MeshSettingsValue). named i layer (walls_at (pos (plane_of s layer)) (take i meshes) (get_or meshes i []) n)) em)

pub layer-walls-are : (s : SettingsValue) (meshes : List (List Tri)) (layer n : ℕ) → n ≡ length meshes → up_to (mesh_walls_of s meshes layer) n ≡ layer_walls_of s meshes layer
unfolding layer_walls_of
layer-walls-are s meshes layer n e = ap (λ (k : ℕ). up_to (mesh_walls_of s meshes layer) k) e

pub all-taken : {X : Type 0} (xs : List X) (n : ℕ) → n ≡ length xs → take n xs ≡ xs
all-taken xs n e = ap (λ (k : ℕ). take k xs) e ∙ take-all xs
  where
    take-all : {X : Type 0} (xs : List X) → take (length xs) xs ≡ xs
    take-all [] = refl
    take-all {X} (x ∷ xs) = ap (λ (l : List X). x ∷ l) (take-all xs)

-- of the first layer all are kept
pub first-kept : (layer : ℕ) (kept all : List (List (List Pt))) → layer ≡ 0 → kept ≡ cond (layer == 0) all [] → kept ≡ all
first-kept zero kept all e h = h
first-kept (suc layer) kept all e h = absurd (omega (arith, e))

pub first-outlines : (s : SettingsValue) (meshes : List (List Tri)) (layer : ℕ) (z : ℤ) (n : ℕ) (done kept : List (List (List Pt))) → n ≡ length meshes → z ≡ pos (plane_of s layer) → layer ≡ 0 → each_ok (cleaned_of z) (take n meshes) ≡ Ok done
    → kept ≡ cond (layer == 0) done [] → each_ok (cleaned_of (pos (plane_of s 0))) meshes ≡ Ok kept
first-outlines s meshes layer z n done kept end ez first so_far is =
    let ez0 : z ≡ pos (plane_of s 0) = ez ∙ ap (λ (k : ℕ). pos (plane_of s k)) first in
    sym (ap (λ (k : ℤ). each_ok (cleaned_of k) (take n meshes)) ez0 ∙ ap (λ (l : List (List Tri)). each_ok (cleaned_of (pos (plane_of s 0))) l) (all-taken meshes n end))
    ∙ (so_far ∙ ap (λ (l : List (List (List Pt))). let r : Result (List (List (List Pt))) ℕ = Ok l in r) (sym (first-kept layer kept done first is)))

pub all-open : (s : SettingsValue) (meshes : List (List Tri)) (layer : ℕ) (z : ℤ) (n open_outlines : ℕ) → n ≡ length meshes → z ≡ pos (plane_of s layer) → open_outlines ≡ sum_by (open_at z) (take n meshes) → open_outlines ≡ open_on s meshes layer
all-open s meshes layer z n open_outlines end ez so_far =
    so_far ∙ (ap (λ (k : ℤ). sum_by (open_at k) (take n meshes)) ez ∙ ap (λ (l : List (List Tri)). sum_by (open_at (pos (plane_of s layer))) l) (all-taken meshes n end))
