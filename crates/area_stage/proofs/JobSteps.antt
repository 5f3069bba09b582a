-- The job, step by step: the first cut that fails ends the work.
use Rattle.std.proofs.Common.{◌≡◌, ◌<◌, ◌∙◌, ◌⊎◌, inl, inr, ℕ, ℤ, pos, List, Result, Ok, Err, length, map, refl, sym, ap, subst, arith}
use Rattle.std.specs.Prelude.{MatchResult}
use Rattle.std.specs.List.{All}
use Rattle.slice_base.specs.declared.points.Pt.{Pt}
use Rattle.slice_base.specs.declared.points.Tri.{Tri}
use Rattle.slice_base.specs.Limits.{max_layers}
use Rattle.slice_base.specs.Outcomes.{each_ok, up_to}
use Rattle.slice_base.proofs.Outcomes.{and_then-ok, up_to-length}
use Rattle.settings_core.specs.Values.{SettingsValue}
use Rattle.cross_section.specs.Heights.{top_of_all}
use Rattle.cross_section.specs.Planes.{plane_of, IsLayerCount}
use Rattle.wall_skin.specs.declared.walling.WallSet.{WallSet}
use Rattle.wall_skin.specs.declared.skins.Split.{Split}
use Rattle.plan_types.specs.Jobs.{JobValue}
use Rattle.area_stage.specs.declared.faults.AreaFault.{AreaFault}
use Rattle.area_stage.specs.declared.faults.AreaFault.TheVariants.{NoLayers, TooManyLayers, TooTangled, NoMemory}
use Rattle.area_stage.specs.Faults.{Tangle, named}
use Rattle.area_stage.specs.Inner.Faults.{IsAreaFault}
use Rattle.area_stage.specs.Outlines.{cleaned_of, open_outlines_of}
use Rattle.area_stage.specs.Walls.{mesh_walls_of, layer_walls_of}
use Rattle.area_stage.specs.Skirt.{skirt_of, job_skirt_of}
use Rattle.area_stage.specs.Fills.{all_inners_of, mesh_split_of, layer_splits_of}
use Rattle.area_stage.specs.Jobs.{loops_of, all_areas_of, job_of}
use Rattle.area_stage.specs.Areas.{with_splits, with_skirt, job_up_to, AreasGive}
use Rattle.area_stage.specs.Inner.Counts.{FitsCount, IsCountFault}
use Rattle.area_stage.proofs.Naming.{area-and_then}
use Rattle.area_stage.proofs.Inners.{up_to-all}

-- ---- in steps

pub job-walls_fault : (s : SettingsValue) (meshes : List (List Tri)) (n : ℕ) (fault : AreaFault) → IsAreaFault (up_to (layer_walls_of s meshes) n) fault → IsAreaFault (job_up_to s meshes n) fault
unfolding job_up_to
job-walls_fault s meshes n fault h = area-and_then (up_to (layer_walls_of s meshes) n) (with_skirt s meshes n) fault h

by-walls : (s : SettingsValue) (meshes : List (List Tri)) (n : ℕ) (walls : List (List WallSet)) → up_to (layer_walls_of s meshes) n ≡ Ok walls → job_up_to s meshes n ≡ with_skirt s meshes n walls
unfolding job_up_to
by-walls s meshes n walls e = and_then-ok (up_to (layer_walls_of s meshes) n) (with_skirt s meshes n) walls e

skirt-is : (s : SettingsValue) (meshes : List (List Tri)) (outlines : List (List (List Pt))) → each_ok (cleaned_of (pos (plane_of s 0))) meshes ≡ Ok outlines → named 0 0 (skirt_of s outlines) ≡ job_skirt_of s meshes
unfolding job_skirt_of
skirt-is s meshes outlines e = sym (ap (λ (r : Result (List (List Pt)) ℕ). named 0 0 r) (and_then-ok (each_ok (cleaned_of (pos (plane_of s 0))) meshes) (skirt_of s) outlines e))

pub job-skirt_fault : (s : SettingsValue) (meshes : List (List Tri)) (n : ℕ) (walls : List (List WallSet)) (outlines : List (List (List Pt))) (fault : AreaFault) → up_to (layer_walls_of s meshes) n ≡ Ok walls → each_ok (cleaned_of (pos (plane_of s 0))) meshes ≡ Ok outlines
    → IsAreaFault (named 0 0 (skirt_of s outlines)) fault → IsAreaFault (job_up_to s meshes n) fault
job-skirt_fault s meshes n walls outlines fault ew eo h =
    let t = area-and_then (job_skirt_of s meshes) (with_splits s meshes n walls) fault (subst (λ (r : Result (List (List Pt)) Tangle). IsAreaFault r fault) (skirt-is s meshes outlines eo) h) in
    subst (λ (r : Result JobValue Tangle). IsAreaFault r fault) (sym (by-walls s meshes n walls ew)) t

by-skirt : (s : SettingsValue) (meshes : List (List Tri)) (n : ℕ) (walls : List (List WallSet)) (outlines skirt : List (List Pt)) → job_skirt_of s meshes ≡ Ok skirt → up_to (layer_walls_of s meshes) n ≡ Ok walls → job_up_to s meshes n ≡ with_splits s meshes n walls skirt
by-skirt s meshes n walls outlines skirt es ew = by-walls s meshes n walls ew ∙ and_then-ok (job_skirt_of s meshes) (with_splits s meshes n walls) skirt es

pub job-splits_fault : (s : SettingsValue) (meshes : List (List Tri)) (n : ℕ) (walls : List (List WallSet)) (outlines : List (List (List Pt))) (skirt : List (List Pt)) (columns : List (List (List (List Pt)))) (fault : AreaFault) → up_to (layer_walls_of s meshes) n ≡ Ok walls
    → each_ok (cleaned_of (pos (plane_of s 0))) meshes ≡ Ok outlines → named 0 0 (skirt_of s outlines) ≡ Ok skirt → columns ≡ all_inners_of walls (length s.meshes) → IsAreaFault (up_to (layer_splits_of s columns) n) fault → IsAreaFault (job_up_to s meshes n) fault
job-splits_fault s meshes n walls outlines skirt columns fault ew eo es ec h =
    let k = sym (skirt-is s meshes outlines eo) ∙ es in
    let h' = subst (λ (l : List (List (List (List Pt)))). IsAreaFault (up_to (layer_splits_of s l) n) fault) ec h in
    let t = area-and_then (up_to (layer_splits_of s (all_inners_of walls (length s.meshes))) n) (λ (splits : List (List Split)). let r : Result JobValue Tangle = Ok (job_of s (all_areas_of (map (map loops_of) walls) splits) skirt (open_outlines_of s meshes n)) in r) fault h' in
    subst (λ (r : Result JobValue Tangle). IsAreaFault r fault) (sym (by-skirt s meshes n walls skirt skirt k ew)) t

pub job-is : (s : SettingsValue) (meshes : List (List Tri)) (n : ℕ) (walls : List (List WallSet)) (outlines : List (List (List Pt))) (skirt : List (List Pt)) (columns : List (List (List (List Pt)))) (splits : List (List Split)) (loops : List (List (List (List (List Pt))))) (open_outlines : ℕ) (job : JobValue)
    → up_to (layer_walls_of s meshes) n ≡ Ok walls → each_ok (cleaned_of (pos (plane_of s 0))) meshes ≡ Ok outlines → named 0 0 (skirt_of s outlines) ≡ Ok skirt → columns ≡ all_inners_of walls (length s.meshes) → up_to (layer_splits_of s columns) n ≡ Ok splits
    → loops ≡ map (map loops_of) walls → open_outlines ≡ open_outlines_of s meshes n → job ≡ job_of s (all_areas_of loops splits) skirt open_outlines → job_up_to s meshes n ≡ Ok job
job-is s meshes n walls outlines skirt columns splits loops open_outlines job ew eo es ec ep el ed ej =
    let k = sym (skirt-is s meshes outlines eo) ∙ es in
    let p = subst (λ (l : List (List (List (List Pt)))). up_to (layer_splits_of s l) n ≡ Ok splits) ec ep in
    let t = and_then-ok (up_to (layer_splits_of s (all_inners_of walls (length s.meshes))) n) (λ (ss : List (List Split)). let r : Result JobValue Tangle = Ok (job_of s (all_areas_of (map (map loops_of) walls) ss) skirt (open_outlines_of s meshes n)) in r) splits p in
    let j : job ≡ job_of s (all_areas_of (map (map loops_of) walls) splits) skirt (open_outlines_of s meshes n) =
    ej ∙ (ap (λ (l : List (List (List (List (List Pt))))). job_of s (all_areas_of l splits) skirt open_outlines) el ∙ ap (λ (d : ℕ). job_of s (all_areas_of (map (map loops_of) walls) splits) skirt d) ed) in
    by-skirt s meshes n walls skirt skirt k ew ∙ (t ∙ ap (λ (v : JobValue). let r : Result JobValue Tangle = Ok v in r) (sym j))

-- ---- how long lists are

layer-long : (s : SettingsValue) (meshes : List (List Tri)) (k : ℕ) (sets : List WallSet) → layer_walls_of s meshes k ≡ Ok sets → length sets ≡ length meshes
unfolding layer_walls_of
layer-long s meshes k sets e = up_to-length (mesh_walls_of s meshes k) (length meshes) sets e

pub walls-as_many : (s : SettingsValue) (meshes : List (List Tri)) (n : ℕ) (walls : List (List WallSet)) → up_to (layer_walls_of s meshes) n ≡ Ok walls → All (λ (sets : List WallSet). length sets ≡ length meshes) walls
walls-as_many s meshes n walls e = up_to-all (λ (sets : List WallSet). length sets ≡ length meshes) (layer_walls_of s meshes) n walls (layer-long s meshes) e

split-long : (s : SettingsValue) (columns : List (List (List (List Pt)))) (k : ℕ) (layer : List Split) → layer_splits_of s columns k ≡ Ok layer → length layer ≡ length s.meshes
unfolding layer_splits_of
split-long s columns k layer e = up_to-length (mesh_split_of s columns k) (length s.meshes) layer e

pub splits-as_many : (s : SettingsValue) (columns : List (List (List (List Pt)))) (n : ℕ) (splits : List (List Split)) → up_to (layer_splits_of s columns) n ≡ Ok splits → All (λ (layer : List Split). length layer ≡ length s.meshes) splits
splits-as_many s columns n splits e = up_to-all (λ (layer : List Split). length layer ≡ length s.meshes) (layer_splits_of s columns) n splits (split-long s columns) e

-- ---- what there is

pub gives-job : (s : SettingsValue) (meshes : List (List Tri)) (count : ℕ) (r : Result JobValue AreaFault) → FitsCount s meshes count → MatchResult r (λ job. job_up_to s meshes count ≡ Ok job) (IsAreaFault (job_up_to s meshes count))
    → (r ≡ Err NoMemory) ⊎ AreasGive s meshes r
gives-job s meshes count (Ok job) fits h = inr (record { count = count; counted = fits.counted; some = fits.some; few = fits.few; given = h })
gives-job s meshes count (Err NoLayers) fits h = elim h [ ]
gives-job s meshes count (Err (TooManyLayers n)) fits h = elim h [ ]
gives-job s meshes count (Err (TooTangled mesh layer edges)) fits h = inr (record { count = count; counted = fits.counted; some = fits.some; few = fits.few; given = h })
gives-job s meshes count (Err NoMemory) fits h = inl refl

gives-fault : (s : SettingsValue) (meshes : List (List Tri)) (fault : AreaFault) → IsCountFault s meshes fault → AreasGive s meshes (Err fault)
gives-fault s meshes NoLayers h = h
gives-fault s meshes (TooManyLayers n) h = h
gives-fault s meshes (TooTangled mesh layer count) h = elim h [ ]
gives-fault s meshes NoMemory h = elim h [ ]

pub gives-no_job : (s : SettingsValue) (meshes : List (List Tri)) (r : Result JobValue AreaFault) (fault : AreaFault) → r ≡ Err fault → IsCountFault s meshes fault → (r ≡ Err NoMemory) ⊎ AreasGive s meshes r
gives-no_job s meshes r fault e h = inr (subst (λ (q : Result JobValue AreaFault). AreasGive s meshes q) (sym e) (gives-fault s meshes fault h))

-- the result is the answer, or memory was short
pub result-or : (s : SettingsValue) (meshes : List (List Tri)) (r : Result JobValue AreaFault) → ((a b : Result JobValue AreaFault) → AreasGive s meshes a → AreasGive s meshes b → a ≡ b) → (r ≡ Err NoMemory) ⊎ AreasGive s meshes r
    → (a : Result JobValue AreaFault) → AreasGive s meshes a → (r ≡ a) ⊎ (r ≡ Err NoMemory)
result-or s meshes r one says a h = elim says as (λ _. (r ≡ a) ⊎ (r ≡ Err NoMemory)) [ inl e ↦ inr e | inr g ↦ inl (one r a g h) ]

-- ---- how many layers there are

-- a print has one count of layers
abbrev pub OneCount : Type 0
OneCount = (s : SettingsValue) (top : ℤ) (m n : ℕ) → IsLayerCount s top m → IsLayerCount s top n → m ≡ n

-- what a count that doesn't fit answers where there are no layers
pub no_layers-are : (s : SettingsValue) (meshes : List (List Tri)) (r : Result JobValue AreaFault) (fault : AreaFault) → OneCount → r ≡ Err fault → IsCountFault s meshes fault → IsLayerCount s (top_of_all meshes) 0 → r ≡ Err NoLayers
no_layers-are s meshes r NoLayers one e h none = e
no_layers-are s meshes r (TooManyLayers n) one e h none = absurd (omega (arith, one s (top_of_all meshes) n 0 h.0 none, h.1))
no_layers-are s meshes r (TooTangled mesh layer count) one e h none = elim h [ ]
no_layers-are s meshes r NoMemory one e h none = elim h [ ]

-- what it answers where there are too many
pub too_many-are : (s : SettingsValue) (meshes : List (List Tri)) (r : Result JobValue AreaFault) (fault : AreaFault) → OneCount → r ≡ Err fault → IsCountFault s meshes fault
    → (n : ℕ) → IsLayerCount s (top_of_all meshes) n → max_layers < n → r ≡ Err (TooManyLayers n)
too_many-are s meshes r NoLayers one e h n counted many = absurd (omega (arith, one s (top_of_all meshes) 0 n h counted, many))
too_many-are s meshes r (TooManyLayers m) one e h n counted many = e ∙ ap (λ (k : ℕ). Err (TooManyLayers k)) (one s (top_of_all meshes) m n h.0 counted)
too_many-are s meshes r (TooTangled mesh layer count) one e h n counted many = elim h [ ]
too_many-are s meshes r NoMemory one e h n counted many = elim h [ ]

-- a count that fits isn't none
pub fits-some : (s : SettingsValue) (meshes : List (List Tri)) (count : ℕ) (r : Result JobValue AreaFault) → OneCount → FitsCount s meshes count → IsLayerCount s (top_of_all meshes) 0 → r ≡ Err NoLayers
fits-some s meshes count r one fits none = absurd (omega (arith, one s (top_of_all meshes) count 0 fits.counted none, fits.some))

-- nor too many
pub fits-few : (s : SettingsValue) (meshes : List (List Tri)) (count : ℕ) (r : Result JobValue AreaFault) → OneCount → FitsCount s meshes count → (n : ℕ) → IsLayerCount s (top_of_all meshes) n → max_layers < n → r ≡ Err (TooManyLayers n)
fits-few s meshes count r one fits n counted many = absurd (omega (arith, one s (top_of_all meshes) count n fits.counted counted, fits.few, many))
