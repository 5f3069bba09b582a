-- Told files define one thing at most. What holds of any bytes read as a mesh's file is a premise here.
use Rattle.std.proofs.Common.{ℕ, ◌≡◌, ◌+◌, ◌<◌, ◌≤◌, List, [], ◌∷◌, ◌++◌, length, inl, inr, Option, Some, None, Result, Ok, Err, arith, refl, sym, ap, ◌∙◌, subst}
use Rattle.std.specs.Prelude.{IsSomeAnd}
use Rattle.std.specs.List.{slice_get}
use Rattle.slice_base.specs.declared.points.Tri.{Tri}
use Rattle.settings_core.specs.declared.pairs.Scope.{Scope}
use Rattle.settings_core.specs.declared.pairs.Pair.{Pair}
use Rattle.settings_core.specs.declared.resolved.Settings.{Settings}
use Rattle.settings_core.specs.declared.resolved.MeshSettings.{MeshSettings}
use Rattle.settings_core.specs.declared.fault.SettingFault.{SettingFault}
use Rattle.settings_core.specs.declared.fault.SettingFault.TheVariants as pair_fault
use Rattle.settings_core.specs.Resolve.{settings_of, fault_of}
use Rattle.stl_text.specs.declared.faults.StlFault.{StlFault}
use Rattle.stl_text.specs.declared.faults.StlFault.TheVariants as stl
use Rattle.stl_text.specs.Mesh.{StlGives}
use Rattle.mesh_placing.specs.Places.{placed, placed_with}
use Rattle.mesh_placing.specs.declared.placing.Excess.{Excess}
use Rattle.mesh_placing.specs.Extents.{extent_of}
use Rattle.mesh_placing.specs.Volume.{excess_of, first_outside}
use Rattle.outside.specs.Files.{Files, IsFile, IsTooLong, file_of}
use Rattle.cli_words.specs.declared.command.Item.{Item}
use Rattle.cli_words.specs.Command.{item_names, item_extruders}
use Rattle.plate_input.specs.declared.faults.PlateFault.{PlateFault}
use Rattle.plate_input.specs.declared.faults.PlateFault.TheVariants as fault
use Rattle.plate_input.specs.declared.files.TheConstants.{MOST_BYTES}
use Rattle.plate_input.specs.declared.plates.Plate.{Plate}
use Rattle.plate_input.specs.Inner.Stages.{MeshGives}
use Rattle.plate_input.specs.Meshes.{MeshesGive}
use Rattle.plate_input.specs.Reading.{AreFiles, FirstTooLong, FirstNotJson, pairs_of, mesh_bytes}
use Rattle.plate_input.specs.Plate.{IsPlate, HasBadMesh, MakesPlate, GivesSettled, PlateGives}

abbrev Names : Type 0
Names = List (List ℕ)

abbrev Plates : Type 0
Plates = Result Plate PlateFault

abbrev Rows : Type 0
Rows = Result (List (List Tri)) PlateFault

abbrev Tris : Type 0
Tris = Result (List Tri) PlateFault

abbrev Reading : Type 0
Reading = Result (List Tri) StlFault

-- a file of at most so many bytes isn't too long
not_too_long : (files : Files) (name bytes : List ℕ) → IsFile (Some files) name bytes → length bytes ≤ MOST_BYTES → IsTooLong (Some files) name MOST_BYTES → ⊥
not_too_long files name bytes f short long =
    let longer : MOST_BYTES < length bytes = subst (λ o. IsSomeAnd o (λ held. MOST_BYTES < length held)) f long in
    absurd (omega (arith, longer, short))

same_bytes : (o : Option (List ℕ)) (b d : List ℕ) → o ≡ Some b → o ≡ Some d → b ≡ d
same_bytes o b d e f = cc

-- told files have one content each
same_files : (files : Files) (names cs ds : Names) → AreFiles (Some files) names cs → AreFiles (Some files) names ds → cs ≡ ds
same_files files [] [] [] a b = refl
same_files files [] [] (d ∷ ds) a b = absurd b
same_files files [] (c ∷ cs) ds a b = absurd a
same_files files (n ∷ ns) [] ds a b = absurd a
same_files files (n ∷ ns) (c ∷ cs) [] a b = absurd b
same_files files (n ∷ ns) (c ∷ cs) (d ∷ ds) a b = ap (λ (x : List ℕ). x ∷ cs) (same_bytes (file_of files n) c d a.0 b.0) ∙ ap (λ (xs : Names). d ∷ xs) (same_files files ns cs ds a.2 b.2)

-- files that are all there hold none that is too long
none_too_long : (files : Files) (front rest contents : Names) (name : List ℕ) → AreFiles (Some files) (front ++ name ∷ rest) contents → IsTooLong (Some files) name MOST_BYTES → ⊥
none_too_long files [] rest [] name a t = absurd a
none_too_long files [] rest (c ∷ cs) name a t = not_too_long files name c a.0 a.1 t
none_too_long files (n ∷ ns) rest [] name a t = absurd a
none_too_long files (n ∷ ns) rest (c ∷ cs) name a t = none_too_long files ns rest cs name a.2 t

all_there : (items : List Item) (files : Files) (contents : Names) (name : List ℕ) → AreFiles (Some files) (item_names items) contents → FirstTooLong items (Some files) name → ⊥
all_there items files contents name a t = none_too_long files t.front t.rest contents name (subst (λ ns. AreFiles (Some files) ns contents) t.names a) t.too_long

head_same : (x y : List ℕ) (xs ys : Names) → x ∷ xs ≡ y ∷ ys → x ≡ y
head_same x y xs ys e = cc

tail_same : (x y : List ℕ) (xs ys : Names) → x ∷ xs ≡ y ∷ ys → xs ≡ ys
tail_same x y xs ys e = cc

-- one file is the first that is too long
first_same : (files : Files) (front rest cs other more ds : Names) (n k : List ℕ) → front ++ n ∷ rest ≡ other ++ k ∷ more → AreFiles (Some files) front cs → AreFiles (Some files) other ds → IsTooLong (Some files) n MOST_BYTES → IsTooLong (Some files) k MOST_BYTES → n ≡ k
first_same files [] rest cs [] more ds n k e a b t u = head_same n k rest more e
first_same files [] rest cs (y ∷ ys) more [] n k e a b t u = absurd b
first_same files [] rest cs (y ∷ ys) more (d ∷ ds) n k e a b t u = absurd (not_too_long files y d b.0 b.1 (subst (λ x. IsTooLong (Some files) x MOST_BYTES) (head_same n y rest (ys ++ k ∷ more) e) t))
first_same files (x ∷ xs) rest [] other more ds n k e a b t u = absurd a
first_same files (x ∷ xs) rest (c ∷ cs) [] more ds n k e a b t u = absurd (not_too_long files x c a.0 a.1 (subst (λ z. IsTooLong (Some files) z MOST_BYTES) (sym (head_same x k (xs ++ n ∷ rest) more e)) u))
first_same files (x ∷ xs) rest (c ∷ cs) (y ∷ ys) more [] n k e a b t u = absurd b
first_same files (x ∷ xs) rest (c ∷ cs) (y ∷ ys) more (d ∷ ds) n k e a b t u = first_same files xs rest cs ys more ds n k (tail_same x y (xs ++ n ∷ rest) (ys ++ k ∷ more) e) a.2 b.2 t u

one_too_long : (items : List Item) (files : Files) (n k : List ℕ) → FirstTooLong items (Some files) n → FirstTooLong items (Some files) k → n ≡ k
one_too_long items files n k s t = first_same files s.front s.rest s.contents t.front t.rest t.contents n k (sym s.names ∙ t.names) s.are t.are s.too_long t.too_long

-- a mesh without triangles has none outside
nothing_placed : (s : Settings) (o : Option MeshSettings) (n : ℕ) → first_outside s (placed_with s o []) ≡ Some n → ⊥
nothing_placed s None n e = cc
nothing_placed s (Some m) n e = cc

some_outside : (s : Settings) (m : ℕ) (ts : List Tri) (n : ℕ) → first_outside s (placed s m ts) ≡ Some n → 0 < length ts
some_outside s m [] n e = absurd (nothing_placed s (slice_get s.meshes m) n e)
some_outside s m (t ∷ ts) n e = omega arith

-- what a mesh's triangles in place give, by the first that is outside
abbrev placed_or : Settings → ℕ → Option ℕ → List Tri → Tris
placed_or s m None ts = Ok ts
placed_or s m (Some n) ts = Err (fault.OutsideVolume m n (excess_of s (extent_of ts)))

-- what the reading of a mesh's file gives
abbrev answer_of : Settings → ℕ → Reading → Tris
answer_of s m (Ok []) = Err (fault.NoTriangles m)
answer_of s m (Ok (t ∷ ts)) = placed_or s m (first_outside s (placed s m (t ∷ ts))) (placed s m (t ∷ ts))
answer_of s m (Err (stl.BadLine n)) = Err (fault.BadStl m n)
answer_of s m (Err (stl.TooManyTriangles n)) = Err (fault.TooManyTriangles m n)
answer_of s m (Err stl.NoMemory) = Err fault.NoMemory

-- an answer that a reading of the bytes gives
pub record IsOf (s : Settings) (m : ℕ) (bytes : List ℕ) (a : Tris) : Type 0 where
  reading : Reading
  gives : StlGives bytes reading
  is : a ≡ answer_of s m reading

placed_by : (s : Settings) (m : ℕ) (ts : List Tri) (o : Option ℕ) → 0 < length ts → first_outside s (placed s m ts) ≡ o → placed_or s m o (placed s m ts) ≡ answer_of s m (Ok ts)
placed_by s m [] o some e = absurd (omega arith)
placed_by s m (t ∷ ts) o some e = ap (λ x. placed_or s m x (placed s m (t ∷ ts))) (sym e)

outside_same : (i m n : ℕ) (e f : Excess) → i ≡ m → e ≡ f → ◌≡◌ {A = Tris} (Err (fault.OutsideVolume i n e)) (Err (fault.OutsideVolume m n f))
outside_same i m n e f h g = rw (h, g) refl

is_of : (s : Settings) (m : ℕ) (bytes : List ℕ) (a : Tris) → MeshGives s m bytes a → IsOf s m bytes a
is_of s m bytes (Ok ts) h = record { reading = Ok h.read; gives = h.mesh; is = ap Ok h.in_place ∙ placed_by s m h.read None h.some h.inside }
is_of s m bytes (Err (fault.BadStl i n)) h = record { reading = Err (stl.BadLine n); gives = h.1; is = ap (λ k. Err (fault.BadStl k n)) h.0 }
is_of s m bytes (Err (fault.TooManyTriangles i n)) h = record { reading = Err (stl.TooManyTriangles n); gives = h.1; is = ap (λ k. Err (fault.TooManyTriangles k n)) h.0 }
is_of s m bytes (Err (fault.NoTriangles i)) h = record { reading = Ok []; gives = h.1; is = ap (λ k. Err (fault.NoTriangles k)) h.0 }
is_of s m bytes (Err (fault.OutsideVolume i n e)) h =
    record { reading = Ok h.1.read; gives = h.1.mesh; is = outside_same i m n e (excess_of s (extent_of (placed s m h.1.read))) h.0 h.1.furthest ∙ placed_by s m h.1.read (Some n) (some_outside s m h.1.read n h.1.outside) h.1.outside }
is_of s m bytes (Err r) h = absurd h

-- what a fault of pairs makes of an answer
abbrev FaultSays : List Pair → SettingFault → Plates → Type 0
FaultSays pairs (pair_fault.BadValue p) a = (pair : Pair) × ((slice_get pairs p ≡ Some pair) × (a ≡ Err (fault.BadValue pair.scope pair.key)))
FaultSays pairs (pair_fault.OutOfRange p) a = (pair : Pair) × ((slice_get pairs p ≡ Some pair) × (a ≡ Err (fault.OutOfRange pair.scope pair.key)))
FaultSays pairs (pair_fault.UnknownExtruder m) a = a ≡ Err (fault.UnknownExtruder m)
FaultSays pairs pair_fault.NoMemory a = ⊥

same_pair : (o : Option Pair) (p q : Pair) → o ≡ Some p → o ≡ Some q → p ≡ q
same_pair o p q e f = cc

one_fault : (pairs : List Pair) (f : SettingFault) (a b : Plates) → FaultSays pairs f a → FaultSays pairs f b → a ≡ b
one_fault pairs (pair_fault.BadValue p) a b s t = s.1.1 ∙ (ap (λ (x : Pair). Err (fault.BadValue x.scope x.key)) (same_pair (slice_get pairs p) s.0 t.0 s.1.0 t.1.0) ∙ sym t.1.1)
one_fault pairs (pair_fault.OutOfRange p) a b s t = s.1.1 ∙ (ap (λ (x : Pair). Err (fault.OutOfRange x.scope x.key)) (same_pair (slice_get pairs p) s.0 t.0 s.1.0 t.1.0) ∙ sym t.1.1)
one_fault pairs (pair_fault.UnknownExtruder m) a b s t = s ∙ sym t
one_fault pairs pair_fault.NoMemory a b s t = absurd s

-- the stages that may decide
pub data Settled : List Pair → List ℕ → Names → Plates → Type 0 where
  plate : {pairs : List Pair} {es : List ℕ} {files : Names} {a : Plates} (p : Plate) → a ≡ Ok p → IsPlate pairs es files p → Settled pairs es files a
  setting : {pairs : List Pair} {es : List ℕ} {files : Names} {a : Plates} (f : SettingFault) → fault_of pairs es ≡ Some f → FaultSays pairs f a → Settled pairs es files a
  mesh : {pairs : List Pair} {es : List ℕ} {files : Names} {a : Plates} (r : PlateFault) → a ≡ Err r → HasBadMesh pairs es files r → Settled pairs es files a

bad_value_same : (p : Pair) (scope : Scope) (key : List ℕ) → scope ≡ p.scope → key ≡ p.key → ◌≡◌ {A = Plates} (Err (fault.BadValue scope key)) (Err (fault.BadValue p.scope p.key))
bad_value_same p scope key e f = rw (e, f) refl

out_of_range_same : (p : Pair) (scope : Scope) (key : List ℕ) → scope ≡ p.scope → key ≡ p.key → ◌≡◌ {A = Plates} (Err (fault.OutOfRange scope key)) (Err (fault.OutOfRange p.scope p.key))
out_of_range_same p scope key e f = rw (e, f) refl

settled : (pairs : List Pair) (es : List ℕ) (files : Names) (a : Plates) → MakesPlate pairs es files a → Settled pairs es files a
settled pairs es files (Ok p) h = plate p refl h
settled pairs es files (Err (fault.BadValue scope key)) h = setting (pair_fault.BadValue h.index) h.at_fault (h.pair, (h.stands, bad_value_same h.pair scope key h.its_scope h.its_key))
settled pairs es files (Err (fault.OutOfRange scope key)) h = setting (pair_fault.OutOfRange h.index) h.at_fault (h.pair, (h.stands, out_of_range_same h.pair scope key h.its_scope h.its_key))
settled pairs es files (Err (fault.UnknownExtruder m)) h = setting (pair_fault.UnknownExtruder m) h refl
settled pairs es files (Err (fault.BadStl m n)) h = mesh (fault.BadStl m n) refl h
settled pairs es files (Err (fault.NoTriangles m)) h = mesh (fault.NoTriangles m) refl h
settled pairs es files (Err (fault.TooManyTriangles m n)) h = mesh (fault.TooManyTriangles m n) refl h
settled pairs es files (Err (fault.OutsideVolume m n e)) h = mesh (fault.OutsideVolume m n e) refl h
settled pairs es files (Err r) h = absurd h

none_some : (o : Option SettingFault) (f : SettingFault) → o ≡ None → o ≡ Some f → ⊥
none_some o f e g = cc

same_fault : (o : Option SettingFault) (f g : SettingFault) → o ≡ Some f → o ≡ Some g → f ≡ g
same_fault o f g e h = cc

same_plate : (p : Plate) (s : Settings) (ms : List (List Tri)) → p.settings ≡ s → p.meshes ≡ ms → p ≡ record { settings = s; meshes = ms }
same_plate p s ms e f = ap (λ (x : Settings). record { settings = x; meshes = p.meshes }) e ∙ ap (λ (y : List (List Tri)). record { settings = s; meshes = y }) f

same_refusal : (q r : PlateFault) → ◌≡◌ {A = Rows} (Err q) (Err r) → ◌≡◌ {A = Plates} (Err q) (Err r)
same_refusal q r e = let same : q ≡ r = cc in ap Err same

mesh_refusal : (q r : PlateFault) → ◌≡◌ {A = Tris} (Err q) (Err r) → ◌≡◌ {A = Rows} (Err q) (Err r)
mesh_refusal q r e = let same : q ≡ r = cc in ap Err same

not_tris : (ts : List Tri) (q : PlateFault) → ◌≡◌ {A = Tris} (Ok ts) (Err q) → ⊥
not_tris ts q e = cc

not_rows : (ms : List (List Tri)) (q : PlateFault) → ◌≡◌ {A = Rows} (Ok ms) (Err q) → ⊥
not_rows ms q e = cc

same_rows : (ms ns : List (List Tri)) → ◌≡◌ {A = Rows} (Ok ms) (Ok ns) → ms ≡ ns
same_rows ms ns e = cc

more_rows : (ts us : List Tri) (ms ns : List (List Tri)) → ◌≡◌ {A = Tris} (Ok ts) (Ok us) → ◌≡◌ {A = Rows} (Ok ms) (Ok ns) → ◌≡◌ {A = Rows} (Ok (ts ∷ ms)) (Ok (us ∷ ns))
more_rows ts us ms ns e f = cc

-- the files decide first, then the settings files, then the rest
pub data Defined : List Item → Files → Plates → Type 0 where
  too_long : {items : List Item} {files : Files} {a : Plates} (name : List ℕ) → a ≡ Err (fault.TooLong name) → FirstTooLong items (Some files) name → Defined items files a
  not_json : {items : List Item} {files : Files} {a : Plates} (name : List ℕ) → a ≡ Err (fault.NotJson name) → FirstNotJson items (Some files) name → Defined items files a
  given : {items : List Item} {files : Files} {a : Plates} → GivesSettled items (Some files) a → Defined items files a

defined : (items : List Item) (files : Files) (a : Plates) → PlateGives items (Some files) a → Defined items files a
defined items files (Err (fault.TooLong name)) h = too_long name refl h
defined items files (Err (fault.NotJson name)) h = not_json name refl h
defined items files a h = given h

same_pairs : (r : Result (List Pair) (List ℕ)) (ps qs : List Pair) → r ≡ Ok ps → r ≡ Ok qs → ps ≡ qs
same_pairs r ps qs e f = cc

same_name : (r : Result (List Pair) (List ℕ)) (n k : List ℕ) → r ≡ Err n → r ≡ Err k → n ≡ k
same_name r n k e f = cc

no_pairs : (r : Result (List Pair) (List ℕ)) (ps : List Pair) (n : List ℕ) → r ≡ Ok ps → r ≡ Err n → ⊥
no_pairs r ps n e f = cc

one_not_json : (items : List Item) (files : Files) (n k : List ℕ) → FirstNotJson items (Some files) n → FirstNotJson items (Some files) k → n ≡ k
one_not_json items files n k g h =
    let same : h.contents ≡ g.contents = same_files files (item_names items) h.contents g.contents h.are g.are in
    same_name (pairs_of items g.contents) n k g.not_json (ap (pairs_of items) (sym same) ∙ h.not_json)

all_json : (items : List Item) (files : Files) (n : List ℕ) (a : Plates) → FirstNotJson items (Some files) n → GivesSettled items (Some files) a → ⊥
all_json items files n a g h =
    let same : h.read.contents ≡ g.contents = same_files files (item_names items) h.read.contents g.contents h.read.are g.are in
    no_pairs (pairs_of items g.contents) h.read.pairs n (ap (pairs_of items) (sym same) ∙ h.read.given) g.not_json

module _ (one : (bytes : List ℕ) (a b : Reading) → StlGives bytes a → StlGives bytes b → a ≡ b) where
  one_mesh : (s : Settings) (m : ℕ) (bytes : List ℕ) (a b : Tris) → MeshGives s m bytes a → MeshGives s m bytes b → a ≡ b
  one_mesh s m bytes a b g h =
      let p = is_of s m bytes a g in
      let q = is_of s m bytes b h in
      p.is ∙ (ap (answer_of s m) (one bytes p.reading q.reading p.gives q.gives) ∙ sym q.is)

  one_row : (s : Settings) (m : ℕ) (files : Names) (a b : Rows) → MeshesGive s m files a → MeshesGive s m files b → a ≡ b
  one_row s m [] (Ok ms) (Ok ns) g h = ap Ok (g ∙ sym h)
  one_row s m [] (Ok ms) (Err r) g h = absurd h
  one_row s m [] (Err q) b g h = absurd g
  one_row s m (f ∷ fs) (Ok []) b g h = absurd g
  one_row s m (f ∷ fs) (Ok (ts ∷ ms)) (Ok []) g h = absurd h
  one_row s m (f ∷ fs) (Ok (ts ∷ ms)) (Ok (us ∷ ns)) g h = more_rows ts us ms ns (one_mesh s m f (Ok ts) (Ok us) g.0 h.0) (one_row s (m + 1) fs (Ok ms) (Ok ns) g.1 h.1)
  one_row s m (f ∷ fs) (Ok (ts ∷ ms)) (Err r) g (inl h) = absurd (not_tris ts r (one_mesh s m f (Ok ts) (Err r) g.0 h))
  one_row s m (f ∷ fs) (Ok (ts ∷ ms)) (Err r) g (inr h) = absurd (not_rows ms r (one_row s (m + 1) fs (Ok ms) (Err r) g.1 h.1))
  one_row s m (f ∷ fs) (Err q) (Ok []) g h = absurd h
  one_row s m (f ∷ fs) (Err q) (Ok (us ∷ ns)) (inl g) h = absurd (not_tris us q (one_mesh s m f (Ok us) (Err q) h.0 g))
  one_row s m (f ∷ fs) (Err q) (Ok (us ∷ ns)) (inr g) h = absurd (not_rows ns q (sym (one_row s (m + 1) fs (Err q) (Ok ns) g.1 h.1)))
  one_row s m (f ∷ fs) (Err q) (Err r) (inl g) (inl h) = mesh_refusal q r (one_mesh s m f (Err q) (Err r) g h)
  one_row s m (f ∷ fs) (Err q) (Err r) (inl g) (inr h) = absurd (not_tris h.0.0 q (one_mesh s m f (Ok h.0.0) (Err q) h.0.1 g))
  one_row s m (f ∷ fs) (Err q) (Err r) (inr g) (inl h) = absurd (not_tris g.0.0 r (one_mesh s m f (Ok g.0.0) (Err r) g.0.1 h))
  one_row s m (f ∷ fs) (Err q) (Err r) (inr g) (inr h) = one_row s (m + 1) fs (Err q) (Err r) g.1 h.1

  -- meshes of the settings that pairs give
  rows_of : (pairs : List Pair) (es : List ℕ) (files : Names) (p : Plate) → IsPlate pairs es files p → MeshesGive (settings_of pairs es) 0 files (Ok p.meshes)
  rows_of pairs es files p h = subst (λ s. MeshesGive s 0 files (Ok p.meshes)) h.settings h.meshes

  one_settled : (pairs : List Pair) (es : List ℕ) (files : Names) (a b : Plates) → Settled pairs es files a → Settled pairs es files b → a ≡ b
  one_settled pairs es files a b (plate p i g) (plate q j h) =
      let s = settings_of pairs es in
      let rows : p.meshes ≡ q.meshes = same_rows p.meshes q.meshes (one_row s 0 files (Ok p.meshes) (Ok q.meshes) (rows_of pairs es files p g) (rows_of pairs es files q h)) in
      i ∙ (ap Ok (same_plate p s q.meshes g.settings rows ∙ sym (same_plate q s q.meshes h.settings refl)) ∙ sym j)
  one_settled pairs es files a b (plate p i g) (setting f e t) = absurd (none_some (fault_of pairs es) f g.faultless e)
  one_settled pairs es files a b (plate p i g) (mesh r j h) = absurd (not_rows p.meshes r (one_row (settings_of pairs es) 0 files (Ok p.meshes) (Err r) (rows_of pairs es files p g) h.refused))
  one_settled pairs es files a b (setting f e t) (plate q j h) = absurd (none_some (fault_of pairs es) f h.faultless e)
  one_settled pairs es files a b (setting f e t) (setting k d u) = one_fault pairs f a b t (subst (λ x. FaultSays pairs x b) (same_fault (fault_of pairs es) k f d e) u)
  one_settled pairs es files a b (setting f e t) (mesh r j h) = absurd (none_some (fault_of pairs es) f h.faultless e)
  one_settled pairs es files a b (mesh r i g) (plate q j h) = absurd (not_rows q.meshes r (one_row (settings_of pairs es) 0 files (Ok q.meshes) (Err r) (rows_of pairs es files q h) g.refused))
  one_settled pairs es files a b (mesh r i g) (setting f e t) = absurd (none_some (fault_of pairs es) f g.faultless e)
  one_settled pairs es files a b (mesh q i g) (mesh r j h) = i ∙ (same_refusal q r (one_row (settings_of pairs es) 0 files (Err q) (Err r) g.refused h.refused) ∙ sym j)

  one_given : (items : List Item) (files : Files) (a b : Plates) → GivesSettled items (Some files) a → GivesSettled items (Some files) b → a ≡ b
  one_given items files a b g h =
      let es = item_extruders items in
      let same : h.read.contents ≡ g.read.contents = same_files files (item_names items) h.read.contents g.read.contents h.read.are g.read.are in
      let pairs : h.read.pairs ≡ g.read.pairs = same_pairs (pairs_of items g.read.contents) h.read.pairs g.read.pairs (ap (pairs_of items) (sym same) ∙ h.read.given) g.read.given in
      let bytes : mesh_bytes items h.read.contents ≡ mesh_bytes items g.read.contents = ap (mesh_bytes items) same in
      let t : MakesPlate g.read.pairs es (mesh_bytes items h.read.contents) b = subst (λ ps. MakesPlate ps es (mesh_bytes items h.read.contents) b) pairs h.settled in
      let u : MakesPlate g.read.pairs es (mesh_bytes items g.read.contents) b = subst (λ ms. MakesPlate g.read.pairs es ms b) bytes t in
      let ms = mesh_bytes items g.read.contents in
      one_settled g.read.pairs es ms a b (settled g.read.pairs es ms a g.settled) (settled g.read.pairs es ms b u)

  one_defined : (items : List Item) (files : Files) (a b : Plates) → Defined items files a → Defined items files b → a ≡ b
  one_defined items files a b (too_long n i g) (too_long k j h) = i ∙ (ap (λ x. Err (fault.TooLong x)) (one_too_long items files n k g h) ∙ sym j)
  one_defined items files a b (too_long n i g) (not_json k j h) = absurd (all_there items files h.contents n h.are g)
  one_defined items files a b (too_long n i g) (given h) = absurd (all_there items files h.read.contents n h.read.are g)
  one_defined items files a b (not_json n i g) (too_long k j h) = absurd (all_there items files g.contents k g.are h)
  one_defined items files a b (not_json n i g) (not_json k j h) = i ∙ (ap (λ x. Err (fault.NotJson x)) (one_not_json items files n k g h) ∙ sym j)
  one_defined items files a b (not_json n i g) (given h) = absurd (all_json items files n b g h)
  one_defined items files a b (given g) (too_long k j h) = absurd (all_there items files g.read.contents k g.read.are h)
  one_defined items files a b (given g) (not_json k j h) = absurd (all_json items files k a h g)
  one_defined items files a b (given g) (given h) = one_given items files a b g h

  pub one_plate : (items : List Item) (files : Files) (a b : Plates) → PlateGives items (Some files) a → PlateGives items (Some files) b → a ≡ b
  one_plate items files a b g h = one_defined items files a b (defined items files a g) (defined items files b h)

  pub one_made : (pairs : List Pair) (es : List ℕ) (files : Names) (a b : Plates) → MakesPlate pairs es files a → MakesPlate pairs es files b → a ≡ b
  one_made pairs es files a b g h = one_settled pairs es files a b (settled pairs es files a g) (settled pairs es files b h)
