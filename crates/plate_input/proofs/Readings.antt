-- What the answers of the reader of meshes say of a mesh's file.
use Rattle.std.proofs.Common.{ℕ, ◌≡◌, ◌<◌, List, [], ◌∷◌, length, Vec, Global, inr, Result, Ok, Err, arith, refl, sym, ap, ◌∙◌}
use Rattle.std.specs.Prelude.{◌↔◌, ◌==◌, Bool, true, false}
use Rattle.std.proofs.lemmas.Bool.{eqb-true, eqb-false}
use Rattle.slice_base.specs.declared.points.Tri.{Tri}
use Rattle.stl_text.specs.declared.faults.StlFault.{StlFault}
use Rattle.stl_text.specs.declared.faults.StlFault.TheVariants as stl
use Rattle.stl_text.specs.Mesh.{IsMesh, IsFault, HasTooMany}
use Rattle.plate_input.specs.declared.faults.PlateFault.TheVariants as fault
use Rattle.plate_input.specs.Inner.Stages.{TrianglesGive}
use Rattle.plate_input.specs.Plate.{UnlessNoMemory}

abbrev Reading : Type 0
Reading = Result (Vec Tri Global) StlFault

pub answer_ok : (m : ℕ) (bytes : List ℕ) (v : Vec Tri Global) (ts : List Tri) → IsMesh bytes v.items → ts ≡ v.items → 0 < length v.items → UnlessNoMemory (TrianglesGive m bytes) (Ok ts)
answer_ok m bytes v ts mesh e some = rw e (inr (mesh, some))

empty_mesh : (bytes : List ℕ) (ts : List Tri) → length ts ≡ 0 → IsMesh bytes ts → IsMesh bytes []
empty_mesh bytes [] e h = h
empty_mesh bytes (t ∷ ts) e h = absurd (omega (arith, e))

pub answer_empty : (m : ℕ) (bytes : List ℕ) (ts : List Tri) → IsMesh bytes ts → length ts ≡ 0 → UnlessNoMemory (TrianglesGive m bytes) (Err (fault.NoTriangles m))
answer_empty m bytes ts mesh none = inr (refl, empty_mesh bytes ts none mesh)

pub answer_bad : (m k : ℕ) (bytes : List ℕ) (f : StlFault) → f ≡ stl.BadLine k → ((n : ℕ) → (◌≡◌ {A = Reading} (Err f) (Err (stl.BadLine n))) ↔ IsFault bytes n) → UnlessNoMemory (TrianglesGive m bytes) (Err (fault.BadStl m k))
answer_bad m k bytes f e says = inr (refl, (says k).0 (ap Err e))

pub answer_many : (m k : ℕ) (bytes : List ℕ) (f : StlFault) → f ≡ stl.TooManyTriangles k → ((n : ℕ) → (◌≡◌ {A = Reading} (Err f) (Err (stl.TooManyTriangles n))) ↔ HasTooMany bytes n) → UnlessNoMemory (TrianglesGive m bytes) (Err (fault.TooManyTriangles m k))
answer_many m k bytes f e says = inr (refl, (says k).0 (ap Err e))

pub is_zero : (n : ℕ) (b : Bool) → b ≡ (n == 0) → b ≡ true → n ≡ 0
is_zero n b e t = eqb-true n 0 (sym e ∙ t)

pub not_zero : (n : ℕ) (b : Bool) → b ≡ (n == 0) → b ≡ false → 0 < n
not_zero n b e t = let ne : n ≡ 0 → ⊥ = eqb-false n 0 (sym e ∙ t) in omega (arith, ne)
