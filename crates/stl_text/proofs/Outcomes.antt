-- What the reader's answers say of the text.
use Rattle.std.proofs.Common.{ℕ, ◌≡◌, ◌≤◌, List, length, Vec, Global, Result, Ok, Err, refl, arith, sym, ap, ◌∙◌, subst}
use Rattle.std.specs.Prelude.{All, IfOk, MatchResult, ◌↔◌}
use Rattle.std.proofs.lemmas.List.Elements.{All-same}
use Rattle.std.proofs.lemmas.List.Sums.{length-filter, count_by-le-length}
use Rattle.slice_base.specs.declared.points.Tri.{Tri}
use Rattle.stl_text.specs.declared.gathered.TheConstants.{MOST_TRIANGLES}
use Rattle.stl_text.specs.declared.faults.StlFault.{StlFault}
use Rattle.stl_text.specs.declared.faults.StlFault.TheVariants.{BadLine, TooManyTriangles, NoMemory}
use Rattle.stl_text.specs.Lines.{read_lines}
use Rattle.stl_text.specs.Mesh.{HasFacets, IsFault, IsMesh, HasTooMany, StlGives, IsNear, triangles_of, is_proper}
use Rattle.stl_text.specs.Inner.Gathers.{IsAnswer}
use Rattle.stl_text.proofs.Runs.{one_text}
use Rattle.stl_text.proofs.FaultLemmas.{no_fault, one_fault}
use Rattle.stl_text.proofs.NearLemmas.{triangles_near}

abbrev Answer : Type 0
Answer = Result (Vec Tri Global) StlFault

pub one_reading : (bytes : List ℕ) (fs gs : List Tri) → HasFacets bytes fs → HasFacets bytes gs → fs ≡ gs
one_reading bytes fs gs f g = one_text (read_lines bytes) fs gs f g

same_mesh : (bytes : List ℕ) (ts us : List Tri) → IsMesh bytes ts → IsMesh bytes us → ts ≡ us
same_mesh bytes ts us m n = m.proper ∙ (ap triangles_of (one_reading bytes m.facets n.facets m.whole n.whole) ∙ sym n.proper)

same_count : (bytes : List ℕ) (j k : ℕ) → HasTooMany bytes j → HasTooMany bytes k → j ≡ k
same_count bytes j k m n = sym m.counted ∙ (ap length (one_reading bytes m.facets n.facets m.whole n.whole) ∙ n.counted)

no_mesh : (bytes : List ℕ) (k : ℕ) (ts : List Tri) → HasTooMany bytes k → IsMesh bytes ts → ⊥
no_mesh bytes k ts m n = omega (arith, ap length (one_reading bytes m.facets n.facets m.whole n.whole), m.counted, m.many, n.few)

-- any bytes give one thing at most
pub one_meaning : (bytes : List ℕ) (a b : Result (List Tri) StlFault) → StlGives bytes a → StlGives bytes b → a ≡ b
one_meaning bytes (Ok ts) (Ok us) m n = ap Ok (same_mesh bytes ts us m n)
one_meaning bytes (Ok ts) (Err (BadLine k)) m n = absurd (no_fault bytes m.facets k m.whole n)
one_meaning bytes (Ok ts) (Err (TooManyTriangles k)) m n = absurd (no_mesh bytes k ts n m)
one_meaning bytes (Ok ts) (Err NoMemory) m n = absurd n
one_meaning bytes (Err (BadLine j)) (Ok us) m n = absurd (no_fault bytes n.facets j n.whole m)
one_meaning bytes (Err (BadLine j)) (Err (BadLine k)) m n = ap (λ (x : ℕ). Err (BadLine x)) (one_fault bytes j k m n)
one_meaning bytes (Err (BadLine j)) (Err (TooManyTriangles k)) m n = absurd (no_fault bytes n.facets j n.whole m)
one_meaning bytes (Err (BadLine j)) (Err NoMemory) m n = absurd n
one_meaning bytes (Err (TooManyTriangles j)) (Ok us) m n = absurd (no_mesh bytes j us m n)
one_meaning bytes (Err (TooManyTriangles j)) (Err (BadLine k)) m n = absurd (no_fault bytes m.facets k m.whole n)
one_meaning bytes (Err (TooManyTriangles j)) (Err (TooManyTriangles k)) m n = ap (λ (x : ℕ). Err (TooManyTriangles x)) (same_count bytes j k m n)
one_meaning bytes (Err (TooManyTriangles j)) (Err NoMemory) m n = absurd n
one_meaning bytes (Err NoMemory) b m n = absurd m

-- the answer at a line at fault
module _ (bytes : List ℕ) (line : ℕ) (fault : IsFault bytes line) where
  pub bad-bad_line : (r : Answer) → r ≡ Err (BadLine line) → (n : ℕ) → (r ≡ Err (BadLine n)) ↔ IsFault bytes n
  bad-bad_line r is n = (
    (λ e. let k : line ≡ n = cc in subst (λ (x : ℕ). IsFault bytes x) k fault),
    (λ f. is ∙ ap (λ (x : ℕ). Err (BadLine x)) (one_fault bytes line n fault f)),
  )

  pub bad-too_many : (r : Answer) → r ≡ Err (BadLine line) → (n : ℕ) → (r ≡ Err (TooManyTriangles n)) ↔ HasTooMany bytes n
  bad-too_many r is n = ((λ e. absurd (cc)), (λ many. absurd (no_fault bytes many.facets line many.whole fault)))

  pub bad-gives : (r : Answer) → r ≡ Err (BadLine line) → (triangles : List Tri) → IsMesh bytes triangles → MatchResult r (λ v. v.items ≡ triangles) (λ e. e ≡ NoMemory)
  bad-gives r is triangles mesh = absurd (no_fault bytes mesh.facets line mesh.whole fault)

-- the answer at a whole text
module _ (bytes : List ℕ) (facets : List Tri) (whole : HasFacets bytes facets) where
  pub whole-mesh : (r : Answer) → IsAnswer facets r → IfOk r (λ v. IsMesh bytes v.items)
  whole-mesh (Ok v) a = record { facets = facets; whole = whole; few = a.0; proper = a.1 }
  whole-mesh (Err e) a = tt

  pub whole-bad_line : (r : Answer) → IsAnswer facets r → (n : ℕ) → (r ≡ Err (BadLine n)) ↔ IsFault bytes n
  whole-bad_line (Ok v) a n = ((λ e. absurd (cc)), (λ f. absurd (no_fault bytes facets n whole f)))
  whole-bad_line (Err (BadLine m)) a n = absurd a
  whole-bad_line (Err (TooManyTriangles m)) a n = ((λ e. absurd (cc)), (λ f. absurd (no_fault bytes facets n whole f)))
  whole-bad_line (Err NoMemory) a n = ((λ e. absurd (cc)), (λ f. absurd (no_fault bytes facets n whole f)))

  few_many : (n : ℕ) → length facets ≤ MOST_TRIANGLES → HasTooMany bytes n → ⊥
  few_many n few many = omega (arith, ap length (one_reading bytes many.facets facets many.whole whole), many.counted, many.many)

  pub whole-too_many : (r : Answer) → IsAnswer facets r → (n : ℕ) → (r ≡ Err (TooManyTriangles n)) ↔ HasTooMany bytes n
  whole-too_many (Ok v) a n = ((λ e. absurd (cc)), (λ many. absurd (few_many n a.0 many)))
  whole-too_many (Err (BadLine m)) a n = absurd a
  whole-too_many (Err (TooManyTriangles m)) a n = (
    (λ e. let k : m ≡ n = cc in record { facets = facets; whole = whole; counted = a.0 ∙ k; many = omega (arith, a.1) }),
    (λ many. ap (λ (x : ℕ). Err (TooManyTriangles x)) (sym a.0 ∙ (ap length (one_reading bytes facets many.facets whole many.whole) ∙ many.counted))),
  )
  whole-too_many (Err NoMemory) a n = ((λ e. absurd (cc)), (λ many. absurd (few_many n a many)))

  pub whole-gives : (r : Answer) → IsAnswer facets r → (triangles : List Tri) → IsMesh bytes triangles → MatchResult r (λ v. v.items ≡ triangles) (λ e. e ≡ NoMemory)
  whole-gives (Ok v) a triangles mesh = a.1 ∙ (ap triangles_of (one_reading bytes facets mesh.facets whole mesh.whole) ∙ sym mesh.proper)
  whole-gives (Err (BadLine m)) a triangles mesh = absurd a
  whole-gives (Err (TooManyTriangles m)) a triangles mesh = absurd (omega (arith, a.0, a.1, mesh.few, ap length (one_reading bytes facets mesh.facets whole mesh.whole)))
  whole-gives (Err NoMemory) a triangles mesh = refl

  pub whole-no_memory : (r : Answer) → IsAnswer facets r → r ≡ Err NoMemory → (triangles : List Tri) × IsMesh bytes triangles
  whole-no_memory (Err NoMemory) a e = (triangles_of facets, record { facets = facets; whole = whole; few = a; proper = refl })
  whole-no_memory (Err (BadLine m)) a e = absurd a
  whole-no_memory r a e = absurd (cc)

  pub whole-near : (r : Answer) → IsAnswer facets r → IfOk r (λ v. All IsNear v.items)
  whole-near (Ok v) a = All-same IsNear v.items (triangles_of facets) a.1 (triangles_near bytes facets whole)
  whole-near (Err e) a = tt

  pub whole-few : (r : Answer) → IsAnswer facets r → IfOk r (λ v. length v.items ≤ MOST_TRIANGLES)
  whole-few (Ok v) a = omega (arith, a.0, ap length a.1, length-filter is_proper facets, count_by-le-length is_proper facets)
  whole-few (Err e) a = tt
