-- Meshes that were put in place one after another.
use Rattle.std.proofs.Common.{ℕ, ◌≡◌, ◌+◌, List, [], ◌∷◌, ◌++◌, length, inl, inr, Result, Ok, Err, arith, refl, sym, ap, subst, append_assoc}
use Rattle.std.proofs.lemmas.List.{append-nil}
use Rattle.slice_base.specs.declared.points.Tri.{Tri}
use Rattle.settings_core.specs.declared.resolved.Settings.{Settings}
use Rattle.plate_input.specs.declared.faults.PlateFault.{PlateFault}
use Rattle.plate_input.specs.declared.faults.PlateFault.TheVariants as fault
use Rattle.plate_input.specs.Meshes.{IsPlaced, MeshesGive}
use Rattle.plate_input.specs.Inner.Stages.{MeshGives}
use Rattle.plate_input.specs.Plate.{UnlessNoMemory}

abbrev All_of : Type 0
All_of = Result (List (List Tri)) PlateFault

abbrev pub before : List (List Tri) → All_of → All_of
before done (Ok meshes) = Ok (done ++ meshes)
before done (Err r) = Err r

-- these meshes stand, and the rest of the files decides
pub record Reached (s : Settings) (files : List (List ℕ)) (done : List (List Tri)) (m : ℕ) (rest : List (List ℕ)) : Type 0 where
  pub gives : (a : All_of) → MeshesGive s m rest a → MeshesGive s 0 files (before done a)

kept : (a : All_of) → before [] a ≡ a
kept (Ok meshes) = refl
kept (Err r) = refl

begun : (s : Settings) (files : List (List ℕ)) → Reached s files [] 0 files
begun s files = record { gives = λ a h. rw (kept a) h }

given_more : (s : Settings) (m : ℕ) (bytes : List ℕ) (rest : List (List ℕ)) (ts : List Tri) (a : All_of) → IsPlaced s m bytes ts → MeshesGive s (m + 1) rest a → MeshesGive s m (bytes ∷ rest) (before (ts ∷ []) a)
given_more s m bytes rest ts (Ok meshes) p h = (p, h)
given_more s m bytes rest ts (Err r) p h = inr ((ts, p), h)

before-more : (done : List (List Tri)) (ts : List Tri) (a : All_of) → before done (before (ts ∷ []) a) ≡ before (done ++ ts ∷ []) a
before-more done ts (Ok meshes) = ap Ok (sym (append_assoc done (ts ∷ []) meshes))
before-more done ts (Err r) = refl

more : (s : Settings) (files : List (List ℕ)) (done : List (List Tri)) (m : ℕ) (bytes : List ℕ) (rest : List (List ℕ)) (ts : List Tri) → Reached s files done m (bytes ∷ rest) → UnlessNoMemory (MeshGives s m bytes) (Ok ts) → Reached s files (done ++ ts ∷ []) (m + 1) rest
more s files done m bytes rest ts r (inl e) = absurd (cc)
more s files done m bytes rest ts r (inr p) = record { gives = λ a h. rw (← before-more done ts a) (r.gives (before (ts ∷ []) a) (given_more s m bytes rest ts a p h)) }

short_too : (q : PlateFault) → ◌≡◌ {A = Result (List Tri) PlateFault} (Err q) (Err fault.NoMemory) → ◌≡◌ {A = All_of} (Err q) (Err fault.NoMemory)
short_too q e = let same : q ≡ fault.NoMemory = cc in ap Err same

refused : (s : Settings) (files : List (List ℕ)) (done : List (List Tri)) (m : ℕ) (bytes : List ℕ) (rest : List (List ℕ)) (q : PlateFault) → Reached s files done m (bytes ∷ rest) → UnlessNoMemory (MeshGives s m bytes) (Err q) → UnlessNoMemory (MeshesGive s 0 files) (Err q)
refused s files done m bytes rest q r (inl e) = inl (short_too q e)
refused s files done m bytes rest q r (inr h) = inr (r.gives (Err q) (inl h))

ended : (s : Settings) (files : List (List ℕ)) (done : List (List Tri)) (m : ℕ) → Reached s files done m [] → UnlessNoMemory (MeshesGive s 0 files) (Ok done)
ended s files done m r = inr (let h : MeshesGive s 0 files (Ok (done ++ [])) = r.gives (Ok []) refl in rw append-nil at h)

-- the loop's steps, by their equations
pub more_at : (s : Settings) (files : List (List ℕ)) (done done' : List (List Tri)) (m : ℕ) (items : List (List ℕ)) (bytes seen : List ℕ) (rest : List (List ℕ)) (ts : List Tri)
    → items ≡ bytes ∷ rest → seen ≡ bytes → done' ≡ done ++ ts ∷ [] → Reached s files done m items → UnlessNoMemory (MeshGives s m seen) (Ok ts) → Reached s files done' (m + 1) rest
more_at s files done done' m items bytes seen rest ts e f g r a =
    let r' : Reached s files done m (bytes ∷ rest) = subst (Reached s files done m) e r in
    let a' : UnlessNoMemory (MeshGives s m bytes) (Ok ts) = subst (λ (x : List ℕ). UnlessNoMemory (MeshGives s m x) (Ok ts)) f a in
    rw g (more s files done m bytes rest ts r' a')

pub refused_at : (s : Settings) (files : List (List ℕ)) (done : List (List Tri)) (m : ℕ) (items : List (List ℕ)) (bytes seen : List ℕ) (rest : List (List ℕ)) (q : PlateFault)
    → items ≡ bytes ∷ rest → seen ≡ bytes → Reached s files done m items → UnlessNoMemory (MeshGives s m seen) (Err q) → UnlessNoMemory (MeshesGive s 0 files) (Err q)
refused_at s files done m items bytes seen rest q e f r a =
    refused s files done m bytes rest q (subst (Reached s files done m) e r) (subst (λ (x : List ℕ). UnlessNoMemory (MeshGives s m x) (Err q)) f a)

no_items : (items : List (List ℕ)) → length items ≡ 0 → items ≡ []
no_items [] e = refl
no_items (b ∷ bs) e = absurd (omega (arith, e))

pub ended_at : (s : Settings) (files : List (List ℕ)) (done : List (List Tri)) (m : ℕ) (items : List (List ℕ)) → length items ≡ 0 → Reached s files done m items → UnlessNoMemory (MeshesGive s 0 files) (Ok done)
ended_at s files done m items e r = ended s files done m (subst (Reached s files done m) (no_items items e) r)
