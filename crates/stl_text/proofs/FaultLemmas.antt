-- The first line at fault.
use Rattle.std.proofs.Common.{ℕ, zero, suc, ◌≡◌, ◌<◌, ◌≤◌, ◌+◌, true, false, List, [], ◌∷◌, ◌++◌, length, take, drop, Option, Some, None, refl, arith, sym, ap, ◌∙◌, subst, ◌⊎◌, inl, inr, add-one}
use Rattle.std.proofs.lemmas.List.{take-append-drop, take-take, take_all, length_push, length-drop}
use Rattle.slice_base.specs.declared.points.Tri.{Tri}
use Rattle.stl_text.specs.declared.lines.Line.{Line}
use Rattle.stl_text.specs.declared.states.State.{State}
use Rattle.stl_text.specs.declared.states.State.TheVariants.{InSolid}
use Rattle.stl_text.specs.declared.states.Step.TheVariants.{To, Whole, Bad}
use Rattle.stl_text.specs.declared.gathered.Gathered.{Gathered}
use Rattle.stl_text.specs.Lines.{read_lines}
use Rattle.stl_text.specs.Mesh.{HasFacets, Begins, IsFault}
use Rattle.stl_text.specs.Inner.Steps.{step_of, is_end}
use Rattle.stl_text.specs.Inner.Gathers.{Gathers}
use Rattle.stl_text.proofs.Runs.{Stand, start, stand_after, then_step, run, run-none, run-append, begins_from_run, none_begins, no_text, text_from_run, ran_text}

-- the next line of a list
pub record Cut {X : Type 0} (n : ℕ) (xs : List X) (x : X) (ys : List X) : Type 0 where
  pub front : take (n + 1) xs ≡ take n xs ++ x ∷ []
  pub rest : drop (n + 1) xs ≡ ys
  pub within : n < length xs

cut_suc : {X : Type 0} (n : ℕ) (xs : List X) (x : X) (ys : List X) → drop n xs ≡ x ∷ ys → (take (suc n) xs ≡ take n xs ++ x ∷ []) × (drop (suc n) xs ≡ ys) × (n < length xs)
cut_suc {X = X} zero [] x ys e = absurd (cc)
cut_suc {X = X} zero (z ∷ zs) x ys e = let h : z ≡ x = cc in let t : zs ≡ ys = cc in (ap (λ (v : X). v ∷ []) h, t, omega arith)
cut_suc (suc n) [] x ys e = absurd (cc)
cut_suc {X = X} (suc n) (z ∷ zs) x ys e = let c = cut_suc n zs x ys e in (ap (λ (v : List X). z ∷ v) c.0, c.1, omega (arith, c.2))

pub cut : {X : Type 0} (n : ℕ) (xs : List X) (x : X) (ys : List X) → drop n xs ≡ x ∷ ys → Cut n xs x ys
cut n xs x ys e = let c = cut_suc n xs x ys e in record { front = rw (add-one n) c.0; rest = rw (add-one n) c.1; within = c.2 }

prefix_of_run : (o : Option Stand) (xs ys : List Line) (s : Stand) → run (Some start) xs ≡ o → run (Some start) (xs ++ ys) ≡ Some s → Begins xs
prefix_of_run None xs ys s e h = absurd (
    let a : run (run (Some start) xs) ys ≡ Some s = sym (run-append (Some start) xs ys) ∙ h in
    let n : run None ys ≡ Some s = subst (λ (o : Option Stand). run o ys ≡ Some s) e a in
    let m = run-none ys in cc)
prefix_of_run (Some q) xs ys s e h = begins_from_run xs q e

pub front_begins : (ls : List Line) (i k : ℕ) (s : Stand) → run (Some start) (take i ls) ≡ Some s → k ≤ i → Begins (take k ls)
front_begins ls i k s h le =
    let e : take k ls ++ drop k (take i ls) ≡ take i ls = ap (λ (f : List Line). f ++ drop k (take i ls)) (sym (take-take k i ls le)) ∙ take-append-drop k (take i ls) in
    prefix_of_run (run (Some start) (take k ls)) (take k ls) (drop k (take i ls)) s refl (ap (run (Some start)) e ∙ h)

-- where the reader stands after n lines, and what it has gathered
pub record Stands (bytes : List ℕ) (n : ℕ) (state : State) (g : Gathered) : Type 0 where
  pub facets : List Tri
  pub ran : run (Some start) (take n (read_lines bytes)) ≡ Some (record { state = state; facets = facets })
  pub gathers : Gathers facets g
  pub few : length facets ≤ n
  pub within : n ≤ length (read_lines bytes)

run-more : (ls : List Line) (n : ℕ) (s : Stand) (l : Line) → take (n + 1) ls ≡ take n ls ++ l ∷ [] → run (Some start) (take n ls) ≡ Some s → run (Some start) (take (n + 1) ls) ≡ then_step (Some s) l
run-more ls n s l front h = ap (run (Some start)) front ∙ (run-append (Some start) (take n ls) (l ∷ []) ∙ ap (λ (o : Option Stand). then_step o l) h)

module _ (bytes : List ℕ) (n : ℕ) (state : State) (g : Gathered) (l : Line) (more : List Line) (s : Stands bytes n state g) (left : drop n (read_lines bytes) ≡ l ∷ more) where
  abbrev stood : Stand
  stood = record { state = state; facets = s.facets }

  pub stands_next : (q : State) → step_of state l ≡ To q → Stands bytes (n + 1) q g
  stands_next q e =
      let c = cut n (read_lines bytes) l more left in
      record {
        facets = s.facets;
        ran = run-more (read_lines bytes) n stood l c.front s.ran ∙ ap (stand_after s.facets) e;
        gathers = s.gathers;
        few = omega (arith, s.few);
        within = omega (arith, c.within);
      }

  pub stands_whole : (t : Tri) (h : Gathered) → step_of state l ≡ Whole t → ((facets : List Tri) → Gathers facets g → Gathers (facets ++ t ∷ []) h) → Stands bytes (n + 1) InSolid h
  stands_whole t h e takes =
      let c = cut n (read_lines bytes) l more left in
      record {
        facets = s.facets ++ t ∷ [];
        ran = run-more (read_lines bytes) n stood l c.front s.ran ∙ ap (stand_after s.facets) e;
        gathers = takes s.facets s.gathers;
        few = omega (arith, s.few, length_push s.facets t);
        within = omega (arith, c.within);
      }

  pub fault_here : step_of state l ≡ Bad → IsFault bytes (n + 1)
  fault_here e =
      let c = cut n (read_lines bytes) l more left in
      let none : run (Some start) (take (n + 1) (read_lines bytes)) ≡ None = run-more (read_lines bytes) n stood l c.front s.ran ∙ ap (stand_after s.facets) e in
      record {
        before = λ k below. front_begins (read_lines bytes) n k stood s.ran (omega arith);
        here = λ _. none_begins (take (n + 1) (read_lines bytes)) none;
        end = λ past. absurd (omega (arith, c.within));
      }

-- no byte is left, so no line is
pub all_read : (bytes rest : List ℕ) (n : ℕ) → drop n (read_lines bytes) ≡ read_lines rest → length rest ≡ 0 → length (read_lines bytes) ≤ n
all_read bytes [] n left none =
    let e : length (drop n (read_lines bytes)) ≡ 0 = ap length left in
    omega (arith, e, length-drop n (read_lines bytes))
all_read bytes (b ∷ rest) n left none = absurd (omega arith)

all_ran : (bytes : List ℕ) (n : ℕ) (state : State) (g : Gathered) (s : Stands bytes n state g) → length (read_lines bytes) ≤ n → run (Some start) (read_lines bytes) ≡ Some (record { state = state; facets = s.facets })
all_ran bytes n state g s all = ap (run (Some start)) (sym (take_all n (read_lines bytes) all)) ∙ s.ran

pub text_at_end : (bytes : List ℕ) (n : ℕ) (state : State) (g : Gathered) (s : Stands bytes n state g) → length (read_lines bytes) ≤ n → is_end state ≡ true → HasFacets bytes s.facets
text_at_end bytes n state g s all e = text_from_run (read_lines bytes) (record { state = state; facets = s.facets }) (all_ran bytes n state g s all) e

pub fault_at_end : (bytes : List ℕ) (n : ℕ) (state : State) (g : Gathered) (s : Stands bytes n state g) → length (read_lines bytes) ≤ n → is_end state ≡ false → IsFault bytes (n + 1)
fault_at_end bytes n state g s all e =
    let stood : Stand = record { state = state; facets = s.facets } in
    record {
      before = λ k below. front_begins (read_lines bytes) n k stood s.ran (omega arith);
      here = λ within. absurd (omega arith);
      end = λ past. (omega (arith, s.within), λ ts. no_text (read_lines bytes) stood ts (all_ran bytes n state g s all) e);
    }

-- a text without a fault
pub no_fault : (bytes : List ℕ) (ts : List Tri) (n : ℕ) → HasFacets bytes ts → IsFault bytes n → ⊥
no_fault bytes ts n text f = by_place (cases n (length (read_lines bytes)))
  where
    cases : (a b : ℕ) → (a ≤ b) ⊎ (b < a)
    cases a b = grind arith

    by_place : (n ≤ length (read_lines bytes)) ⊎ (length (read_lines bytes) < n) → ⊥
    by_place (inl low) =
        let r = ran_text (read_lines bytes) ts text in
        let m = length (read_lines bytes) in
        let whole : take m (read_lines bytes) ≡ read_lines bytes = take_all m (read_lines bytes) (omega arith) in
        f.here low (front_begins (read_lines bytes) m n (record { state = r.state; facets = ts }) (ap (run (Some start)) whole ∙ r.ran) low)
    by_place (inr high) = (f.end high).1 ts text

later : (bytes : List ℕ) (n m : ℕ) → IsFault bytes n → IsFault bytes m → n < m → ⊥
later bytes n m f g less = by_place (cases n (length (read_lines bytes)))
  where
    cases : (a b : ℕ) → (a ≤ b) ⊎ (b < a)
    cases a b = grind arith

    by_place : (n ≤ length (read_lines bytes)) ⊎ (length (read_lines bytes) < n) → ⊥
    by_place (inl low) = f.here low (g.before n less)
    by_place (inr high) = omega (arith, (f.end high).0, (g.end (omega arith)).0)

pub one_fault : (bytes : List ℕ) (n m : ℕ) → IsFault bytes n → IsFault bytes m → n ≡ m
one_fault bytes n m f g = by_order (cases n m)
  where
    cases : (a b : ℕ) → (a < b) ⊎ ((b < a) ⊎ (a ≡ b))
    cases a b = grind arith

    by_order : (n < m) ⊎ ((m < n) ⊎ (n ≡ m)) → n ≡ m
    by_order (inl less) = absurd (later bytes n m f g less)
    by_order (inr (inl more)) = absurd (later bytes m n g f more)
    by_order (inr (inr same)) = same
