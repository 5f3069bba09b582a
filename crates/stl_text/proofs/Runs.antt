-- The reader's states against the grammar.
use Rattle.std.proofs.Common.{ℕ, ◌≡◌, Bool, true, false, cond, List, [], ◌∷◌, ◌++◌, Option, Some, None, refl, sym, ap, ◌∙◌, subst, append_assoc, codes}
use Rattle.std.specs.Prelude.{filter}
use Rattle.std.proofs.lemmas.List.{append-nil}
use Rattle.slice_base.specs.Decimal.{decimal_of}
use Rattle.slice_base.specs.declared.points.Pt3.{Pt3}
use Rattle.slice_base.specs.declared.points.Tri.{Tri}
use Rattle.stl_text.specs.declared.lines.Line.{Line}
use Rattle.stl_text.specs.declared.lines.Line.TheVariants.{Blank, Solid, Facet, OuterLoop, Vertex, EndLoop, EndFacet, EndSolid}
use Rattle.stl_text.specs.declared.states.State.{State}
use Rattle.stl_text.specs.declared.states.State.TheVariants.{Outside, InSolid, LoopBegins, FirstVertex, SecondVertex, ThirdVertex, LoopEnds, FacetEnds}
use Rattle.stl_text.specs.declared.states.Step.{Step}
use Rattle.stl_text.specs.declared.states.Step.TheVariants.{To, Whole, Bad}
use Rattle.stl_text.specs.Lines.{read_lines}
use Rattle.stl_text.specs.Mesh.{Solids, no_more, left_open, solid, facet, endsolid, has_words, IsText, Begins}
use Rattle.stl_text.specs.Inner.Steps.{step_of, is_end}

-- a state, and the facets before it
pub record Stand : Type 0 where
  pub state : State
  pub facets : List Tri

abbrev pub start : Stand
start = record { state = Outside; facets = [] }

abbrev pub stand_after : List Tri → Step → Option Stand
stand_after facets Bad = None
stand_after facets (To state) = Some (record { state = state; facets = facets })
stand_after facets (Whole t) = Some (record { state = InSolid; facets = facets ++ t ∷ [] })

abbrev pub then_step : Option Stand → Line → Option Stand
then_step None line = None
then_step (Some s) line = stand_after s.facets (step_of s.state line)

abbrev pub run : Option Stand → List Line → Option Stand
run o [] = o
run o (line ∷ lines) = run (then_step o line) lines

abbrev written : List Line → List Line
written lines = filter has_words lines

-- the lines that may follow a state up to the end of a text, and the facets that end in them
data Rest : State → List Line → List Tri → Type 0 where
  outside : {ls : List Line} {ts : List Tri} → Solids false ls ts → Rest Outside ls ts
  in_solid : {ls : List Line} {ts : List Tri} → Solids true ls ts → Rest InSolid ls ts
  loop_begins : {ls : List Line} {ts : List Tri} → Rest FirstVertex ls ts → Rest LoopBegins (OuterLoop ∷ ls) ts
  first : {a : Pt3} {ls : List Line} {ts : List Tri} → Rest (SecondVertex a) ls ts → Rest FirstVertex (Vertex a ∷ ls) ts
  second : {a b : Pt3} {ls : List Line} {ts : List Tri} → Rest (ThirdVertex a b) ls ts → Rest (SecondVertex a) (Vertex b ∷ ls) ts
  third : {a b c : Pt3} {ls : List Line} {ts : List Tri} → Rest (LoopEnds (record { a = a; b = b; c = c })) ls ts → Rest (ThirdVertex a b) (Vertex c ∷ ls) ts
  loop_ends : {t : Tri} {ls : List Line} {ts : List Tri} → Rest (FacetEnds t) ls ts → Rest (LoopEnds t) (EndLoop ∷ ls) ts
  facet_ends : {t : Tri} {ls : List Line} {ts : List Tri} → Solids true ls ts → Rest (FacetEnds t) (EndFacet ∷ ls) (t ∷ ts)

facet_from : {ls : List Line} {ts : List Tri} → Rest LoopBegins ls ts → Solids true (Facet ∷ ls) ts
facet_from (loop_begins (first (second (third (loop_ends (facet_ends s)))))) = facet s

outside_from : {ls : List Line} {ts : List Tri} → Rest Outside ls ts → Solids false ls ts
outside_from (outside s) = s

inside_from : {ls : List Line} {ts : List Tri} → Rest InSolid ls ts → Solids true ls ts
inside_from (in_solid s) = s

at : (p q : State) (ls : List Line) (ts : List Tri) → p ≡ q → Rest p ls ts → Rest q ls ts
at p q ls ts e r = subst (λ (x : State). Rest x ls ts) e r

back : (p : State) (l : Line) (q : State) (ls : List Line) (ts : List Tri) → step_of p l ≡ To q → Rest q ls ts → Rest p (cond (has_words l) (l ∷ ls) ls) ts
back p Blank q ls ts e r = at q p ls ts (cc) r
back Outside Solid q ls ts e r = outside (solid (inside_from (at q InSolid ls ts (cc) r)))
back InSolid Facet q ls ts e r = in_solid (facet_from (at q LoopBegins ls ts (cc) r))
back InSolid EndSolid q ls ts e r = in_solid (endsolid (outside_from (at q Outside ls ts (cc) r)))
back LoopBegins OuterLoop q ls ts e r = loop_begins (at q FirstVertex ls ts (cc) r)
back FirstVertex (Vertex a) q ls ts e r = first (at q (SecondVertex a) ls ts (cc) r)
back (SecondVertex a) (Vertex b) q ls ts e r = second (at q (ThirdVertex a b) ls ts (cc) r)
back (ThirdVertex a b) (Vertex c) q ls ts e r = third (at q (LoopEnds (record { a = a; b = b; c = c })) ls ts (cc) r)
back (LoopEnds t) EndLoop q ls ts e r = loop_ends (at q (FacetEnds t) ls ts (cc) r)
back (FacetEnds t) EndFacet q ls ts e r = absurd (cc)
back p l q ls ts e r = absurd (cc)

back_whole : (p : State) (l : Line) (t : Tri) (ls : List Line) (ts : List Tri) → step_of p l ≡ Whole t → Solids true ls ts → Rest p (cond (has_words l) (l ∷ ls) ls) (t ∷ ts)
back_whole p Blank t ls ts e s = absurd (cc)
back_whole Outside Solid t ls ts e s = absurd (cc)
back_whole InSolid Facet t ls ts e s = absurd (cc)
back_whole InSolid EndSolid t ls ts e s = absurd (cc)
back_whole LoopBegins OuterLoop t ls ts e s = absurd (cc)
back_whole FirstVertex (Vertex a) t ls ts e s = absurd (cc)
back_whole (SecondVertex a) (Vertex b) t ls ts e s = absurd (cc)
back_whole (ThirdVertex a b) (Vertex c) t ls ts e s = absurd (cc)
back_whole (LoopEnds u) EndLoop t ls ts e s = absurd (cc)
back_whole (FacetEnds u) EndFacet t ls ts e s =
    let k : u ≡ t = cc in subst (λ (x : Tri). Rest (FacetEnds u) (EndFacet ∷ ls) (x ∷ ts)) k (facet_ends s)
back_whole p l t ls ts e s = absurd (cc)

pub run-none : (ls : List Line) → run None ls ≡ None
run-none [] = refl
run-none (l ∷ ls) = run-none ls

pub run-append : (o : Option Stand) (xs ys : List Line) → run o (xs ++ ys) ≡ run (run o xs) ys
run-append o [] ys = refl
run-append o (x ∷ xs) ys = run-append (then_step o x) xs ys

-- what the lines of a run make of a rest
record Made (p : State) (before after : List Tri) (lines : List Line) (ts : List Tri) : Type 0 where
  new : List Tri
  grown : after ≡ before ++ new
  rest : Rest p lines (new ++ ts)

same_state : (r s : Stand) → Some r ≡ Some s → r.state ≡ s.state
same_state r s e = let k : r ≡ s = cc in ap (λ (x : Stand). x.state) k

same_facets : (r s : Stand) → Some r ≡ Some s → r.facets ≡ s.facets
same_facets r s e = let k : r ≡ s = cc in ap (λ (x : Stand). x.facets) k

made_step : (o : Step) (p : State) (fs : List Tri) (s : Stand) (l : Line) (ls ms : List Line) (ts : List Tri) → step_of p l ≡ o → run (stand_after fs o) ls ≡ Some s
    → ((r : Stand) → run (Some r) ls ≡ Some s → Made r.state r.facets s.facets (written (ls ++ ms)) ts)
    → Made p fs s.facets (written (l ∷ (ls ++ ms))) ts
made_step Bad p fs s l ls ms ts e h ih = absurd (let n = run-none ls in cc)
made_step (To q) p fs s l ls ms ts e h ih =
    let m = ih (record { state = q; facets = fs }) h in
    record { new = m.new; grown = m.grown; rest = back p l q (written (ls ++ ms)) (m.new ++ ts) e m.rest }
made_step (Whole t) p fs s l ls ms ts e h ih =
    let m = ih (record { state = InSolid; facets = fs ++ t ∷ [] }) h in
    record {
      new = t ∷ m.new;
      grown = m.grown ∙ append_assoc fs (t ∷ []) m.new;
      rest = back_whole p l t (written (ls ++ ms)) (m.new ++ ts) e (inside_from m.rest);
    }

made : (p : State) (fs : List Tri) (s : Stand) (ls ms : List Line) (ts : List Tri) → run (Some (record { state = p; facets = fs })) ls ≡ Some s → Rest s.state (written ms) ts → Made p fs s.facets (written (ls ++ ms)) ts
made p fs s [] ms ts h r = record {
  new = [];
  grown = sym (same_facets (record { state = p; facets = fs }) s h) ∙ sym (append-nil fs);
  rest = at s.state p (written ms) ts (sym (same_state (record { state = p; facets = fs }) s h)) r;
}
made p fs s (l ∷ ls) ms ts h r = made_step (step_of p l) p fs s l ls ms ts refl h (λ q hq. made q.state q.facets s ls ms ts hq r)

rest_at_end : (p : State) → is_end p ≡ true → Rest p [] []
rest_at_end Outside e = outside no_more
rest_at_end InSolid e = in_solid left_open
rest_at_end p e = absurd (cc)

pub text_from_run : (ls : List Line) (s : Stand) → run (Some start) ls ≡ Some s → is_end s.state ≡ true → IsText ls s.facets
text_from_run ls s h e =
    let m = made Outside [] s ls [] [] h (rest_at_end s.state e) in
    let t : Solids false (written (ls ++ [])) (m.new ++ []) = outside_from m.rest in
    let u : Solids false (written ls) (m.new ++ []) = subst (λ (x : List Line). Solids false (written x) (m.new ++ [])) (append-nil ls) t in
    subst (λ (x : List Tri). Solids false (written ls) x) (append-nil m.new ∙ sym m.grown) u

abbrev state_of : Bool → State
state_of true = InSolid
state_of false = Outside

-- a text's run
pub record Ran (o : Option Stand) (lines : List Line) (facets : List Tri) : Type 0 where
  pub state : State
  pub ran : run o lines ≡ Some (record { state = state; facets = facets })
  pub ends : is_end state ≡ true

ran_from_text : (b : Bool) (ls : List Line) (ts : List Tri) → Solids b ls ts → (fs : List Tri) → Ran (Some (record { state = state_of b; facets = fs })) ls (fs ++ ts)
ran_from_text b ls ts no_more fs = record { state = Outside; ran = ap (λ (x : List Tri). Some (record { state = Outside; facets = x })) (sym (append-nil fs)); ends = refl }
ran_from_text b ls ts left_open fs = record { state = InSolid; ran = ap (λ (x : List Tri). Some (record { state = InSolid; facets = x })) (sym (append-nil fs)); ends = refl }
ran_from_text b ls ts (solid s) fs = let r = ran_from_text true _ ts s fs in record { state = r.state; ran = r.ran; ends = r.ends }
ran_from_text b ls ts (facet {a} {b = v} {c} {lines} {facets} s) fs =
    let t : Tri = record { a = a; b = v; c = c } in
    let r = ran_from_text true lines facets s (fs ++ t ∷ []) in
    record { state = r.state; ran = r.ran ∙ ap (λ (x : List Tri). Some (record { state = r.state; facets = x })) (append_assoc fs (t ∷ []) facets); ends = r.ends }
ran_from_text b ls ts (endsolid s) fs = let r = ran_from_text false _ ts s fs in record { state = r.state; ran = r.ran; ends = r.ends }

blank_step : (o : Option Stand) → then_step o Blank ≡ o
blank_step None = refl
blank_step (Some s) = refl

run-written : (o : Option Stand) (ls : List Line) → run o (written ls) ≡ run o ls
run-written o [] = refl
run-written o (Blank ∷ ls) = run-written o ls ∙ ap (λ (x : Option Stand). run x ls) (sym (blank_step o))
run-written o (l ∷ ls) = run-written (then_step o l) ls

pub ran_text : (ls : List Line) (ts : List Tri) → IsText ls ts → Ran (Some start) ls ts
ran_text ls ts t =
    let r = ran_from_text false (written ls) ts t [] in
    record { state = r.state; ran = sym (run-written (Some start) ls) ∙ r.ran; ends = r.ends }

pub one_text : (ls : List Line) (ts us : List Tri) → IsText ls ts → IsText ls us → ts ≡ us
one_text ls ts us t u =
    let r = ran_text ls ts t in let s = ran_text ls us u in
    same_facets (record { state = r.state; facets = ts }) (record { state = s.state; facets = us }) (sym r.ran ∙ s.ran)

pub none_begins : (ls : List Line) → run (Some start) ls ≡ None → Begins ls → ⊥
none_begins ls h b =
    let ms = read_lines b.more in
    let r = ran_text (ls ++ ms) b.facets b.whole in
    let e : run (run (Some start) ls) ms ≡ Some (record { state = r.state; facets = b.facets }) = sym (run-append (Some start) ls ms) ∙ r.ran in
    let n : run None ms ≡ Some (record { state = r.state; facets = b.facets }) = subst (λ (x : Option Stand). run x ms ≡ Some (record { state = r.state; facets = b.facets })) h e in
    let m = run-none ms in
    cc

pub no_text : (ls : List Line) (s : Stand) (ts : List Tri) → run (Some start) ls ≡ Some s → is_end s.state ≡ false → IsText ls ts → ⊥
no_text ls s ts h e t =
    let r = ran_text ls ts t in
    let k : s.state ≡ r.state = same_state s (record { state = r.state; facets = ts }) (sym h ∙ r.ran) in
    let f : is_end s.state ≡ true = ap is_end k ∙ r.ends in
    absurd (cc)

-- bytes that make a whole text after a state
record Completion (p : State) : Type 0 where
  more : List ℕ
  facets : List Tri
  rest : Rest p (written (read_lines more)) facets

completion : (p : State) → Completion p
unfolding decimal_of
completion Outside = record { more = []; facets = []; rest = outside no_more }
completion InSolid = record { more = []; facets = []; rest = in_solid left_open }
completion LoopBegins = record { more = codes "outer loop" ++ 10 ∷ codes "vertex 0 0 0" ++ 10 ∷ codes "vertex 0 0 0" ++ 10 ∷ codes "vertex 0 0 0" ++ 10 ∷ codes "endloop" ++ 10 ∷ codes "endfacet"; facets = _; rest = loop_begins (first (second (third (loop_ends (facet_ends left_open))))) }
completion FirstVertex = record { more = codes "vertex 0 0 0" ++ 10 ∷ codes "vertex 0 0 0" ++ 10 ∷ codes "vertex 0 0 0" ++ 10 ∷ codes "endloop" ++ 10 ∷ codes "endfacet"; facets = _; rest = first (second (third (loop_ends (facet_ends left_open)))) }
completion (SecondVertex a) = record { more = codes "vertex 0 0 0" ++ 10 ∷ codes "vertex 0 0 0" ++ 10 ∷ codes "endloop" ++ 10 ∷ codes "endfacet"; facets = _; rest = second (third (loop_ends (facet_ends left_open))) }
completion (ThirdVertex a b) = record { more = codes "vertex 0 0 0" ++ 10 ∷ codes "endloop" ++ 10 ∷ codes "endfacet"; facets = _; rest = third (loop_ends (facet_ends left_open)) }
completion (LoopEnds t) = record { more = codes "endloop" ++ 10 ∷ codes "endfacet"; facets = _; rest = loop_ends (facet_ends left_open) }
completion (FacetEnds t) = record { more = codes "endfacet"; facets = _; rest = facet_ends left_open }

pub begins_from_run : (ls : List Line) (s : Stand) → run (Some start) ls ≡ Some s → Begins ls
begins_from_run ls s h =
    let c = completion s.state in
    let m = made Outside [] s ls (read_lines c.more) c.facets h c.rest in
    record { more = c.more; facets = m.new ++ c.facets; whole = outside_from m.rest }
