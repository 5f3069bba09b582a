-- Kept edges put in the slots of their bundles.
use Rattle.std.proofs.Common.{◌≡◌, ◌≢◌, ◌<◌, ◌+◌, ℕ, zero, suc, List, length, get_or, set, inl, inr, ◌⊎◌, Option, None, arith, refl, sym, ap, ◌∙◌, subst}
use Rattle.std.specs.Prelude.{option_to_list}
use Rattle.std.proofs.lemmas.List.{get_or-set_same, get_or-set_other}
use Rattle.slice_base.specs.declared.points.Edge.{Edge}
use Rattle.edge_cut.specs.declared.passes.Marked.{Marked}
use Rattle.clip_core.specs.declared.bundles.Bundle.{Bundle}
use Rattle.clip_core.specs.declared.keeping.Operation.{Operation}
use Rattle.clip_core.specs.declared.rays.Ray.{Ray}
use Rattle.clip_core.specs.Keeping.{kept_edge_of}
use Rattle.clip_core.specs.Inner.Rays.{nowhere, IsTold, HaveRays}
use Rattle.clip_core.specs.Inner.Indexed.{IsEdgeAt, AreEdgesOf}

pub same-or-not : (m n : ℕ) → (m ≡ n) ⊎ (m ≢ n)
same-or-not zero zero = inl refl
same-or-not zero (suc n) = inr (λ e. omega arith)
same-or-not (suc m) zero = inr (λ e. omega arith)
same-or-not (suc m) (suc n) = one-up (same-or-not m n)
  where
    one-up : (m ≡ n) ⊎ (m ≢ n) → (suc m ≡ suc n) ⊎ (suc m ≢ suc n)
    one-up (inl e) = inl (ap suc e)
    one-up (inr f) = inr (λ e. f (omega arith))

below-or-last : (k i : ℕ) → k < i + 1 → (k < i) ⊎ (k ≡ i)
below-or-last k zero lt = inr (omega arith)
below-or-last zero (suc i) lt = inl (omega arith)
below-or-last (suc k) (suc i) lt = one-up (below-or-last k i (omega arith))
  where
    one-up : (k < i) ⊎ (k ≡ i) → (suc k < suc i) ⊎ (suc k ≡ suc i)
    one-up (inl h) = inl (omega arith)
    one-up (inr h) = inr (ap suc h)

-- what stands in a slot after an edge was put
at-index : (operation : Operation) (all : List Marked) (bundles : List Bundle) (slots : List (Option Edge)) (r : Ray) (new : Option Edge) (p : ℕ) → IsTold all bundles r → length slots ≡ length bundles → option_to_list new ≡ kept_edge_of operation all r.bundle → (p ≡ r.index) ⊎ (p ≢ r.index) → (p ≢ r.index → IsEdgeAt operation all bundles slots p) → IsEdgeAt operation all bundles (set slots r.index new) p
at-index operation all bundles slots r new p told len is (inl same) old =
    let below : r.index < length slots = let h = told.of_bundle.within in omega arith in
    ap (λ (q : ℕ). option_to_list (get_or (set slots r.index new) q None)) same
    ∙ (ap (λ (o : Option Edge). option_to_list o) (get_or-set_same slots r.index new None below)
    ∙ (is
    ∙ (ap (λ (b : Bundle). kept_edge_of operation all b) told.of_bundle.is
    ∙ ap (λ (q : ℕ). kept_edge_of operation all (get_or bundles q nowhere)) (sym same))))
at-index operation all bundles slots r new p told len is (inr other) old =
    ap (λ (o : Option Edge). option_to_list o) (get_or-set_other slots r.index p new None other) ∙ old other

-- one ray more
pub put-edge : (operation : Operation) (all : List Marked) (bundles : List Bundle) (slots : List (Option Edge)) (rays : List Ray) (i : ℕ) (r : Ray) (new : Option Edge) → IsTold all bundles r → ((d : Ray) → get_or rays i d ≡ r) → length slots ≡ length bundles → option_to_list new ≡ kept_edge_of operation all r.bundle → ((j : ℕ) (d : Ray) → j < i → IsEdgeAt operation all bundles slots (get_or rays j d).index) → (j : ℕ) (d : Ray) → j < i + 1 → IsEdgeAt operation all bundles (set slots r.index new) (get_or rays j d).index
put-edge operation all bundles slots rays i r new told at len is so_far j d lt =
    at-index operation all bundles slots r new (get_or rays j d).index told len is (same-or-not (get_or rays j d).index r.index) (pick (below-or-last j i lt))
  where
    pick : (j < i) ⊎ (j ≡ i) → (get_or rays j d).index ≢ r.index → IsEdgeAt operation all bundles slots (get_or rays j d).index
    pick (inl h) other = so_far j d h
    pick (inr h) other = absurd (other (ap (λ (k : ℕ). (get_or rays k d).index) h ∙ ap (λ (q : Ray). q.index) (at d)))

-- each slot has its edge, once each ray is put
pub each-placed : (operation : Operation) (all : List Marked) (bundles : List Bundle) (slots : List (Option Edge)) (rays : List Ray) → HaveRays bundles rays → AreEdgesOf operation all bundles slots rays → (k : ℕ) (d : Ray) → k < length bundles → IsEdgeAt operation all bundles slots k
each-placed operation all bundles slots rays each are k d below =
    let h = each k d below in
    subst (λ (p : ℕ). IsEdgeAt operation all bundles slots p) h.2 (are h.0 d h.1)
