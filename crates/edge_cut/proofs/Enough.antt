-- The stops of an edge by some edges that are enough.
use Rattle.std.proofs.Common.{◌≡◌, Bool, true, false, cond, List, [], ◌∷◌, inl, inr, ◌⊎◌, refl, sym, ap, ◌∙◌, subst}
use Rattle.std.specs.List.{AllByRecursion, Contains}
use Rattle.std.proofs.lemmas.List.Elements.{recursion_from_All, All-from_recursion}
use Rattle.slice_base.specs.declared.points.Pt.{Pt}
use Rattle.slice_base.specs.declared.points.Edge.{Edge}
use Rattle.slice_base.specs.Plane.{same_point}
use Rattle.edge_cut.specs.declared.stops.Stop.{Stop}
use Rattle.edge_cut.specs.declared.passes.Marked.{Marked}
use Rattle.edge_cut.specs.Meeting.{meeting_of}
use Rattle.edge_cut.specs.Stops.{stop_at, is_before, with_stop, stops_of}
use Rattle.edge_cut.specs.Ordered.{IsEnd, IsStopPoint, IsStop, MeetsAtEnds, IsEnough}
use Rattle.edge_cut.proofs.Ordered.{In, in-contained, contains-in, stops_of-rising, stops_of-only}
use Rattle.edge_cut.proofs.Reached.{stops_of-all}
use Rattle.edge_cut.proofs.OneList.{stops_of-one}

-- the edge meets e at e's ends alone
abbrev pub MeetsInEnds : Edge → Marked → Type 0
MeetsInEnds e m = (p : Pt) → In p (meeting_of e m.edge) → IsEnd e p

due-wider : (e : Edge) (ns all : List Marked) (p : Pt) → ((m : Marked) → In m ns → In m all) → IsStopPoint e ns p → IsStopPoint e all p
due-wider e ns all p within (inl h) = inl h
due-wider e ns all p within (inr h) = inr (record { met = h.met; listed = contains-in h.met all (within h.met (in-contained h.met ns h.listed)); meets = h.meets })

each-wider : (e : Edge) (ns all : List Marked) (ss : List Stop) → ((m : Marked) → In m ns → In m all) → AllByRecursion (IsStop e ns) ss → AllByRecursion (IsStop e all) ss
each-wider e ns all [] within h = tt
each-wider e ns all (s ∷ ss) within h = (record { placed = h.0.placed; due = due-wider e ns all s.at within h.0.due }, each-wider e ns all ss within h.1)

reached-by : (e : Edge) (ns all : List Marked) (p : Pt) (m : Marked) → In p (meeting_of e m.edge) → In m ns ⊎ MeetsInEnds e m → IsStopPoint e ns p
reached-by e ns all p m meets (inl there) = inr (record { met = m; listed = contains-in m ns there; meets = contains-in p (meeting_of e m.edge) meets })
reached-by e ns all p m meets (inr ends) = inl (ends p meets)

due-narrower : (e : Edge) (ns all : List Marked) (p : Pt) → ((m : Marked) → In m all → In m ns ⊎ MeetsInEnds e m) → IsStopPoint e all p → IsStopPoint e ns p
due-narrower e ns all p told (inl h) = inl h
due-narrower e ns all p told (inr h) = reached-by e ns all p h.met (in-contained p (meeting_of e h.met.edge) h.meets) (told h.met (in-contained h.met all h.listed))

-- some edges, in any order and any number of times, give the stops that all give, where all others meet e at its ends alone
pub stops_of-candidates : (e : Edge) (ns all : List Marked) → ((m : Marked) → In m ns → In m all) → ((m : Marked) → In m all → In m ns ⊎ MeetsInEnds e m) → stops_of e ns ≡ stops_of e all
stops_of-candidates e ns all within told =
    stops_of-one e all (stops_of e ns) (record {
      rising = stops_of-rising e ns;
      only = All-from_recursion (IsStop e all) (stops_of e ns) (each-wider e ns all (stops_of e ns) within (recursion_from_All (IsStop e ns) (stops_of e ns) (stops_of-only e ns)));
      reached = λ p h. stops_of-all e ns p (due-narrower e ns all p told h);
    })

by-cond : (P : Type 0) (x : Stop) (b : Bool) (ss ts : List Stop) → In x (cond b ss ts) → (In x ss → P) → (In x ts → P) → P
by-cond P x true ss ts h f g = f h
by-cond P x false ss ts h f g = g h

same-at : (e : Edge) (p q : Pt) → stop_at e q ≡ stop_at e p → p ≡ q
same-at e p q h = sym (ap (λ (s : Stop). s.at) h)

one-of : (e : Edge) (p : Pt) (q : Pt) → IsEnd e q → In (stop_at e p) (stop_at e q ∷ []) → IsEnd e p
one-of e p q (inl is) (inl h) = inl (same-at e p q h ∙ is)
one-of e p q (inr is) (inl h) = inr (same-at e p q h ∙ is)
one-of e p q end (inr h) = elim h [ ]

two-of : (e : Edge) (p q r : Pt) → IsEnd e q → IsEnd e r → In (stop_at e p) (stop_at e q ∷ stop_at e r ∷ []) → IsEnd e p
two-of e p q r (inl is) end (inl h) = inl (same-at e p q h ∙ is)
two-of e p q r (inr is) end (inl h) = inr (same-at e p q h ∙ is)
two-of e p q r first end (inr h) = one-of e p r end h

in-ends : (e : Edge) (p : Pt) → In (stop_at e p) (with_stop (stop_at e e.to) (stop_at e e.from ∷ [])) → IsEnd e p
in-ends e p h =
    by-cond (IsEnd e p) (stop_at e p) (is_before (stop_at e e.from) (stop_at e e.to)) (stop_at e e.from ∷ stop_at e e.to ∷ []) (cond (same_point e.to e.from) (stop_at e e.from ∷ []) (stop_at e e.to ∷ stop_at e e.from ∷ [])) h
    (λ g. two-of e p e.from e.to (inl refl) (inr refl) g)
    (λ g. by-cond (IsEnd e p) (stop_at e p) (same_point e.to e.from) (stop_at e e.from ∷ []) (stop_at e e.to ∷ stop_at e e.from ∷ []) g
    (λ k. one-of e p e.from (inl refl) k)
    (λ k. two-of e p e.to e.from (inr refl) (inl refl) k))

-- an edge that was left whole meets the edges of its list at its own ends alone
pub whole-meets-ends : (e : Edge) (all : List Marked) (f : Marked) → In f all → stops_of e all ≡ with_stop (stop_at e e.to) (stop_at e e.from ∷ []) → MeetsInEnds e f
whole-meets-ends e all f there whole p meets =
    let c = stops_of-all e all p (inr (record { met = f; listed = contains-in f all there; meets = contains-in p (meeting_of e f.edge) meets })) in
    in-ends e p (subst (λ (ss : List Stop). In (stop_at e p) ss) whole (in-contained (stop_at e p) (stops_of e all) c))

told-in : (e : Edge) (ns : List Marked) (m : Marked) → Contains ns m ⊎ MeetsAtEnds e m → In m ns ⊎ MeetsInEnds e m
told-in e ns m (inl there) = inl (in-contained m ns there)
told-in e ns m (inr ends) = inr (λ p meets. ends p (contains-in p (meeting_of e m.edge) meets))

-- enough edges, in any order and any number of times, give the stops that all give
pub stops_of-enough : (e : Edge) (ns all : List Marked) → ((m : Marked) → Contains ns m → Contains all m) → IsEnough e ns all → stops_of e ns ≡ stops_of e all
stops_of-enough e ns all within enough =
    stops_of-candidates e ns all (λ m there. in-contained m all (within m (contains-in m ns there))) (λ m there. told-in e ns m (enough m (contains-in m all there)))

pub whole-meets : (e : Edge) (all : List Marked) (f : Marked) → Contains all f → stops_of e all ≡ with_stop (stop_at e e.to) (stop_at e e.from ∷ []) → MeetsAtEnds e f
whole-meets e all f there whole p meets = whole-meets-ends e all f (in-contained f all there) whole p (in-contained p (meeting_of e f.edge) meets)
