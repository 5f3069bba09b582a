-- The stops gathered from all edges, or from the meetings of an edge.
use Rattle.std.proofs.Common.{◌≡◌, ◌≢◌, ◌≤◌, ◌<◌, ◌+◌, ◌-◌, ℕ, zero, suc, List, [], ◌∷◌, ◌++◌, length, get_or, take, drop, map, inl, inr, ◌⊎◌, arith, refl, sym, ap, ◌∙◌, subst, append_assoc, drop-cons, length-drop}
use Rattle.std.specs.List.{All, AllByRecursion, Contains}
use Rattle.std.proofs.lemmas.List.Elements.{All-from_recursion}
use Rattle.std.proofs.lemmas.List.{get_or-take, get_or-drop, length-take, drop_all}
use Rattle.slice_base.specs.declared.points.Pt.{Pt}
use Rattle.slice_base.specs.declared.points.Edge.{Edge}
use Rattle.edge_cut.specs.declared.stops.Stop.{Stop}
use Rattle.edge_cut.specs.declared.passes.Marked.{Marked}
use Rattle.edge_cut.specs.declared.meetings.Meeting.{Meeting}
use Rattle.edge_cut.specs.Meeting.{meeting_of}
use Rattle.edge_cut.specs.Stops.{stop_at, stops_of}
use Rattle.edge_cut.specs.Ordered.{IsRising, IsEnd, MeetsAt, IsStopPoint, IsStop, MeetsAtEnds}
use Rattle.edge_cut.specs.Inner.Indices.{nothing}
use Rattle.edge_cut.specs.Inner.Meetings.{meeting_at, AreListed, AreMeetings, ByIndex, IndexFrom, IsGroup, TellAll}
use Rattle.edge_cut.specs.Inner.Gathered.{meeting_stops, gathered, gathered_at}
use Rattle.edge_cut.proofs.Ordered.{In, in-contained, contains-in}
use Rattle.edge_cut.proofs.OneList.{stops_of-one}
use Rattle.edge_cut.proofs.Compared.{any-default}
use Rattle.edge_cut.proofs.Reached.{meeting_of-itself}

-- one edge more
pub gather-step : (e : Edge) (all : List Marked) (k : ℕ) (old new whole : List Stop) → k < length all → new ≡ old ++ map (stop_at e) (meeting_of e (get_or all k nothing).edge) → old ++ meeting_stops e (drop k all) ≡ whole → new ++ meeting_stops e (drop (k + 1) all) ≡ whole
gather-step e all k old new whole below adds so_far =
    let here = map (stop_at e) (meeting_of e (get_or all k nothing).edge) in
    let rest = meeting_stops e (drop (suc k) all) in
    let next : k + 1 ≡ suc k = omega arith in
    ap (λ (n : ℕ). new ++ meeting_stops e (drop n all)) next
    ∙ (ap (λ (ss : List Stop). ss ++ rest) adds
    ∙ (append_assoc old here rest
    ∙ (ap (λ (ns : List Marked). old ++ meeting_stops e ns) (sym (drop-cons all k nothing below)) ∙ so_far)))

append-none : (ss : List Stop) → ss ++ [] ≡ ss
append-none [] = refl
append-none (s ∷ ss) = ap (λ (ts : List Stop). s ∷ ts) (append-none ss)

-- after the last edge
pub gather-end : (e : Edge) (all : List Marked) (k : ℕ) (ss whole : List Stop) → length all ≤ k → ss ++ meeting_stops e (drop k all) ≡ whole → ss ≡ whole
gather-end e all k ss whole over so_far =
    sym (append-none ss) ∙ (ap (λ (ns : List Marked). ss ++ meeting_stops e ns) (sym (drop_all k all over)) ∙ so_far)

-- what is gathered

in-left : {X : Type 0} (x : X) (xs ys : List X) → In x xs → In x (xs ++ ys)
in-left x [] ys h = elim h [ ]
in-left x (z ∷ xs) ys (inl is) = inl is
in-left x (z ∷ xs) ys (inr h) = inr (in-left x xs ys h)

pub in-right : {X : Type 0} (x : X) (xs ys : List X) → In x ys → In x (xs ++ ys)
in-right x [] ys h = h
in-right x (z ∷ xs) ys h = inr (in-right x xs ys h)

one-later : {X : Type 0} (x z : X) (xs ys : List X) → In x xs ⊎ In x ys → In x (z ∷ xs) ⊎ In x ys
one-later x z xs ys (inl there) = inl (inr there)
one-later x z xs ys (inr there) = inr there

pub in-either : {X : Type 0} (x : X) (xs ys : List X) → In x (xs ++ ys) → In x xs ⊎ In x ys
in-either x [] ys h = inr h
in-either x (z ∷ xs) ys (inl is) = inl (inl is)
in-either x (z ∷ xs) ys (inr h) = one-later x z xs ys (in-either x xs ys h)

in-stops : (e : Edge) (p : Pt) (ps : List Pt) → In p ps → In (stop_at e p) (map (stop_at e) ps)
in-stops e p [] h = elim h [ ]
in-stops e p (q ∷ ps) (inl is) = inl (ap (λ (r : Pt). stop_at e r) is)
in-stops e p (q ∷ ps) (inr h) = inr (in-stops e p ps h)

in-meeting_stops : (e : Edge) (p : Pt) (m : Marked) (ms : List Marked) → In m ms → In p (meeting_of e m.edge) → In (stop_at e p) (meeting_stops e ms)
in-meeting_stops e p m [] h meets = elim h [ ]
in-meeting_stops e p m (n ∷ ms) (inl is) meets =
    in-left (stop_at e p) (map (stop_at e) (meeting_of e n.edge)) (meeting_stops e ms)
    (in-stops e p (meeting_of e n.edge) (subst (λ (k : Marked). In p (meeting_of e k.edge)) (sym is) meets))
in-meeting_stops e p m (n ∷ ms) (inr h) meets =
    in-right (stop_at e p) (map (stop_at e) (meeting_of e n.edge)) (meeting_stops e ms) (in-meeting_stops e p m ms h meets)

in-gathered : (e : Edge) (ms : List Marked) (p : Pt) → IsStopPoint e ms p → In (stop_at e p) (gathered e ms)
in-gathered e ms p (inl (inl is)) = inl (ap (λ (q : Pt). stop_at e q) (sym is))
in-gathered e ms p (inl (inr is)) = inr (inl (ap (λ (q : Pt). stop_at e q) (sym is)))
in-gathered e ms p (inr h) = inr (inr (in-meeting_stops e p h.met ms (in-contained h.met ms h.listed) (in-contained p (meeting_of e h.met.edge) h.meets)))

-- a stop of e at one of these points
pub record IsAtOne (e : Edge) (ps : List Pt) (s : Stop) : Type 0 where
  pub at : Pt
  pub listed : In at ps
  pub is : s ≡ stop_at e at

at_one : (e : Edge) (s : Stop) (ps : List Pt) → In s (map (stop_at e) ps) → IsAtOne e ps s
at_one e s [] h = elim h [ ]
at_one e s (p ∷ ps) (inl is) = record { at = p; listed = inl refl; is = sym is }
at_one e s (p ∷ ps) (inr h) = let r = at_one e s ps h in record { at = r.at; listed = inr r.listed; is = r.is }

placed : (e : Edge) (ms : List Marked) (p : Pt) (s : Stop) → IsStopPoint e ms p → s ≡ stop_at e p → IsStop e ms s
placed e ms p s due is = subst (λ (t : Stop). IsStop e ms t) (sym is) (record { placed = refl; due = due })

met-here : (e : Edge) (whole : List Marked) (s : Stop) (m : Marked) → In m whole → In s (map (stop_at e) (meeting_of e m.edge)) → IsStop e whole s
met-here e whole s m there h =
    let r = at_one e s (meeting_of e m.edge) h in
    placed e whole r.at s (inr (record { met = m; listed = contains-in m whole there; meets = contains-in r.at (meeting_of e m.edge) r.listed })) r.is

one-or : (P : Type 0) (A B : Type 0) → (A → P) → (B → P) → A ⊎ B → P
one-or P A B f g (inl h) = f h
one-or P A B f g (inr h) = g h

met-at : (e : Edge) (whole : List Marked) (s : Stop) (ms : List Marked) → ((m : Marked) → In m ms → In m whole) → In s (meeting_stops e ms) → IsStop e whole s
met-at e whole s [] within h = elim h [ ]
met-at e whole s (m ∷ ms) within h =
    one-or (IsStop e whole s) (In s (map (stop_at e) (meeting_of e m.edge))) (In s (meeting_stops e ms))
    (λ there. met-here e whole s m (within m (inl refl)) there)
    (λ there. met-at e whole s ms (λ n in'. within n (inr in')) there)
    (in-either s (map (stop_at e) (meeting_of e m.edge)) (meeting_stops e ms) h)

is-gathered : (e : Edge) (ms : List Marked) (s : Stop) → In s (gathered e ms) → IsStop e ms s
is-gathered e ms s (inl is) = placed e ms e.from s (inl (inl refl)) (sym is)
is-gathered e ms s (inr (inl is)) = placed e ms e.to s (inl (inr refl)) (sym is)
is-gathered e ms s (inr (inr h)) = met-at e ms s ms (λ n in'. in') h

each-of : (P : Stop → Type 0) (ss : List Stop) → ((s : Stop) → In s ss → P s) → AllByRecursion P ss
each-of P [] f = tt
each-of P (s ∷ ss) f = (f s (inl refl), each-of P ss (λ t h. f t (inr h)))

each : (P : Stop → Type 0) (ss : List Stop) → ((s : Stop) → In s ss → P s) → All P ss
each P ss f = All-from_recursion P ss (each-of P ss f)

-- rising stops with the members of what was gathered are the stops of e
pub ordered-are : (e : Edge) (ms : List Marked) (ss : List Stop) → IsRising ss → ((s : Stop) → Contains (gathered e ms) s → Contains ss s) → ((s : Stop) → Contains ss s → Contains (gathered e ms) s) → ss ≡ stops_of e ms
ordered-are e ms ss rising kept only = stops_of-one e ms ss (record {
  rising = rising;
  only = each (IsStop e ms) ss (λ s h. is-gathered e ms s (in-contained s (gathered e ms) (only s (contains-in s ss h))));
  reached = λ p due. kept (stop_at e p) (contains-in (stop_at e p) (gathered e ms) (in-gathered e ms p due));
})

-- the stops of e by all edges
pub stops-by : (e : Edge) (all : List Marked) (found ss : List Stop) → found ≡ gathered e all → IsRising ss → ((s : Stop) → Contains found s → Contains ss s) → ((s : Stop) → Contains ss s → Contains found s) → ss ≡ stops_of e all
stops-by e all found ss is rising kept only =
    ordered-are e all ss rising
    (λ s h. kept s (subst (λ (ts : List Stop). Contains ts s) (sym is) h))
    (λ s h. subst (λ (ts : List Stop). Contains ts s) is (only s h))

-- the stops of e by its meetings

in-met : (e : Edge) (some : List Meeting) (m : Meeting) → In m some → In (stop_at e m.at) (map (λ (k : Meeting). stop_at e k.at) some)
in-met e [] m h = elim h [ ]
in-met e (n ∷ ns) m (inl is) = inl (ap (λ (k : Meeting). stop_at e k.at) is)
in-met e (n ∷ ns) m (inr h) = inr (in-met e ns m h)

in-gathered_at : (e : Edge) (some : List Meeting) (index : ℕ) (p : Pt) → Contains some (meeting_at index p) ⊎ IsEnd e p → In (stop_at e p) (gathered_at e some)
in-gathered_at e some index p (inl h) = inr (inr (in-met e some (meeting_at index p) (in-contained (meeting_at index p) some h)))
in-gathered_at e some index p (inr (inl is)) = inl (ap (λ (q : Pt). stop_at e q) (sym is))
in-gathered_at e some index p (inr (inr is)) = inr (inl (ap (λ (q : Pt). stop_at e q) (sym is)))

is-met : (e : Edge) (all : List Marked) (s : Stop) (some : List Meeting) → ((m : Meeting) → In m some → MeetsAt e all m.at) → In s (map (λ (k : Meeting). stop_at e k.at) some) → IsStop e all s
is-met e all s [] f h = elim h [ ]
is-met e all s (m ∷ ms) f (inl is) = placed e all m.at s (inr (f m (inl refl))) (sym is)
is-met e all s (m ∷ ms) f (inr h) = is-met e all s ms (λ n in'. f n (inr in')) h

is-gathered_at : (e : Edge) (all : List Marked) (some : List Meeting) (s : Stop) → ((m : Meeting) → In m some → MeetsAt e all m.at) → In s (gathered_at e some) → IsStop e all s
is-gathered_at e all some s f (inl is) = placed e all e.from s (inl (inl refl)) (sym is)
is-gathered_at e all some s f (inr (inl is)) = placed e all e.to s (inl (inr refl)) (sym is)
is-gathered_at e all some s f (inr (inr h)) = is-met e all s some f h

due-at : (e : Edge) (all : List Marked) (index : ℕ) (some : List Meeting) (p : Pt) → TellAll e all index some → IsStopPoint e all p → Contains some (meeting_at index p) ⊎ IsEnd e p
due-at e all index some p told (inl end) = inr end
due-at e all index some p told (inr met) = told.each p met

pub stops-told : (e : Edge) (all : List Marked) (index : ℕ) (some : List Meeting) (found ss : List Stop) → TellAll e all index some → found ≡ gathered_at e some → IsRising ss → ((s : Stop) → Contains found s → Contains ss s) → ((s : Stop) → Contains ss s → Contains found s) → ss ≡ stops_of e all
stops-told e all index some found ss told is rising kept only = stops_of-one e all ss (record {
  rising = rising;
  only = each (IsStop e all) ss (λ s h. is-gathered_at e all some s (λ m in'. told.only m (contains-in m some in'))
      (in-contained s (gathered_at e some) (subst (λ (ts : List Stop). Contains ts s) is (only s (contains-in s ss h)))));
  reached = λ p due. kept (stop_at e p) (subst (λ (ts : List Stop). Contains ts (stop_at e p)) (sym is)
      (contains-in (stop_at e p) (gathered_at e some) (in-gathered_at e some index p (due-at e all index some p told due))));
})

-- an edge and the others

meets-itself : (m : Marked) → MeetsAtEnds m.edge m
meets-itself m p h = each-in (meeting_of m.edge m.edge) (meeting_of-itself m.edge) p (in-contained p (meeting_of m.edge m.edge) h)
  where
    each-in : (ps : List Pt) → AllByRecursion (IsEnd m.edge) ps → (p : Pt) → In p ps → IsEnd m.edge p
    each-in [] all p h = elim h [ ]
    each-in (q ∷ qs) all p (inl is) = subst (λ (r : Pt). IsEnd m.edge r) is all.0
    each-in (q ∷ qs) all p (inr h) = each-in qs all.1 p h

same-or-not : (m n : ℕ) → (m ≡ n) ⊎ (m ≢ n)
same-or-not zero zero = inl refl
same-or-not zero (suc n) = inr (λ e. omega arith)
same-or-not (suc m) zero = inr (λ e. omega arith)
same-or-not (suc m) (suc n) = one-up (same-or-not m n)
  where
    one-up : (m ≡ n) ⊎ (m ≢ n) → (suc m ≡ suc n) ⊎ (suc m ≢ suc n)
    one-up (inl e) = inl (ap suc e)
    one-up (inr f) = inr (λ e. f (omega arith))

in-group : (meetings some : List Meeting) (index : ℕ) (e : Edge) (p : Pt) → IsGroup meetings some index → Contains meetings (meeting_at index p) ⊎ IsEnd e p → Contains some (meeting_at index p) ⊎ IsEnd e p
in-group meetings some index e p group (inl h) = inl (group.each (meeting_at index p) h refl)
in-group meetings some index e p group (inr end) = inr end

by-index : (all : List Marked) (meetings : List Meeting) (index j : ℕ) (m : Marked) (p : Pt) → index < length all → j < length all → AreListed all meetings → get_or all j nothing ≡ m → Contains (meeting_of (get_or all index nothing).edge m.edge) p → (index ≡ j) ⊎ (index ≢ j) → Contains meetings (meeting_at index p) ⊎ IsEnd (get_or all index nothing).edge p
by-index all meetings index j m p pin jin listed at meets (inl same) =
    let is : m ≡ get_or all index nothing = sym (ap (λ (k : ℕ). get_or all k nothing) same ∙ at) in
    let e = (get_or all index nothing).edge in
    inr (meets-itself (get_or all index nothing) p (subst (λ (n : Marked). Contains (meeting_of e n.edge) p) is meets))
by-index all meetings index j m p pin jin listed at meets (inr other) =
    let e = (get_or all index nothing).edge in
    listed index j pin jin other p (subst (λ (n : Marked). Contains (meeting_of e n.edge) p) (sym at) meets)

met-own : (all : List Marked) (i j : ℕ) (p : Pt) → i ≡ j → MeetsAt (get_or all i nothing).edge all p → MeetsAt (get_or all j nothing).edge all p
met-own all i j p same h = subst (λ (k : ℕ). MeetsAt (get_or all k nothing).edge all p) same h

-- the meetings of an edge tell all of its stops
pub group-tells : (all : List Marked) (meetings some : List Meeting) (index : ℕ) → index < length all → AreListed all meetings → AreMeetings all meetings → IsGroup meetings some index → TellAll (get_or all index nothing).edge all index some
group-tells all meetings some index pin listed are group = record {
  each = λ p h. in-group meetings some index (get_or all index nothing).edge p group
      (by-index all meetings index h.listed.0 h.met p pin h.listed.1 listed (any-default all h.listed.0 nothing h.met h.listed.1 ∙ h.listed.2) h.meets (same-or-not index h.listed.0));
  only = λ m h. let own = group.only m h in met-own all m.index index m.at own.1 (are m own.0);
}

-- the meetings of an edge stand together

below-or-not : (k i : ℕ) → (k < i) ⊎ (i ≤ k)
below-or-not k zero = inr (omega arith)
below-or-not zero (suc i) = inl (omega arith)
below-or-not (suc k) (suc i) = one-up (below-or-not k i)
  where
    one-up : (k < i) ⊎ (i ≤ k) → (suc k < suc i) ⊎ (suc i ≤ suc k)
    one-up (inl h) = inl (omega arith)
    one-up (inr h) = inr (omega arith)

-- where a part of a list has an item of the whole
in-part : (ms : List Meeting) (from end k : ℕ) (m : Meeting) → from ≤ k → k < end → end ≤ length ms → get_or ms k m ≡ m → Contains (take (end - from) (drop from ms)) m
in-part ms from end k m le lt within is =
    let i = k - from in
    let e : from + i ≡ k = omega arith in
    let len = length-drop from ms in
    let few = length-take (end - from) (drop from ms) in
    (i, omega arith, get_or-take (end - from) (drop from ms) i m (omega arith) ∙ (get_or-drop from ms i m ∙ (ap (λ (n : ℕ). get_or ms n m) e ∙ is)))

-- where the whole has an item of a part
pub record IsPart (ms : List Meeting) (from end : ℕ) (m : Meeting) : Type 0 where
  pub at : ℕ
  pub after : from ≤ at
  pub before : at < end
  pub within : at < length ms
  pub is : get_or ms at m ≡ m

of-part : (ms : List Meeting) (from end : ℕ) (m : Meeting) → from ≤ end → end ≤ length ms → Contains (take (end - from) (drop from ms)) m → IsPart ms from end m
of-part ms from end m later within h =
    let i = h.0 in
    let len = length-drop from ms in
    let few = length-take (end - from) (drop from ms) in
    let below : i < end - from = let g = h.1 in omega arith in
    record {
      at = from + i;
      after = omega arith;
      before = omega arith;
      within = omega arith;
      is = sym (get_or-drop from ms i m) ∙ (sym (get_or-take (end - from) (drop from ms) i m below) ∙ h.2);
    }

pub group-is : (ms : List Meeting) (from end index : ℕ) → from ≤ end → end ≤ length ms → IndexFrom ms from index → IndexFrom ms end (index + 1) → IsGroup ms (take (end - from) (drop from ms)) index
group-is ms from end index later within lower upper = record {
  each = λ m h is. pick m h is (below-or-not h.0 from) (below-or-not h.0 end);
  only = λ m h.
      let p = of-part ms from end m later within h in
      let g = lower.from p.at m p.after p.within in
      let k = upper.before p.at m p.before p.within in
      let own : (get_or ms p.at m).index ≡ m.index = ap (λ (n : Meeting). n.index) p.is in
      ((p.at, p.within, p.is), omega arith);
}
  where
    pick : (m : Meeting) → (h : Contains ms m) → m.index ≡ index → (h.0 < from) ⊎ (from ≤ h.0) → (h.0 < end) ⊎ (end ≤ h.0) → Contains (take (end - from) (drop from ms)) m
    pick m h is (inl early) other =
        let g = lower.before h.0 m early h.1 in
        let f : (get_or ms h.0 m).index ≡ index = ap (λ (n : Meeting). n.index) h.2 ∙ is in
        absurd (omega arith)
    pick m h is (inr late) (inr past) =
        let g = upper.from h.0 m past h.1 in
        let f : (get_or ms h.0 m).index ≡ index = ap (λ (n : Meeting). n.index) h.2 ∙ is in
        absurd (omega arith)
    pick m h is (inr late) (inl here) = in-part ms from end h.0 m late here within h.2

-- where a group ends

pub group-from : (ms : List Meeting) (from end index : ℕ) → IndexFrom ms from index → ByIndex ms → from ≤ end → ((j : ℕ) (d : Meeting) → from ≤ j → j < end → (get_or ms j d).index ≡ index) → ((d : Meeting) → end < length ms → (get_or ms end d).index ≢ index) → IndexFrom ms end (index + 1)
group-from ms from end index lower rising later same stops = record {
  before = λ j d lt below. before j d lt below (below-or-not j from);
  from = λ j d le below.
      let g = rising end j d le below in
      let h = lower.from end d later (omega arith) in
      let s = stops d (omega arith) in
      omega arith;
}
  where
    before : (j : ℕ) (d : Meeting) → j < end → j < length ms → (j < from) ⊎ (from ≤ j) → (get_or ms j d).index < index + 1
    before j d lt below (inl early) = let g = lower.before j d early below in omega arith
    before j d lt below (inr late) = let g = same j d late lt in omega arith
