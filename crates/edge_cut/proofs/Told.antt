-- Edges that a pass left whole needn't be compared in the next one.
use Rattle.std.proofs.Common.{◌≡◌, ◌<◌, ◌-◌, ℕ, zero, suc, Bool, true, false, not, ◌&&◌, List, [], ◌∷◌, ◌++◌, length, get_or, replicate, inl, inr, arith, refl, sym, ap, ◌∙◌, subst}
use Rattle.std.specs.List.{Contains}
use Rattle.std.proofs.lemmas.List.{length-replicate, get_or-replicate}
use Rattle.std.proofs.lemmas.Bool.{and_parts}
use Rattle.slice_base.specs.declared.points.Pt.{Pt}
use Rattle.slice_base.specs.declared.points.Edge.{Edge}
use Rattle.edge_cut.specs.declared.stops.Stop.{Stop}
use Rattle.edge_cut.specs.declared.passes.Marked.{Marked}
use Rattle.edge_cut.specs.declared.columns.Extent.{Extent}
use Rattle.edge_cut.specs.declared.meetings.Meeting.{Meeting}
use Rattle.edge_cut.specs.Stops.{stop_at, stops_of}
use Rattle.edge_cut.specs.Cut.{pieces_from, pieces_of}
use Rattle.edge_cut.specs.Ordered.{IsEnd}
use Rattle.edge_cut.specs.Inner.Indices.{nothing}
use Rattle.edge_cut.specs.Inner.Columns.{IsExtentOf}
use Rattle.edge_cut.specs.Inner.Meetings.{AreCompared}
use Rattle.edge_cut.specs.Inner.News.{AreEnds, IsWhole, AreTold, AreSettled}
use Rattle.edge_cut.proofs.Ordered.{In, in-contained}
use Rattle.edge_cut.proofs.Reached.{stops_of-all}

-- two stops at the ends

pub ends-are : (e : Edge) (stops : List Stop) (d : Stop) → length stops ≡ 2 → (get_or stops 0 d).at ≡ e.from → (get_or stops 1 d).at ≡ e.to → AreEnds e stops
ends-are e [] d two from to = absurd (omega arith)
ends-are e (s ∷ []) d two from to = absurd (omega arith)
ends-are e (s ∷ t ∷ []) d two from to = (from, to)
ends-are e (s ∷ t ∷ u ∷ us) d two from to = absurd (omega arith)

end-of : (e : Edge) (p : Pt) (stops : List Stop) → AreEnds e stops → In (stop_at e p) stops → IsEnd e p
end-of e p [] ends h = elim ends [ ]
end-of e p (s ∷ []) ends h = elim ends [ ]
end-of e p (s ∷ t ∷ []) ends (inl is) = inl (sym (ap (λ (u : Stop). u.at) is) ∙ ends.0)
end-of e p (s ∷ t ∷ []) ends (inr (inl is)) = inr (sym (ap (λ (u : Stop). u.at) is) ∙ ends.1)
end-of e p (s ∷ t ∷ []) ends (inr (inr h)) = elim h [ ]
end-of e p (s ∷ t ∷ u ∷ us) ends h = elim ends [ ]

-- an edge whose stops are its ends
left-whole : (all : List Marked) (m : Marked) (stops : List Stop) → Contains all m → stops ≡ stops_of m.edge all → AreEnds m.edge stops → IsWhole all m
left-whole all m stops there is ends = record {
  listed = there;
  at_ends = λ f listed p meets.
      let c = stops_of-all m.edge all p (inr (record { met = f; listed = listed; meets = meets })) in
      end-of m.edge p stops ends (in-contained (stop_at m.edge p) stops (subst (λ (ss : List Stop). Contains ss (stop_at m.edge p)) (sym is) c));
}

-- what is told of the pieces of an edge

told-whole : (all : List Marked) (m : Marked) (stops : List Stop) → AreEnds m.edge stops → IsWhole all m → AreTold all (pieces_of m.second stops) (replicate (length stops - 1) false)
told-whole all m [] ends whole = elim ends [ ]
told-whole all m (s ∷ []) ends whole = elim ends [ ]
told-whole all m (s ∷ t ∷ []) ends whole =
    let from = sym ends.0 in
    let to = sym ends.1 in
    let same : m ≡ record { edge = record { from = s.at; to = t.at }; second = m.second } = λ i. record { edge = record { from = from i; to = to i }; second = m.second } in
    (λ _. subst (λ (n : Marked). IsWhole all n) same whole, tt)
told-whole all m (s ∷ t ∷ u ∷ us) ends whole = elim ends [ ]

told-from : (all : List Marked) (second : Bool) (p : Pt) (ss : List Stop) → AreTold all (pieces_from second p ss) (replicate (length ss) true)
told-from all second p [] = tt
told-from all second p (s ∷ ss) = (λ h. absurd (cc), told-from all second s.at ss)

told-new : (all : List Marked) (second : Bool) (stops : List Stop) → AreTold all (pieces_of second stops) (replicate (length stops - 1) true)
told-new all second [] = tt
told-new all second (s ∷ ss) =
    let e : length ss ≡ length (s ∷ ss) - 1 = omega arith in
    subst (λ (n : ℕ). AreTold all (pieces_from second s.at ss) (replicate n true)) e (told-from all second s.at ss)

told-pieces : (all : List Marked) (m : Marked) (stops : List Stop) (whole : Bool) → Contains all m → stops ≡ stops_of m.edge all → (whole ≡ true → AreEnds m.edge stops) → AreTold all (pieces_of m.second stops) (replicate (length stops - 1) (not whole))
told-pieces all m stops true there is ends = told-whole all m stops (ends refl) (left-whole all m stops there is (ends refl))
told-pieces all m stops false there is ends = told-new all m.second stops

told-append : (all ms ns : List Marked) (bs cs : List Bool) → AreTold all ms bs → AreTold all ns cs → AreTold all (ms ++ ns) (bs ++ cs)
told-append all [] ns [] cs g h = h
told-append all [] ns (b ∷ bs) cs g h = elim g [ ]
told-append all (m ∷ ms) ns [] cs g h = elim g [ ]
told-append all (m ∷ ms) ns (b ∷ bs) cs g h = (g.0, told-append all ms ns bs cs g.1 h)

-- with the pieces of one edge more
pub told-more : (all old new : List Marked) (bs cs : List Bool) (m : Marked) (stops : List Stop) (whole : Bool) (n : ℕ) → n ≡ length stops - 1 → (whole ≡ true → AreEnds m.edge stops) → new ≡ old ++ pieces_of m.second stops → cs ≡ bs ++ replicate n (not whole) → Contains all m → stops ≡ stops_of m.edge all → AreTold all old bs → AreTold all new cs
told-more all old new bs cs m stops whole n count ends adds tells there is told =
    subst (λ (ms : List Marked). AreTold all ms cs) (sym adds)
    (subst (λ (ds : List Bool). AreTold all (old ++ pieces_of m.second stops) ds) (sym tells)
    (subst (λ (k : ℕ). AreTold all (old ++ pieces_of m.second stops) (bs ++ replicate k (not whole))) (sym count)
    (told-append all old (pieces_of m.second stops) bs (replicate (length stops - 1) (not whole)) told (told-pieces all m stops whole there is ends))))

-- what was told settles the next pass

told-count : (all ms : List Marked) (bs : List Bool) → AreTold all ms bs → length bs ≡ length ms
told-count all [] [] h = refl
told-count all [] (b ∷ bs) h = elim h [ ]
told-count all (m ∷ ms) [] h = elim h [ ]
told-count all (m ∷ ms) (b ∷ bs) h = ap suc (told-count all ms bs h.1)

told-at : (all ms : List Marked) (bs : List Bool) (k : ℕ) → AreTold all ms bs → k < length ms → get_or bs k false ≡ false → IsWhole all (get_or ms k nothing)
told-at all [] bs k h below old = absurd (omega arith)
told-at all (m ∷ ms) [] k h below old = elim h [ ]
told-at all (m ∷ ms) (b ∷ bs) zero h below old = h.0 old
told-at all (m ∷ ms) (b ∷ bs) (suc k) h below old = told-at all ms bs k h.1 (omega arith) old

pub told-settled : (all ms : List Marked) (bs : List Bool) → AreTold all ms bs → AreSettled ms bs
told-settled all ms bs h = record {
  count = told-count all ms bs h;
  at_ends = λ i j iin jin iold jold. (told-at all ms bs i h iin iold).at_ends (get_or ms j nothing) (told-at all ms bs j h jin jold).listed;
}

-- where all are new
pub new-settled : (ms : List Marked) (bs : List Bool) (n : ℕ) → n ≡ length ms → bs ≡ replicate n true → AreSettled ms bs
new-settled ms bs n count is = record {
  count = ap length is ∙ (length-replicate n true ∙ count);
  at_ends = λ i j iin jin iold jold.
      let below : i < n = omega arith in
      let new : get_or bs i false ≡ true = ap (λ (cs : List Bool). get_or cs i false) is ∙ get_or-replicate n i true false below in
      absurd (cc);
}

-- two edges that aren't new

is-false : (b : Bool) → not b ≡ true → b ≡ false
is-false true h = absurd (cc)
is-false false h = refl

pub old-compared : (lies : Bool) (all : List Marked) (news : List Bool) (meetings : List Meeting) (a b : Extent) (r : Bool) → AreSettled all news → IsExtentOf lies all a → IsExtentOf lies all b → r ≡ (not (get_or news a.index false) && not (get_or news b.index false)) → r ≡ true → AreCompared all meetings a.index b.index
old-compared lies all news meetings a b r settled ha hb is h =
    let both = and_parts (not (get_or news a.index false)) (not (get_or news b.index false)) (sym is ∙ h) in
    let first = is-false (get_or news a.index false) both.0 in
    let second = is-false (get_or news b.index false) both.1 in
    record {
      forth = λ p h. inr (settled.at_ends a.index b.index ha.within hb.within first second p h);
      back = λ p h. inr (settled.at_ends b.index a.index hb.within ha.within second first p h);
    }
