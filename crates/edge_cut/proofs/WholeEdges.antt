-- An edge that meets all others at its own ends alone stays whole.
use Rattle.std.proofs.Common.{◌≡◌, ℕ, zero, suc, ◌||◌, ◌&&◌, Bool, true, false, List, [], ◌∷◌, ◌++◌, length, arith, refl, ap}
use Rattle.std.specs.Prelude.{int_lt}
use Rattle.std.specs.Ordering.{int_eq}
use Rattle.std.specs.List.{Contains}
use Rattle.slice_base.specs.declared.points.Edge.{Edge}
use Rattle.edge_cut.specs.declared.stops.Stop.{Stop}
use Rattle.edge_cut.specs.declared.passes.Marked.{Marked}
use Rattle.edge_cut.specs.declared.meetings.Meeting.{Meeting}
use Rattle.edge_cut.specs.Stops.{stop_at, is_before, stops_of}
use Rattle.edge_cut.specs.Ordered.{IsRising}
use Rattle.edge_cut.specs.Inner.Gathered.{end_stops}
use Rattle.edge_cut.specs.Inner.Meetings.{TellAll}
use Rattle.edge_cut.specs.Inner.News.{AreTold}
use Rattle.edge_cut.proofs.Read.{stops-told}
use Rattle.edge_cut.proofs.Told.{told-more}

two-rising : (s t : Stop) → is_before s t ≡ true → IsRising (s ∷ t ∷ [])
two-rising s t h zero zero d lt below = absurd (omega arith)
two-rising s t h zero (suc zero) d lt below = h
two-rising s t h zero (suc (suc j)) d lt below = absurd (omega arith)
two-rising s t h (suc i) zero d lt below = absurd (omega arith)
two-rising s t h (suc i) (suc j) d lt below = absurd (omega arith)

further-before : (s t : Stop) → int_lt s.along t.along ≡ true → is_before s t ≡ true
further-before s t h = ap (λ (b : Bool). b || (int_eq s.along t.along && (int_lt s.at.x t.at.x || (int_eq s.at.x t.at.x && int_lt s.at.y t.at.y)))) h

-- without meetings the stops are the ends
pub ends-stops : (e : Edge) (all : List Marked) (index : ℕ) (some : List Meeting) → length some ≡ 0 → TellAll e all index some → int_lt (stop_at e e.from).along (stop_at e e.to).along ≡ true → end_stops e ≡ stops_of e all
ends-stops e all index [] none told further =
    stops-told e all index [] (end_stops e) (end_stops e) told refl (two-rising (stop_at e e.from) (stop_at e e.to) (further-before (stop_at e e.from) (stop_at e e.to) further)) (λ s h. h) (λ s h. h)
ends-stops e all index (m ∷ ms) none told further = absurd (omega arith)

-- what is told with a whole edge more
pub told-one : (all old new : List Marked) (bs cs : List Bool) (m : Marked) → new ≡ old ++ m ∷ [] → cs ≡ bs ++ false ∷ [] → Contains all m → end_stops m.edge ≡ stops_of m.edge all → AreTold all old bs → AreTold all new cs
told-one all old new bs cs m adds tells there is told =
    told-more all old new bs cs m (end_stops m.edge) true 1 refl (λ _. (refl, refl)) adds tells there is told
