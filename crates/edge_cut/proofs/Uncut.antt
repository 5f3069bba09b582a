-- Edges that have a length and meet at ends alone: a pass changes nothing.
use Rattle.std.proofs.Common.{◌≡◌, ◌<◌, ◌+◌, ◌*◌, ℕ, zero, suc, ℤ, pos, negsuc, ◌-ℤ◌, ◌*ℤ◌, ◌+ℤ◌, Bool, true, false, not, ◌&&◌, List, [], ◌∷◌, ◌++◌, length, get_or, arith, refl, sym, ap, ◌∙◌, subst}
use Rattle.std.specs.Prelude.{int_lt}
use Rattle.std.specs.Ordering.{int_eq}
use Rattle.std.specs.List.{All, AllPass}
use Rattle.std.proofs.lemmas.Int.{ints}
use Rattle.std.proofs.lemmas.List.Elements.{All-head, All-tail}
use Rattle.slice_base.specs.declared.points.Edge.{Edge}
use Rattle.edge_cut.specs.declared.passes.Marked.{Marked}
use Rattle.edge_cut.specs.declared.meetings.Meeting.{Meeting}
use Rattle.edge_cut.specs.Stops.{stop_at, stops_of}
use Rattle.edge_cut.specs.Cut.{pieces_of, cut_by, pass_of, has_length}
use Rattle.edge_cut.specs.Inner.Gathered.{end_stops}
use Rattle.edge_cut.specs.Inner.Indices.{nothing}
use Rattle.edge_cut.specs.Inner.Meetings.{AreListed, IsGroup}
use Rattle.edge_cut.proofs.Ordered.{in-contained}
use Rattle.edge_cut.proofs.Compared.{any-default}
use Rattle.edge_cut.proofs.Read.{group-tells}
use Rattle.edge_cut.proofs.Listed.{none-are}
use Rattle.edge_cut.proofs.WholeEdges.{ends-stops}

-- the second end of an edge stands further along it than the first

no-way : (x y : ℤ) → (x -ℤ x) *ℤ y ≡ pos 0
no-way x y = let e : x -ℤ x ≡ pos 0 = omega (arith, ints) in ap (λ (z : ℤ). z *ℤ y) e ∙ omega (arith, ints)

none-along : (e : Edge) → (stop_at e e.from).along ≡ pos 0
none-along e = λ i. (no-way e.from.x (e.to.x -ℤ e.from.x)) i +ℤ (no-way e.from.y (e.to.y -ℤ e.from.y)) i

-- the square of a step
record Square (z : ℤ) : Type 0 where
  pub of : ℕ
  pub is : z *ℤ z ≡ pos of
  pub some : int_eq z (pos 0) ≡ false → 0 < of

square-of : (z : ℤ) → Square z
square-of (pos zero) = record { of = 0; is = refl; some = λ h. absurd (cc) }
square-of (pos (suc n)) = record { of = suc n * suc n; is = omega (arith, ints); some = λ h. omega arith }
square-of (negsuc n) = record { of = suc n * suc n; is = omega (arith, ints); some = λ h. omega arith }

other-step : (a b : ℤ) → int_eq a b ≡ false → int_eq (b -ℤ a) (pos 0) ≡ false
other-step a b h = grind (arith, ints)

sum-above : (p q : ℕ) → 0 < p + q → int_lt (pos 0) (pos p +ℤ pos q) ≡ true
sum-above p q h = grind (arith, ints)

one-some : (e : Edge) (a b : Bool) → not (a && b) ≡ true → int_eq e.from.x e.to.x ≡ a → int_eq e.from.y e.to.y ≡ b → (s : Square (e.to.x -ℤ e.from.x)) → (t : Square (e.to.y -ℤ e.from.y)) → 0 < s.of + t.of
one-some e true true h isa isb s t = absurd (cc)
one-some e true false h isa isb s t = let g = t.some (other-step e.from.y e.to.y isb) in omega arith
one-some e false b h isa isb s t = let g = s.some (other-step e.from.x e.to.x isa) in omega arith

forward : (e : Edge) → has_length e ≡ true → int_lt (stop_at e e.from).along (stop_at e e.to).along ≡ true
forward e h =
    let s = square-of (e.to.x -ℤ e.from.x) in
    let t = square-of (e.to.y -ℤ e.from.y) in
    let along : (stop_at e e.to).along ≡ pos s.of +ℤ pos t.of = λ i. s.is i +ℤ t.is i in
    (λ i. int_lt (none-along e i) (along i)) ∙ sum-above s.of t.of (one-some e (int_eq e.from.x e.to.x) (int_eq e.from.y e.to.y) h refl refl s t)

-- without meetings each edge has its ends as stops

no-group : (index : ℕ) → IsGroup [] [] index
no-group index = record { each = λ m h is. h; only = λ m h. elim (in-contained m [] h) [ ] }

stops-whole : (all : List Marked) (i : ℕ) (d : Marked) → i < length all → AllPass (λ m. has_length m.edge) all → AreListed all [] → stops_of (get_or all i d).edge all ≡ end_stops (get_or all i d).edge
stops-whole all i d below extended listed =
    subst (λ (m : Marked). stops_of m.edge all ≡ end_stops m.edge) (any-default all i nothing d below)
    (let e = (get_or all i nothing).edge in
    sym (ends-stops e all i [] refl (group-tells all [] [] i below listed (none-are all) (no-group i)) (forward e (extended i nothing below))))

-- and is its own piece
cut-whole : (all ms : List Marked) → All (λ m. stops_of m.edge all ≡ end_stops m.edge) ms → cut_by all ms ≡ ms
cut-whole all [] h = refl
cut-whole all (m ∷ ms) h =
    let P = λ (n : Marked). stops_of n.edge all ≡ end_stops n.edge in
    (λ i. pieces_of m.second (All-head P m ms h i) ++ cut_by all ms) ∙ ap (λ (ns : List Marked). m ∷ ns) (cut-whole all ms (All-tail P m ms h))

pub pass-whole : (all : List Marked) → AllPass (λ m. has_length m.edge) all → AreListed all [] → pass_of all ≡ all
pass-whole all extended listed = cut-whole all all (λ i d below. stops-whole all i d below extended listed)

pub none-of : (meetings : List Meeting) → length meetings ≡ 0 → meetings ≡ []
none-of [] h = refl
none-of (m ∷ ms) h = absurd (omega arith)
