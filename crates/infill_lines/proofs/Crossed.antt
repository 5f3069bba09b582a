-- What holds of each crossing holds of all crossings of a line, also in order and in pairs.
use Rattle.std.proofs.Common.{◌≡◌, ◌+◌, ◌*◌, ℕ, suc, zero, Bool, true, false, cond, ◌&&◌, ℤ, pos, ◌+ℤ◌, ◌≤ℤ◌, ◌<ℤ◌, List, [], ◌∷◌, ◌++◌, refl, arith}
use Rattle.std.specs.Prelude.{int_le, int_lt}
use Rattle.std.specs.List.{All}
use Rattle.std.proofs.lemmas.Int.{ints}
use Rattle.std.proofs.lemmas.List.Elements.{All-nil, All-cons, All-head, All-tail, All-append}
use Rattle.slice_base.specs.declared.points.Pt.{Pt}
use Rattle.slice_base.specs.declared.points.Edge.{Edge}
use Rattle.slice_base.specs.Plane.{same_point}
use Rattle.infill_lines.specs.declared.angles.Angle.{Angle}
use Rattle.infill_lines.specs.declared.angles.Place.{Place}
use Rattle.infill_lines.specs.Angles.{place_of, point_of}
use Rattle.infill_lines.specs.Crossings.{between, crosses_up, crossing_of, crossings_from, loop_crossings, region_crossings}
use Rattle.infill_lines.specs.Fill.{is_before, placed, in_order, edge_between, paired, inside_of, lines_from}

-- the place where an edge crosses a line has P, where the ends of the edge have Q
abbrev pub Crosses : Angle → ℤ → (Pt → Type 0) → (Place → Type 0) → Type 0
Crosses angle line Q P = (p q : Pt) → Q p → Q q → (place_of angle p).across ≤ℤ line → line <ℤ (place_of angle q).across → P (between (place_of angle p) (place_of angle q) line)

test-low : (a l b : ℤ) → (int_le a l && int_lt l b) ≡ true → a ≤ℤ l
test-low a l b h = grind (arith, ints)

test-high : (a l b : ℤ) → (int_le a l && int_lt l b) ≡ true → l <ℤ b
test-high a l b h = grind (arith, ints)

one-if : (P : Place → Type 0) (at : Place) (b : Bool) → (b ≡ true → P at) → All P (cond b (at ∷ []) [])
one-if P at true f = All-cons P at [] (f refl) (All-nil P)
one-if P at false f = All-nil P

up-all : (angle : Angle) (l : ℤ) (Q : Pt → Type 0) (P : Place → Type 0) → Crosses angle l Q P → (p q : Pt) → Q p → Q q → All P (crosses_up (place_of angle p) (place_of angle q) l)
up-all angle l Q P f p q g h =
    one-if P (between (place_of angle p) (place_of angle q) l) (int_le (place_of angle p).across l && int_lt l (place_of angle q).across)
    (λ is. f p q g h (test-low (place_of angle p).across l (place_of angle q).across is) (test-high (place_of angle p).across l (place_of angle q).across is))

either-all : (P : Place → Type 0) (xs ys : List Place) (b : Bool) → All P xs → All P ys → All P (cond b xs ys)
either-all P xs ys true g h = g
either-all P xs ys false g h = h

crossing-all : (angle : Angle) (l : ℤ) (Q : Pt → Type 0) (P : Place → Type 0) → Crosses angle l Q P → (p q : Pt) → Q p → Q q → All P (crossing_of (place_of angle p) (place_of angle q) l)
crossing-all angle l Q P f p q g h =
    either-all P (crosses_up (place_of angle p) (place_of angle q) l) (crosses_up (place_of angle q) (place_of angle p) l) (int_le (place_of angle p).across (place_of angle q).across) (up-all angle l Q P f p q g h) (up-all angle l Q P f q p h g)

from-all : (angle : Angle) (l : ℤ) (Q : Pt → Type 0) (P : Place → Type 0) → Crosses angle l Q P → (first p : Pt) (ps : List Pt) → Q first → Q p → All Q ps → All P (crossings_from angle (place_of angle first) (place_of angle p) ps l)
from-all angle l Q P c first p [] f g h = crossing-all angle l Q P c p first g f
from-all angle l Q P c first p (q ∷ qs) f g h =
    let here = All-head Q q qs h in
    All-append P (crossing_of (place_of angle p) (place_of angle q) l) (crossings_from angle (place_of angle first) (place_of angle q) qs l)
    (crossing-all angle l Q P c p q g here) (from-all angle l Q P c first q qs f here (All-tail Q q qs h))

loop-all : (angle : Angle) (l : ℤ) (Q : Pt → Type 0) (P : Place → Type 0) → Crosses angle l Q P → (ps : List Pt) → All Q ps → All P (loop_crossings angle ps l)
loop-all angle l Q P c [] h = All-nil P
loop-all angle l Q P c (p ∷ ps) h = let here = All-head Q p ps h in from-all angle l Q P c p p ps here here (All-tail Q p ps h)

pub region-all : (angle : Angle) (l : ℤ) (Q : Pt → Type 0) (P : Place → Type 0) → Crosses angle l Q P → (r : List (List Pt)) → All (All Q) r → All P (region_crossings angle r l)
region-all angle l Q P c [] h = All-nil P
region-all angle l Q P c (p ∷ ps) h =
    All-append P (loop_crossings angle p l) (region_crossings angle ps l) (loop-all angle l Q P c p (All-head (All Q) p ps h)) (region-all angle l Q P c ps (All-tail (All Q) p ps h))

placed-if : (P : Place → Type 0) (p q : Place) (qs rest : List Place) (b : Bool) → P p → All P (q ∷ qs) → All P rest → All P (cond b (p ∷ q ∷ qs) (q ∷ rest))
placed-if P p q qs rest true g h r = All-cons P p (q ∷ qs) g h
placed-if P p q qs rest false g h r = All-cons P q rest (All-head P q qs h) r

pub placed-all : (P : Place → Type 0) (p : Place) (qs : List Place) → P p → All P qs → All P (placed p qs)
placed-all P p [] g h = All-cons P p [] g h
placed-all P p (q ∷ qs) g h = placed-if P p q qs (placed p qs) (is_before p q) g h (placed-all P p qs g (All-tail P q qs h))

pub order-all : (P : Place → Type 0) (done ps : List Place) → All P done → All P ps → All P (in_order done ps)
order-all P done [] g h = g
order-all P done (p ∷ ps) g h = order-all P (placed p done) ps (placed-all P p done (All-head P p ps h) g) (All-tail P p ps h)

edge-if : (E : Edge → Type 0) (p q : Pt) (b : Bool) → E (record { from = p; to = q }) → All E (cond b [] (record { from = p; to = q } ∷ []))
edge-if E p q true h = All-nil E
edge-if E p q false h = All-cons E (record { from = p; to = q }) [] h (All-nil E)

pairs-all : (angle : Angle) (P : Place → Type 0) (E : Edge → Type 0) → ((p q : Place) → P p → P q → E (record { from = point_of angle p; to = point_of angle q })) → (ps : List Place) → All P ps → All E (paired angle ps)
pairs-all angle P E f [] h = All-nil E
pairs-all angle P E f (p ∷ []) h = All-nil E
pairs-all angle P E f (p ∷ q ∷ rest) h =
    let tail = All-tail P p (q ∷ rest) h in
    All-append E (edge_between (point_of angle p) (point_of angle q)) (paired angle rest)
    (edge-if E (point_of angle p) (point_of angle q) (same_point (point_of angle p) (point_of angle q)) (f p q (All-head P p (q ∷ rest) h) (All-head P q rest tail)))
    (pairs-all angle P E f rest (All-tail P q rest tail))

inside-all : (angle : Angle) (l : ℤ) (Q : Pt → Type 0) (P : Place → Type 0) (E : Edge → Type 0) → Crosses angle l Q P → ((p q : Place) → P p → P q → E (record { from = point_of angle p; to = point_of angle q })) → (r : List (List Pt)) → All (All Q) r → All E (inside_of angle r l)
inside-all angle l Q P E c f r h =
    pairs-all angle P E f (in_order [] (region_crossings angle r l)) (order-all P [] (region_crossings angle r l) (All-nil P) (region-all angle l Q P c r h))

-- all lines of a region
pub lines-all : (angle : Angle) (Q : Pt → Type 0) (P : Place → Type 0) (E : Edge → Type 0) → ((l : ℤ) → Crosses angle l Q P) → ((p q : Place) → P p → P q → E (record { from = point_of angle p; to = point_of angle q })) → (r : List (List Pt)) → All (All Q) r → (n step : ℕ) (first : ℤ) (k : ℕ) → All E (lines_from n angle r step first k)
lines-all angle Q P E c f r h zero step first k = All-nil E
lines-all angle Q P E c f r h (suc n) step first k =
    All-append E (inside_of angle r (first +ℤ pos (k * step))) (lines_from n angle r step first (k + 1))
    (inside-all angle (first +ℤ pos (k * step)) Q P E (c (first +ℤ pos (k * step))) f r h) (lines-all angle Q P E c f r h n step first (k + 1))
