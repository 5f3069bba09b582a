-- Where two edges meet, told by the sides of their ends.
use Rattle.std.proofs.Common.{◌≡◌, ◌≢◌, ◌<◌, ℤ, pos, ◌-ℤ◌, ◌+ℤ◌, Bool, true, false, List, [], ◌++◌, arith, sym, ap, ◌∙◌, subst}
use Rattle.std.specs.Ordering.{int_eq}
use Rattle.std.specs.Int.RustNames.{unsigned_abs}
use Rattle.std.proofs.Math.IntN.{neg_ℤ}
use Rattle.std.proofs.lemmas.Int.{ints}
use Rattle.slice_base.specs.declared.points.Pt.{Pt}
use Rattle.slice_base.specs.declared.points.Edge.{Edge}
use Rattle.slice_base.specs.Plane.{cross_of}
use Rattle.edge_cut.specs.declared.sides.Sides.{Sides}
use Rattle.edge_cut.specs.Meeting.{shared_of, crossing_of, meeting_of, turn_of, part_on, part_across, end_on}
use Rattle.edge_cut.specs.Inner.Sides.{AreSides}
use Rattle.edge_cut.proofs.BothEdges.{turn-back, step-back, neg-twice, crossing-taken, shared-taken, crossing-exchanged}
use Rattle.edge_cut.proofs.AtEnds.{sides-sum, no-turn, turn-by-sides, some-whole}

-- edges that aren't parallel

pub on-by : (e f : Edge) (t : Sides) → AreSides f e t → t.from ≡ part_on e f
on-by e f t are =
    are.from_is
    ∙ (turn-back f.from e.from f.from f.to
    ∙ (ap neg_ℤ (step-back e.from f.from f.from f.to) ∙ neg-twice (part_on e f)))

pub across-by : (e f : Edge) (s : Sides) → AreSides e f s → neg_ℤ s.from ≡ part_across e f
across-by e f s are = ap neg_ℤ are.from_is ∙ sym (turn-back e.from e.to e.from f.from)

gap-back : (a b v w : ℤ) → b ≡ a +ℤ v → v ≡ neg_ℤ w → a -ℤ b ≡ w
gap-back a b v w g h = grind (arith, ints)

pub whole-by : (e f : Edge) (t : Sides) → AreSides f e t → t.from -ℤ t.to ≡ turn_of e f
whole-by e f t are = gap-back t.from t.to (turn_of f e) (turn_of e f) (sides-sum f e t are) (turn-back e.from e.to f.from f.to)

pub some-by : (e f : Edge) (s : Sides) (w : ℤ) → AreSides e f s → s.from ≢ s.to → w ≡ turn_of e f → 0 < unsigned_abs w
some-by e f s w are other is = subst (λ (z : ℤ). 0 < unsigned_abs z) (sym is) (some-whole (turn_of e f) (turn-by-sides e f s are other))

pub met-by : (e f : Edge) (s : Sides) (ps : List Pt) → AreSides e f s → s.from ≢ s.to → ps ≡ crossing_of e f → ps ≡ meeting_of e f
met-by e f s ps are other is = is ∙ sym (crossing-taken (int_eq (turn_of e f) (pos 0)) (shared_of e f) (crossing_of e f) (turn-by-sides e f s are other))

pub met-back : (e f : Edge) (s : Sides) (ps : List Pt) → AreSides e f s → s.from ≢ s.to → ps ≡ crossing_of e f → ps ≡ meeting_of f e
met-back e f s ps are other is = met-by e f s ps are other is ∙ crossing-exchanged e f (turn-by-sides e f s are other)

-- parallel edges

level-sum : (s t w : ℤ) → t ≡ s +ℤ w → s ≡ t → w ≡ pos 0
level-sum s t w sum same = omega (arith, ints)

sum-level : (s t v w : ℤ) → t ≡ s +ℤ v → v ≡ neg_ℤ w → w ≡ pos 0 → s ≡ t
sum-level s t v w sum is none = grind (arith, ints)

pub level-back : (e f : Edge) (s t : Sides) → AreSides e f s → AreSides f e t → s.from ≡ s.to → t.from ≡ t.to
level-back e f s t are others level =
    sum-level t.from t.to (turn_of f e) (turn_of e f) (sides-sum f e t others) (turn-back e.from e.to f.from f.to)
    (level-sum s.from s.to (turn_of e f) (sides-sum e f s are) level)

shared-by : (e f : Edge) (s : Sides) → AreSides e f s → s.from ≡ s.to → meeting_of e f ≡ shared_of e f
shared-by e f s are level = shared-taken (int_eq (turn_of e f) (pos 0)) (shared_of e f) (crossing_of e f) (no-turn s.from s.to (turn_of e f) (sides-sum e f s are) level)

pub apart-by : (e f : Edge) (s : Sides) (r : Bool) → AreSides e f s → s.from ≡ s.to → r ≡ int_eq s.from (pos 0) → r ≡ false → [] ≡ meeting_of e f
apart-by e f s r are level is apart =
    let line : int_eq (cross_of e.from e.to e.from f.from) (pos 0) ≡ false = subst (λ (z : ℤ). int_eq z (pos 0) ≡ false) are.from_is (sym is ∙ apart) in
    sym (shared-by e f s are level ∙ crossing-taken (int_eq (cross_of e.from e.to e.from f.from) (pos 0)) (end_on e f.from ++ end_on e f.to) [] line)

pub line-by : (e f : Edge) (s : Sides) (r : Bool) → AreSides e f s → s.from ≡ s.to → r ≡ int_eq s.from (pos 0) → r ≡ true → end_on e f.from ++ end_on e f.to ≡ meeting_of e f
line-by e f s r are level is on =
    let line : int_eq (cross_of e.from e.to e.from f.from) (pos 0) ≡ true = subst (λ (z : ℤ). int_eq z (pos 0) ≡ true) are.from_is (sym is ∙ on) in
    sym (shared-by e f s are level ∙ shared-taken (int_eq (cross_of e.from e.to e.from f.from) (pos 0)) (end_on e f.from ++ end_on e f.to) [] line)
