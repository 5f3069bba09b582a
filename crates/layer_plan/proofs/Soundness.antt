-- Pieces and ways that can be printed.
use Rattle.std.proofs.Common.{◌≡◌, ◌≤◌, ◌+◌, ℕ, Bool, true, false, List, [], ◌∷◌, ◌++◌, length, take, drop, arith, length-append, ℤ, pos, ◌≤ℤ◌, ◌-ℤ◌}
use Rattle.std.specs.Prelude.{neg_ℤ}
use Rattle.std.specs.Int.RustNames.{unsigned_abs}
use Rattle.std.specs.List.{All}
use Rattle.std.proofs.lemmas.Int.{ints}
use Rattle.std.proofs.lemmas.List.{length-take, length-drop}
use Rattle.std.proofs.lemmas.List.Elements.{All-nil, All-cons, All-head, All-tail, All-append, All-push, All-take, All-drop, All-weaker}
use Rattle.slice_base.specs.declared.points.Pt.{Pt}
use Rattle.slice_base.specs.declared.points.Edge.{Edge}
use Rattle.slice_base.specs.Plane.{InSquare}
use Rattle.slice_base.specs.Boxes.{around, IsIn, EdgeIn}
use Rattle.slice_base.specs.Regions.{RegionIn}
use Rattle.plan_types.specs.Areas.{IsLoop, IsArea}
use Rattle.path_order.specs.declared.pieces.Piece.{Piece}
use Rattle.layer_plan.specs.Pieces.{loops_of, loops_of_all, lines_of, turned, closed_up}
use Rattle.layer_plan.specs.Drawing.{last_or}
use Rattle.layer_plan.specs.Inner.Sound.{IsPiece, IsWay}

wider : (a b : ℕ) → a ≤ b → (p : Pt) → InSquare a p → InSquare b p
wider a b le p h = let x = h.x_in in let y = h.y_in in record { x_in = omega arith; y_in = omega arith }

-- ---- ways

length-turned : (s : ℕ) (ps : List Pt) → length (turned s ps) ≡ length ps
length-turned s ps = omega (arith, length-append (drop s ps) (take s ps), length-drop s ps, length-take s ps)

inside-turned : (s : ℕ) (ps : List Pt) → All (InSquare 1700000) ps → All (InSquare 1700000) (turned s ps)
inside-turned s ps h = All-append (InSquare 1700000) (drop s ps) (take s ps) (All-drop (InSquare 1700000) s ps h) (All-take (InSquare 1700000) s ps h)

closed_up-way : (ps : List Pt) → 1 ≤ length ps → length ps ≤ 150000 → All (InSquare 1700000) ps → IsWay (closed_up ps)
closed_up-way [] some few h = absurd (omega arith)
closed_up-way (p ∷ ps) some few h =
    let e = length-append (p ∷ ps) (p ∷ []) in
    record { some = omega arith; few = omega arith; inside = All-push (InSquare 1700000) (p ∷ ps) p h (All-head (InSquare 1700000) p ps h) }

pub closed-way : (p : Piece) (s : ℕ) → IsPiece p → IsWay (closed_up (turned s p.points))
closed-way p s h =
    let e = length-turned s p.points in
    let some = h.some in
    let few = h.few in
    closed_up-way (turned s p.points) (omega arith) (omega arith) (inside-turned s p.points h.inside)

pub open-way : (p : Piece) (s : ℕ) → IsPiece p → p.closed ≡ false → IsWay (turned s p.points)
open-way p s h is =
    let e = length-turned s p.points in
    let two = h.two is in
    let few = h.few in
    record { some = omega arith; few = omega arith; inside = inside-turned s p.points h.inside }

pub last_or-in : (at : Pt) (ps : List Pt) → InSquare 1700000 at → All (InSquare 1700000) ps → InSquare 1700000 (last_or at ps)
last_or-in at [] h all = h
last_or-in at (p ∷ ps) h all = last_or-in p ps (All-head (InSquare 1700000) p ps all) (All-tail (InSquare 1700000) p ps all)

-- ---- pieces

loop-piece : (l : List Pt) → IsLoop 1600000 l → IsPiece (record { points = l; closed = true })
loop-piece l h = record {
  some = h.some;
  few = h.few;
  inside = All-weaker (InSquare 1600000) (InSquare 1700000) (wider 1600000 1700000 (omega arith)) l h.inside;
  two = λ is. absurd (cc);
}

pub loops-pieces : (ls : List (List Pt)) → All (IsLoop 1600000) ls → All IsPiece (loops_of ls)
loops-pieces [] h = All-nil IsPiece
loops-pieces (l ∷ ls) h = All-cons IsPiece (record { points = l; closed = true }) (loops_of ls) (loop-piece l (All-head (IsLoop 1600000) l ls h)) (loops-pieces ls (All-tail (IsLoop 1600000) l ls h))

pub walls-pieces : (rs : List (List (List Pt))) → All IsArea rs → All IsPiece (loops_of_all rs)
walls-pieces [] h = All-nil IsPiece
walls-pieces (r ∷ rs) h =
    let here : IsArea r = All-head IsArea r rs h in
    All-append IsPiece (loops_of r) (loops_of_all rs) (loops-pieces r here.loops) (walls-pieces rs (All-tail IsArea r rs h))

abs-from : (x : ℤ) → unsigned_abs x ≤ 1600000 → neg_ℤ (pos 1600000) ≤ℤ x
abs-from x h = omega (arith, ints)

abs-to : (x : ℤ) → unsigned_abs x ≤ 1600000 → x ≤ℤ pos 1600000
abs-to x h = omega (arith, ints)

abs-in : (x : ℤ) → neg_ℤ (pos 1600000) ≤ℤ x → x ≤ℤ pos 1600000 → unsigned_abs x ≤ 1700000
abs-in x g h = omega (arith, ints)

boxed : (p : Pt) → InSquare 1600000 p → IsIn (around 1600000) p
boxed p h = record { x_from = abs-from p.x h.x_in; x_to = abs-to p.x h.x_in; y_from = abs-from p.y h.y_in; y_to = abs-to p.y h.y_in }

squared : (p : Pt) → IsIn (around 1600000) p → InSquare 1700000 p
squared p h = record { x_in = abs-in p.x h.x_from h.x_to; y_in = abs-in p.y h.y_from h.y_to }

line-piece : (e : Edge) → EdgeIn (around 1600000) e → IsPiece (record { points = e.from ∷ e.to ∷ []; closed = false })
line-piece e h = record {
  some = omega arith;
  few = omega arith;
  inside = All-cons (InSquare 1700000) e.from (e.to ∷ []) (squared e.from h.from_in) (All-cons (InSquare 1700000) e.to [] (squared e.to h.to_in) (All-nil (InSquare 1700000)));
  two = λ is. omega arith;
}

pub lines-pieces : (es : List Edge) → All (EdgeIn (around 1600000)) es → All IsPiece (lines_of es)
lines-pieces [] h = All-nil IsPiece
lines-pieces (e ∷ es) h = All-cons IsPiece (record { points = e.from ∷ e.to ∷ []; closed = false }) (lines_of es) (line-piece e (All-head (EdgeIn (around 1600000)) e es h)) (lines-pieces es (All-tail (EdgeIn (around 1600000)) e es h))

-- ---- areas

pub area-inside : (r : List (List Pt)) → IsArea r → All (All (InSquare 1700000)) r
area-inside r h = All-weaker (IsLoop 1600000) (All (InSquare 1700000)) (λ l is. All-weaker (InSquare 1600000) (InSquare 1700000) (wider 1600000 1700000 (omega arith)) l is.inside) r h.loops

pub area-boxed : (r : List (List Pt)) → IsArea r → RegionIn (around 1600000) r
area-boxed r h = All-weaker (IsLoop 1600000) (All (IsIn (around 1600000))) (λ l is. All-weaker (InSquare 1600000) (IsIn (around 1600000)) boxed l is.inside) r h.loops
