-- What paths can print at most.
use Rattle.std.proofs.Common.{◌≡◌, ◌≤◌, ◌<◌, ◌+◌, ◌-◌, ◌*◌, ◌/◌, ◌%◌, ℕ, zero, suc, Bool, true, false, cond, ℤ, ◌-ℤ◌, List, [], ◌∷◌, ◌++◌, length, ◌⊎◌, inl, inr, refl, sym, ap, ◌∙◌, subst, arith}
use Rattle.std.specs.Prelude.{nat_lt, nat_le}
use Rattle.std.specs.Int.RustNames.{unsigned_abs}
use Rattle.std.specs.List.{All, sum_by}
use Rattle.std.proofs.lemmas.Int.{ints}
use Rattle.std.proofs.lemmas.Nat.{mul-le, div-add-mod'}
use Rattle.std.proofs.lemmas.Bool.{le-leb, lt-leb, cases_lt}
use Rattle.std.proofs.lemmas.List.Elements.{All-head, All-tail}
use Rattle.std.proofs.lemmas.List.Sums.{sum_by_push}
use Rattle.slice_base.specs.declared.points.Pt.{Pt}
use Rattle.slice_base.specs.Plane.{InSquare, gap_of, square_of}
use Rattle.slice_base.specs.Whole.{doubled, root_in, to_nearest, root_of}
use Rattle.plan_types.specs.Paths.{PathValue as Path}
use Rattle.plan_types.specs.declared.plans.ExtruderPlan.{ExtruderPlan}
use Rattle.plan_types.specs.Plans.{moves_of, moves_of_plan, moves_in, length_through, length_along, volume_of, volume_of_plan, volume_in, time_of_plan, time_in}
use Rattle.layer_plan.specs.declared.groups.Pen.{Pen}
use Rattle.layer_plan.specs.declared.drawing.Drawing.{Drawing}
use Rattle.layer_plan.specs.Drawing.{path_along}
use Rattle.layer_plan.specs.Inner.Sound.{IsWay, IsPen, IsDrawing, AreDrawn}

-- ---- roots

doubled-in : (n r : ℕ) → r * r ≤ n / 4 → doubled n r * doubled n r ≤ n
doubled-in n r h = by_order (cases_lt n ((2 * r + 1) * (2 * r + 1)))
  where
    parts : n / 4 * 4 + n % 4 ≡ n
    parts = div-add-mod' n 4

    by_order : (n < (2 * r + 1) * (2 * r + 1)) ⊎ ((2 * r + 1) * (2 * r + 1) ≤ n) → doubled n r * doubled n r ≤ n
    by_order (inl less) =
        let e : nat_le ((2 * r + 1) * (2 * r + 1)) n ≡ false = lt-leb ((2 * r + 1) * (2 * r + 1)) n less in
        rw e (omega (arith, parts, h))
    by_order (inr within) =
        let e : nat_le ((2 * r + 1) * (2 * r + 1)) n ≡ true = le-leb ((2 * r + 1) * (2 * r + 1)) n within in
        rw e within

root_in-in : (turns n : ℕ) → root_in turns n * root_in turns n ≤ n
root_in-in zero n = omega arith
root_in-in (suc turns) zero = omega arith
root_in-in (suc turns) (suc n) = doubled-in (suc n) (root_in turns (suc n / 4)) (root_in-in turns (suc n / 4))

nearest-le : (n r : ℕ) (b : Bool) → cond b (r + 1) r ≤ r + 1
nearest-le n r true = omega arith
nearest-le n r false = omega arith

root-below : (r n : ℕ) → r * r ≤ n → n < 8388607 * 8388607 → r < 8388607
root-below r n h lt = by_order (cases_lt r 8388607)
  where
    by_order : (r < 8388607) ⊎ (8388607 ≤ r) → r < 8388607
    by_order (inl less) = less
    by_order (inr within) = let m = mul-le 8388607 8388607 r r within within in absurd (omega arith)

root_of-small : (n : ℕ) → n < 8388607 * 8388607 → root_of n ≤ 8388608
unfolding root_of
root_of-small n lt =
    let a = root-below (root_in n n) n (root_in-in n n) lt in
    let b = nearest-le n (root_in n n) (nat_lt (root_in n n * root_in n n + root_in n n) n) in
    omega arith

-- ---- lengths

gap-small : (x y : ℤ) → unsigned_abs x ≤ 1700000 → unsigned_abs y ≤ 1700000 → gap_of x y ≤ 3400000
gap-small x y g h = omega (arith, ints)

square-small : (p q : Pt) → InSquare 1700000 p → InSquare 1700000 q → square_of p q < 8388607 * 8388607
square-small p q g h =
    let x = gap-small p.x q.x g.x_in h.x_in in
    let y = gap-small p.y q.y g.y_in h.y_in in
    let a = mul-le (gap_of p.x q.x) (gap_of p.x q.x) 3400000 3400000 x x in
    let b = mul-le (gap_of p.y q.y) (gap_of p.y q.y) 3400000 3400000 y y in
    omega arith

through-small : (p : Pt) (ps : List Pt) → InSquare 1700000 p → All (InSquare 1700000) ps → length_through p ps ≤ length ps * 8388608
through-small p [] g h = omega arith
through-small p (q ∷ qs) g h =
    let here = All-head (InSquare 1700000) q qs h in
    let a = root_of-small (square_of p q) (square-small p q g here) in
    let b = through-small q qs here (All-tail (InSquare 1700000) q qs h) in
    omega arith

along-small : (ps : List Pt) → All (InSquare 1700000) ps → length_along ps ≤ (length ps - 1) * 8388608
along-small [] h = omega arith
along-small (p ∷ ps) h =
    let a = through-small p ps (All-head (InSquare 1700000) p ps h) (All-tail (InSquare 1700000) p ps h) in
    let e : suc (length ps) - 1 ≡ length ps = omega arith in
    rw e a

-- ---- volumes

product-small : (l m w t : ℕ) → l ≤ m * 8388608 → w ≤ 2000 → t ≤ 2000 → l * (w * t) ≤ m * 33554432000000
product-small l m w t long narrow thin =
    let a = mul-le w t 2000 2000 narrow thin in
    let b = mul-le l (w * t) (m * 8388608) 4000000 long (omega arith) in
    let c : m * 8388608 * 4000000 ≡ m * 33554432000000 = omega arith in
    omega arith

pub volume-small : (pen : Pen) (points : List Pt) (retract : Bool) → IsPen pen → IsWay points → volume_of (path_along pen points retract) ≤ moves_of (path_along pen points retract) * 33554432000000
volume-small pen points retract pen_is way =
    product-small (length_along points) (length points - 1) (unsigned_abs pen.width) (unsigned_abs pen.thickness) (along-small points way.inside) pen_is.narrow pen_is.thin

more-small : (v m a b : ℕ) → v ≤ m * 33554432000000 → a ≤ b * 33554432000000 → v + a ≤ (m + b) * 33554432000000
more-small v m a b g h = let e : (m + b) * 33554432000000 ≡ m * 33554432000000 + b * 33554432000000 = omega arith in omega arith

-- a path more
pub drawing-more : (d new : Drawing) (path : Path) → new.paths ≡ d.paths ++ path ∷ [] → InSquare 1700000 new.at → volume_of path ≤ moves_of path * 33554432000000 → path.time ≡ 0 → IsDrawing d → IsDrawing new
drawing-more d new path is at_in volume untimed h =
    let v : sum_by volume_of new.paths ≡ sum_by volume_of d.paths + volume_of path = ap (λ (ps : List Path). sum_by volume_of ps) is ∙ sum_by_push volume_of d.paths path in
    let m : sum_by moves_of new.paths ≡ sum_by moves_of d.paths + moves_of path = ap (λ (ps : List Path). sum_by moves_of ps) is ∙ sum_by_push moves_of d.paths path in
    let t : sum_by (λ (p : Path). p.time) new.paths ≡ sum_by (λ (p : Path). p.time) d.paths + path.time = ap (λ (ps : List Path). sum_by (λ (p : Path). p.time) ps) is ∙ sum_by_push (λ (p : Path). p.time) d.paths path in
    let small = more-small (sum_by volume_of d.paths) (sum_by moves_of d.paths) (volume_of path) (moves_of path) h.volume_small volume in
    let old = h.untimed in
    record {
      at_in = at_in;
      volume_small = subst (λ (n : ℕ). n ≤ sum_by moves_of new.paths * 33554432000000) (sym v) (subst (λ (n : ℕ). sum_by volume_of d.paths + volume_of path ≤ n * 33554432000000) (sym m) small);
      untimed = t ∙ omega arith;
    }

-- the plan of an extruder more
pub plans-more : (plans new : List ExtruderPlan) (d : Drawing) (x : ℕ) → new ≡ plans ++ record { extruder = x; paths = d.paths } ∷ [] → IsDrawing d → AreDrawn plans → AreDrawn new
plans-more plans new d x is here h =
    let plan : ExtruderPlan = record { extruder = x; paths = d.paths } in
    let v : volume_in new ≡ volume_in plans + volume_of_plan plan = ap (λ (ps : List ExtruderPlan). sum_by volume_of_plan ps) is ∙ sum_by_push volume_of_plan plans plan in
    let m : moves_in new ≡ moves_in plans + moves_of_plan plan = ap (λ (ps : List ExtruderPlan). sum_by moves_of_plan ps) is ∙ sum_by_push moves_of_plan plans plan in
    let t : time_in new ≡ time_in plans + time_of_plan plan = ap (λ (ps : List ExtruderPlan). sum_by time_of_plan ps) is ∙ sum_by_push time_of_plan plans plan in
    let small = more-small (volume_in plans) (moves_in plans) (volume_of_plan plan) (moves_of_plan plan) h.volume_small here.volume_small in
    let old = h.untimed in
    let none : time_of_plan plan ≡ 0 = here.untimed in
    record {
      volume_small = subst (λ (n : ℕ). n ≤ moves_in new * 33554432000000) (sym v) (subst (λ (n : ℕ). volume_in plans + volume_of_plan plan ≤ n * 33554432000000) (sym m) small);
      untimed = t ∙ omega arith;
    }
