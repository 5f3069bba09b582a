use Rattle.std.proofs.Common.{◌≡◌, ◌∙◌, ◌*◌, ◌≤◌, ℕ, true, false, List, ◌++◌, arith, sym, ap, unsigned_abs}
use Rattle.std.proofs.lemmas.Result.{on_ok_weaker}
use Rattle.slice_base.specs.declared.points.Pt.{Pt}
use Rattle.slice_base.specs.Plane.{InSquare}
use Rattle.offset_core.specs.Corners.{corner_of, is_inner_corner, is_near}
use Rattle.offset_core.specs.Inner.Nearness.{IsWithin}
use Rattle.offset_core.proofs.Shapes.{corner-away, corner-far, all_two, all_three, near-itself}
use Rattle.offset_core.proofs.corners.push_corner.Goals as goal

grown_by : (xs ys zs new : List Pt) → ys ≡ zs → new ≡ xs ++ zs → new ≡ xs ++ ys
grown_by xs ys zs new e h = h ∙ ap (λ (l : List Pt). xs ++ l) (sym e)

square-weaker : (near far : ℕ) (n : Pt) → near ≤ far → InSquare near n → InSquare far n
square-weaker near far n le h = record { x_in = omega (arith, h.x_in); y_in = omega (arith, h.y_in) }

three_fold : (h : ℕ) (n : Pt) → InSquare h n → InSquare (3 * h) n
three_fold h n i = square-weaker h (3 * h) n (omega arith) i

pub returns-then-is_inner_corner-clause-ok : goal.returns-then-is_inner_corner-clause-ok
returns-then-is_inner_corner-clause-ok c =
    let d = c.args.d.by in
    let t : is_inner_corner c.args.d.by c.args.a c.args.p c.args.q ≡ true = sym c.is_inner_corner.ensures ∙ c.if-is_inner_corner.true in
    let is = corner-away d c.args.a c.args.p c.args.q c.normal-m.result c.normal-n.result c.shifted.result c.shifted-then-is_inner_corner.result c.normal-m.ensures.exact c.normal-n.ensures.exact t c.shifted.ensures.exact c.shifted-then-is_inner_corner.ensures.exact in
    on_ok_weaker c.push_three.result (grown_by c.args.points.now (corner_of d c.args.a c.args.p c.args.q) _ c.push_three.new.points is) c.push_three.ensures

pub returns-then-is_inner_corner-clause-near : goal.returns-then-is_inner_corner-clause-near
returns-then-is_inner_corner-clause-near c =
    let d = c.args.d.by in
    let far = 3 * unsigned_abs c.args.d.by in
    let t : is_inner_corner c.args.d.by c.args.a c.args.p c.args.q ≡ true = sym c.is_inner_corner.ensures ∙ c.if-is_inner_corner.true in
    let is = corner-away d c.args.a c.args.p c.args.q c.normal-m.result c.normal-n.result c.shifted.result c.shifted-then-is_inner_corner.result c.normal-m.ensures.exact c.normal-n.ensures.exact t c.shifted.ensures.exact c.shifted-then-is_inner_corner.ensures.exact in
    let x = c.shifted.ensures.near far (three_fold (unsigned_abs d) c.normal-m.result c.normal-m.ensures.small) in
    let y = c.shifted-then-is_inner_corner.ensures.near far (three_fold (unsigned_abs d) c.normal-n.result c.normal-n.ensures.small) in
    let all = all_three (IsWithin far c.args.p) c.shifted.result c.args.p c.shifted-then-is_inner_corner.result (corner_of d c.args.a c.args.p c.args.q) is x (near-itself far c.args.p) y in
    on_ok_weaker c.push_three.result (λ e. all) c.push_three.ensures

pub shifted-requires-3-clause-n_in : goal.shifted-requires-3-clause-n_in
shifted-requires-3-clause-n_in c = square-weaker (unsigned_abs c.args.d.by) 300000 c.normal-n.result (omega (arith, c.requires.d_small)) c.normal-n.ensures.small

pub returns-clause-ok : goal.returns-clause-ok
returns-clause-ok c =
    let d = c.args.d.by in
    let t : is_inner_corner c.args.d.by c.args.a c.args.p c.args.q ≡ false = sym c.is_inner_corner.ensures ∙ c.if-is_inner_corner.false in
    let n : is_near c.args.d.by c.reach-reach.result.sum ≡ false = sym c.is_near.ensures ∙ c.if-is_near.false in
    let is = corner-far d c.reach-reach.result.sum c.args.a c.args.p c.args.q c.normal-m.result c.normal-n.result c.shifted-2.result c.shifted-3.result c.normal-m.ensures.exact c.normal-n.ensures.exact t c.reach-reach.ensures.exact n c.shifted-2.ensures.exact c.shifted-3.ensures.exact in
    on_ok_weaker c.push_two.result (grown_by c.args.points.now (corner_of d c.args.a c.args.p c.args.q) _ c.push_two.new.points is) c.push_two.ensures

pub returns-clause-near : goal.returns-clause-near
returns-clause-near c =
    let d = c.args.d.by in
    let far = 3 * unsigned_abs c.args.d.by in
    let t : is_inner_corner c.args.d.by c.args.a c.args.p c.args.q ≡ false = sym c.is_inner_corner.ensures ∙ c.if-is_inner_corner.false in
    let n : is_near c.args.d.by c.reach-reach.result.sum ≡ false = sym c.is_near.ensures ∙ c.if-is_near.false in
    let is = corner-far d c.reach-reach.result.sum c.args.a c.args.p c.args.q c.normal-m.result c.normal-n.result c.shifted-2.result c.shifted-3.result c.normal-m.ensures.exact c.normal-n.ensures.exact t c.reach-reach.ensures.exact n c.shifted-2.ensures.exact c.shifted-3.ensures.exact in
    let x = c.shifted-2.ensures.near far (three_fold (unsigned_abs d) c.normal-m.result c.normal-m.ensures.small) in
    let y = c.shifted-3.ensures.near far (three_fold (unsigned_abs d) c.normal-n.result c.normal-n.ensures.small) in
    let all = all_two (IsWithin far c.args.p) c.shifted-2.result c.shifted-3.result (corner_of d c.args.a c.args.p c.args.q) is x y in
    on_ok_weaker c.push_two.result (λ e. all) c.push_two.ensures
