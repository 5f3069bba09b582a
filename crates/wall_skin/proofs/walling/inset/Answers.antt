use Rattle.std.proofs.Common.{rules, ◌≡◌, ◌∙◌, ◌*◌, ◌≤◌, ℕ, ◌+◌, ◌-◌, w32, ℤ, pos, neg_ℤ, FitsSigned, to_z, of_z, arith, unsigned_abs}
use Rattle.std.proofs.lemmas.Int.{ints, to_z-of_z}
use Rattle.std.proofs.lemmas.Result.{IfOk-weaker}
use Rattle.wall_skin.proofs.Sizes.{small-both}
use Rattle.wall_skin.proofs.Boxes.{region_around-more, region_grown-more}
use Rattle.wall_skin.proofs.walling.inset.Goals as goal

abs_is : (z : ℤ) (n : ℕ) → z ≡ neg_ℤ (pos n) → unsigned_abs z ≡ n
abs_is z n e = omega (arith, ints)

pub offset-requires-clause-distance : goal.offset-requires-clause-distance
offset-requires-clause-distance c =
    let f : FitsSigned w32 c.inward.result = search rules in
    let a = abs_is c.inward.result c.args.n c.inward.ensures in
    simp to_z-of_z (omega (arith, a))

pub offset-requires-clause-room : goal.offset-requires-clause-room
offset-requires-clause-room c =
    let f : FitsSigned w32 c.inward.result = search rules in
    let a = abs_is c.inward.result c.args.n c.inward.ensures in
    let le : 1700000 - (3 * c.args.most + 3) ≤ 1700000 - (3 * unsigned_abs c.inward.result + 3) = omega (arith, a) in
    let h = region_around-more (1700000 - (3 * c.args.most + 3)) (1700000 - (3 * unsigned_abs c.inward.result + 3)) c.args.outline.now le c.requires.room in
    simp to_z-of_z h

pub returns-clause-answer : goal.returns-clause-answer
returns-clause-answer c =
    let f : FitsSigned w32 c.inward.result = search rules in
    let e : to_z w32 (of_z w32 c.inward.result) ≡ neg_ℤ (pos c.args.n) = to_z-of_z w32 c.inward.result f ∙ c.inward.ensures in
    let h = rw e at c.offset.ensures.answer in
    h

pub returns-clause-small : goal.returns-clause-small
returns-clause-small c = small-both c.offset.result c.offset.ensures.few c.offset.ensures.least

pub returns-clause-within : goal.returns-clause-within
returns-clause-within c =
    let f : FitsSigned w32 c.inward.result = search rules in
    let a = abs_is c.inward.result c.args.n c.inward.ensures in
    let e : to_z w32 (of_z w32 c.inward.result) ≡ c.inward.result = to_z-of_z w32 c.inward.result f in
    let le : 3 * unsigned_abs (to_z w32 (of_z w32 c.inward.result)) + 3 ≤ 3 * c.args.most + 3 = rw e (omega (arith, a)) in
    IfOk-weaker c.offset.result _ _
    (λ r inside box h. region_grown-more (3 * unsigned_abs (to_z w32 (of_z w32 c.inward.result)) + 3) (3 * c.args.most + 3) box r le (inside box h))
    c.offset.ensures.within
