-- Sums of times.
use Rattle.std.proofs.Common.{◌≡◌, ◌<◌, ◌≤◌, ◌+◌, ◌*◌, ◌/◌, ◌^◌, ℕ, suc, refl, sym, ap, ◌∙◌, arith, add_assoc}
use Rattle.std.proofs.lemmas.Nat.{mul-le, div_below}
use Rattle.slice_base.specs.Whole.{round_nat}
use Rattle.time_cool.specs.declared.cooling.Spent.{Spent}
use Rattle.time_cool.specs.Cooling.{plus, nothing}
use Rattle.time_cool.specs.Inner.Bounds.{AtMost}

pub plus-assoc : (a b c : Spent) → plus (plus a b) c ≡ plus a (plus b c)
plus-assoc a b c =
    let p = add_assoc a.printing b.printing c.printing in
    let t = add_assoc a.travelling b.travelling c.travelling in
    ap (λ (n : ℕ). let r : Spent = record { printing = n; travelling = a.travelling + b.travelling + c.travelling } in r) p
    ∙ ap (λ (n : ℕ). let r : Spent = record { printing = a.printing + (b.printing + c.printing); travelling = n } in r) t

pub plus-nothing : (a : Spent) → plus a nothing ≡ a
plus-nothing a =
    let p : a.printing + 0 ≡ a.printing = omega arith in
    let t : a.travelling + 0 ≡ a.travelling = omega arith in
    ap (λ (n : ℕ). let r : Spent = record { printing = n; travelling = a.travelling + 0 } in r) p
    ∙ ap (λ (n : ℕ). let r : Spent = record { printing = a.printing; travelling = n } in r) t

pub nothing-plus : (a : Spent) → plus nothing a ≡ a
nothing-plus a =
    let p : 0 + a.printing ≡ a.printing = omega arith in
    let t : 0 + a.travelling ≡ a.travelling = omega arith in
    ap (λ (n : ℕ). let r : Spent = record { printing = n; travelling = 0 + a.travelling } in r) p
    ∙ ap (λ (n : ℕ). let r : Spent = record { printing = a.printing; travelling = n } in r) t

-- a part of a number is no more than it
pub part-le : (s a k : ℕ) → 0 < k → a ≤ k → s * a / k ≤ s
part-le s a k some le =
    let product = mul-le s a s k (omega arith) le in
    let next : suc s * k ≡ s * k + k = omega arith in
    let below = div_below (s * a) k (suc s) some (omega arith) in
    omega arith

pub round-le : (n d m : ℕ) → 0 < d → n ≤ m * d → round_nat n d ≤ m
round-le n d m some le =
    let twice : suc m * (2 * d) ≡ 2 * (m * d) + 2 * d = omega arith in
    let below = div_below (2 * n + d) (2 * d) (suc m) (omega arith) (omega arith) in
    omega arith
