-- The search by halves, one step.
use Rattle.std.proofs.Common.{ℕ, zero, suc, ◌+◌, ◌-◌, ◌*◌, ◌≤◌, ◌<◌, ◌≡◌, Bool, true, false, cond, min, List, [], ◌∷◌, length, take, get_or, refl, ap, ◌∙◌, arith, ⊎_elim, ◌⊎◌, inl, inr, Option, Some, None}
use Rattle.std.specs.List.{sum}
use Rattle.std.proofs.lemmas.Bool.{cond-true, cond-false, lt-leb, leb-false, cases_lt, cases_Bool}
use Rattle.std.proofs.lemmas.List.{take-take}
use Rattle.std.proofs.lemmas.List.Sums.{sum_by-take-le}
use Rattle.std.specs.Int.{div_ceil}
use Rattle.std.proofs.lemmas.Grind.{div_ceil_times}
use Rattle.std.proofs.Math.Nat.{mul-le-mul_left, mul-le-mul_right, div-zero, mod-zero}
use Rattle.settings_core.specs.Values.{ExtruderSettingsValue as ExtruderSettings}
use Rattle.plan_types.specs.declared.plans.LayerPlan.{LayerPlan}
use Rattle.preheat_core.specs.declared.placing.Span.{Span}
use Rattle.preheat_core.specs.Need.{rise_of, drop_of, need_of, latest}
use Rattle.preheat_core.specs.Times.{all_times, elapsed_of}
use Rattle.preheat_core.specs.Places.{since_at, is_covering}

-- a boundary that covers is as good a front
pub latest-up : (covers : ℕ → Bool) (front a n : ℕ) → covers (front + a) ≡ true → latest covers front (a + n) ≡ latest covers (front + a) n
latest-up covers front zero zero h = let e : front + 0 ≡ front = omega arith in rw e refl
latest-up covers front (suc a) zero h = let e : suc a + 0 ≡ suc a = omega arith in rw e (cond-true (covers (front + suc a)) (front + suc a) (latest covers front a) h)
latest-up covers front a (suc n) h =
    let e : a + suc n ≡ suc (a + n) = omega arith in
    let k : front + suc (a + n) ≡ (front + a) + suc n = omega arith in
    rw (e, k, latest-up covers front a n h) refl

-- boundaries that don't cover are left out
pub latest-down : (covers : ℕ → Bool) (front a n : ℕ) → ((b : ℕ) → front + a < b → b ≤ front + (a + n) → covers b ≡ false) → latest covers front (a + n) ≡ latest covers front a
latest-down covers front a zero h = let e : a + 0 ≡ a = omega arith in rw e refl
latest-down covers front a (suc n) h =
    let e : a + suc n ≡ suc (a + n) = omega arith in
    rw e (cond-false (covers (front + suc (a + n))) (front + suc (a + n)) (latest covers front (a + n)) (h (front + suc (a + n)) (omega arith) (omega arith)) ∙ latest-down covers front a n (λ b low high. h b low (omega (arith, high))))

div_ceil-le_by : (a b d : ℕ) → 0 < d → a ≤ b → div_ceil a d ≤ div_ceil b d
div_ceil-le_by a b d pos h =
    let x = div_ceil a d in
    let y = div_ceil b d in
    let of_a = div_ceil_times a d pos in
    let of_b = div_ceil_times b d pos in
    ⊎_elim
    (λ (bad : y < x).
    let more : (y + 1) * d ≤ x * d = mul-le-mul_right d (omega (arith, bad)) in
    let split : (y + 1) * d ≡ y * d + d = omega arith in
    let upper : x * d < a + d = of_a.1 in
    let lower : b ≤ y * d = of_b.0 in
    absurd (omega (arith, more, split, upper, lower, h)))
    (λ (good : x ≤ y). good)
    (cases_lt y x)

-- a quotient by 0 is 0, with the whole number as its remainder
by_zero : (a b d : ℕ) → d ≡ 0 → a ≤ b → div_ceil a d ≤ div_ceil b d
by_zero a b d z h = rw (z, div-zero a, div-zero b, mod-zero a, mod-zero b) (omega (arith, h))

div_ceil-le : (a b d : ℕ) → a ≤ b → div_ceil a d ≤ div_ceil b d
div_ceil-le a b d h = ⊎_elim (λ (none : d < 1). by_zero a b d (omega (arith, none)) h) (λ (pos : 1 ≤ d). div_ceil-le_by a b d pos h) (cases_lt d 1)

min-le : (m a b : ℕ) → a ≤ b → min m a ≤ min m b
min-le m a b h = omega (arith, h)

needs_more : (x : ExtruderSettings) (a b : ℕ) → a ≤ b → need_of x (Some a) ≤ need_of x (Some b)
needs_more x a b h =
    let cool = x.machine_nozzle_cool_down_speed in
    let cooled : cool * a ≤ cool * b = mul-le-mul_left cool h in
    let drop : drop_of x (Some a) ≤ drop_of x (Some b) = min-le (rise_of x) (div_ceil (cool * a) 1000000) (div_ceil (cool * b) 1000000) (div_ceil-le (cool * a) (cool * b) 1000000 cooled) in
    let all : div_ceil (drop_of x (Some a) * 1000000) x.machine_nozzle_heat_up_speed ≤ div_ceil (drop_of x (Some b) * 1000000) x.machine_nozzle_heat_up_speed = div_ceil-le (drop_of x (Some a) * 1000000) (drop_of x (Some b) * 1000000) x.machine_nozzle_heat_up_speed (mul-le-mul_right 1000000 drop) in
    add_million (div_ceil (drop_of x (Some a) * 1000000) x.machine_nozzle_heat_up_speed) (div_ceil (drop_of x (Some b) * 1000000) x.machine_nozzle_heat_up_speed) all
  where
    add_million : (x y : ℕ) → x ≤ y → x + 1000000 ≤ y + 1000000
    add_million x y h = omega (arith, h)

pub elapsed_of-le : (w : List LayerPlan) (a b : ℕ) → a ≤ b → elapsed_of w a ≤ elapsed_of w b
elapsed_of-le w a b h =
    let xs = all_times w in
    omega (arith, sum_by-take-le (λ (t : ℕ). t) (take b xs) a, ap sum (take-take a b xs h))

since-more : (w : List LayerPlan) (x : ExtruderSettings) (left : Option ℕ) (front a b : ℕ) → a ≤ b → need_of x (since_at w front left a) ≤ need_of x (since_at w front left b)
since-more w x None front a b h = omega arith
since-more w x (Some left) front a b h = needs_more x (left + (elapsed_of w a - elapsed_of w front)) (left + (elapsed_of w b - elapsed_of w front)) (omega (arith, elapsed_of-le w a b h))

-- a later boundary needs no less, and has no more time
pub falling : (w : List LayerPlan) (x : ExtruderSettings) (left : Option ℕ) (front start m b : ℕ) → m ≤ b → is_covering w x left front start m ≡ false → is_covering w x left front start b ≡ false
falling w x left front start m b h no' =
    let short : elapsed_of w start - elapsed_of w m < need_of x (since_at w front left m) = leb-false (need_of x (since_at w front left m)) (elapsed_of w start - elapsed_of w m) no' in
    lt-leb (need_of x (since_at w front left b)) (elapsed_of w start - elapsed_of w b) (omega (arith, short, elapsed_of-le w m b h, since-more w x left front m b h))

pub half_step : (covers : ℕ → Bool) (total low high mid low' high' : ℕ) → low < mid → mid < high → ((b : ℕ) → mid ≤ b → covers mid ≡ false → covers b ≡ false) → total ≡ latest covers low (high - 1 - low) → ((covers mid ≡ true) × (low' ≡ mid) × (high' ≡ high)) ⊎ ((covers mid ≡ false) × (low' ≡ low) × (high' ≡ mid)) → total ≡ latest covers low' (high' - 1 - low')
half_step covers total low high mid low' high' a b falls h is =
    ⊎_elim
    (λ (t : (covers mid ≡ true) × (low' ≡ mid) × (high' ≡ high)).
    let e : high - 1 - low ≡ (mid - low) + (high - 1 - mid) = omega arith in
    let k : low + (mid - low) ≡ mid = omega arith in
    let yes' : covers (low + (mid - low)) ≡ true = ap covers k ∙ t.0 in
    rw (t.1, t.2) (h ∙ ap (latest covers low) e ∙ latest-up covers low (mid - low) (high - 1 - mid) yes' ∙ ap (λ f. latest covers f (high - 1 - mid)) k))
    (λ (t : (covers mid ≡ false) × (low' ≡ low) × (high' ≡ mid)).
    let e : high - 1 - low ≡ (mid - 1 - low) + (high - mid) = omega arith in
    rw (t.1, t.2) (h ∙ ap (latest covers low) e ∙ latest-down covers low (mid - 1 - low) (high - mid) (λ d up to. falls d (omega (arith, up)) t.0)))
    is

pub half_cases : (covers : ℕ → Bool) (s t : Span) (mid : ℕ) → t ≡ cond (covers mid) (record s { low = mid }) (record s { high = mid }) → ((covers mid ≡ true) × (t.low ≡ mid) × (t.high ≡ s.high)) ⊎ ((covers mid ≡ false) × (t.low ≡ s.low) × (t.high ≡ mid))
half_cases covers s t mid e =
    ⊎_elim
    (λ (y : covers mid ≡ true). let k = e ∙ cond-true (covers mid) (record s { low = mid }) (record s { high = mid }) y in inl (y, ap (λ (s : Span). s.low) k, ap (λ (s : Span). s.high) k))
    (λ (n : covers mid ≡ false). let k = e ∙ cond-false (covers mid) (record s { low = mid }) (record s { high = mid }) n in inr (n, ap (λ (s : Span). s.low) k, ap (λ (s : Span). s.high) k))
    (cases_Bool (covers mid))
