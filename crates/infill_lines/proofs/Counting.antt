-- Lines and the steps between them.
use Rattle.std.proofs.Common.{◌≡◌, ◌<◌, ◌≤◌, ◌+◌, ◌-◌, ◌*◌, ◌/◌, ◌%◌, ℕ, suc, ℤ, pos, ◌+ℤ◌, ◌-ℤ◌, ◌<ℤ◌, ◌≤ℤ◌, List, [], ◌∷◌, ◌++◌, refl, sym, ap, ◌∙◌, arith}
use Rattle.std.proofs.lemmas.Int.{ints}
use Rattle.std.proofs.Math.Nat.{div-mul-le_self}
use Rattle.std.proofs.lemmas.Nat.{mul-le}
use Rattle.std.proofs.lemmas.List.{append_assoc}
use Rattle.slice_base.specs.declared.points.Pt.{Pt}
use Rattle.slice_base.specs.declared.points.Edge.{Edge}
use Rattle.infill_lines.specs.declared.angles.Angle.{Angle}
use Rattle.infill_lines.specs.Fill.{inside_of, lines_from}

pub times-below : (k count step most : ℕ) → k < count → count * step ≤ most → k * step ≤ most
times-below k count step most below le = let e = mul-le k step count step (omega arith) (omega arith) in omega arith

pub count-le : (n step : ℕ) → n ≤ 8000000 → step ≤ 200000 → (n / step + 1) * step ≤ 10000000
count-le n step small wide =
    let e = div-mul-le_self n step in
    let f : (n / step + 1) * step ≡ n / step * step + step = omega arith in
    omega arith

-- fewer steps than it takes don't come over a gap
pub before_gap : (gap step k : ℕ) → 1 ≤ step → k < (gap + (step - 1)) / step → k * step < gap
before_gap gap step k some lt =
    let e = div-mul-le_self (gap + (step - 1)) step in
    let f = mul-le (suc k) step ((gap + (step - 1)) / step) step lt (omega arith) in
    let g : suc k * step ≡ k * step + step = omega arith in
    omega arith

within_step : (n step : ℕ) → 0 < step → n < suc (n / step) * step
within_step n step some = by (rest n step some)
  where
    rest : (n step : ℕ) → 0 < step → n % step < step
    rest n step some = omega arith

    by : n % step < step → n < suc (n / step) * step
    by h = omega arith

-- as many, or more, do
pub behind_gap : (gap step k : ℕ) → 1 ≤ step → (gap + (step - 1)) / step ≤ k → gap ≤ k * step
behind_gap gap step k some le =
    let e = within_step (gap + (step - 1)) step (omega arith) in
    let f = mul-le ((gap + (step - 1)) / step) step k step le (omega arith) in
    let g : suc ((gap + (step - 1)) / step) * step ≡ (gap + (step - 1)) / step * step + step = omega arith in
    omega arith

-- a line whose steps don't come over the gap to a place lies below it; the others don't
pub line_before : (first at : ℤ) (gap n : ℕ) → pos gap ≡ at -ℤ first → n < gap → (first +ℤ pos n) <ℤ at
line_before first at gap n is lt = omega (arith, ints)

pub line_behind : (first at : ℤ) (gap n : ℕ) → pos gap ≡ at -ℤ first → gap ≤ n → at ≤ℤ (first +ℤ pos n)
line_behind first at gap n is le = omega (arith, ints)

pub line_behind_first : (first at : ℤ) (n : ℕ) → at ≤ℤ first → at ≤ℤ (first +ℤ pos n)
line_behind_first first at n le = omega (arith, ints)

lines_rise-by : (first : ℤ) (m n : ℕ) → m ≤ n → (first +ℤ pos m) ≤ℤ (first +ℤ pos n)
lines_rise-by first m n le = omega (arith, ints)

-- a later line doesn't lie below
pub lines_rise : (first : ℤ) (step j k : ℕ) → j ≤ k → (first +ℤ pos (j * step)) ≤ℤ (first +ℤ pos (k * step))
lines_rise first step j k le = lines_rise-by first (j * step) (k * step) (mul-le j step k step le (omega arith))

-- the lines, one after another
pub lines-more : (angle : Angle) (region : List (List Pt)) (step count k : ℕ) (first : ℤ) (edges more whole : List Edge) → k < count → more ≡ edges ++ inside_of angle region (first +ℤ pos (k * step)) → edges ++ lines_from (count - k) angle region step first k ≡ whole → more ++ lines_from (count - (k + 1)) angle region step first (k + 1) ≡ whole
lines-more angle region step count k first edges more whole below pushed h =
    let one : count - k ≡ suc (count - (k + 1)) = omega arith in
    ap (λ (es : List Edge). es ++ lines_from (count - (k + 1)) angle region step first (k + 1)) pushed
    ∙ append_assoc edges (inside_of angle region (first +ℤ pos (k * step))) (lines_from (count - (k + 1)) angle region step first (k + 1))
    ∙ ap (λ (n : ℕ). edges ++ lines_from n angle region step first k) (sym one)
    ∙ h
