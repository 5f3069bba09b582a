-- Sums raised from an index on.
use Rattle.std.proofs.Common.{◌≡◌, ◌<◌, ◌≤◌, ◌+◌, ℕ, zero, suc, ℤ, pos, ◌+ℤ◌, ◌-ℤ◌, List, [], ◌∷◌, length, get_or, set, arith, refl, sym, ap, ◌∙◌}
use Rattle.std.specs.Prelude.{unsigned_abs}
use Rattle.std.specs.List.{All}
use Rattle.std.proofs.lemmas.Int.{ints}
use Rattle.std.proofs.lemmas.List.{length-set, get_or-set_other, get_or-set_same, set-get_or, set-set}
use Rattle.std.proofs.lemmas.List.Elements.{All-head, All-tail}
use Rattle.clip_core.specs.declared.windings.Windings.{Windings}
use Rattle.clip_core.specs.Windings.{none, plus, less}
use Rattle.clip_core.specs.Inner.Small.{AreSmall}
use Rattle.clip_core.specs.Inner.Raises.{raised, raised_from, lowered_from}
use Rattle.clip_core.proofs.Tallies.{both, plus_assoc, plus-none}
use Rattle.clip_core.proofs.Shares.{plus-right}

move-int : (a b c : ℤ) → (a +ℤ b) +ℤ c ≡ (a +ℤ c) +ℤ b
move-int a b c = omega (arith, ints)

pub moved : (x s r : Windings) → plus (plus x s) r ≡ plus (plus x r) s
moved x s r = both _ _ _ _ (move-int x.first s.first r.first) (move-int x.second s.second r.second)

less-int : (a b : ℤ) → a -ℤ b ≡ a +ℤ (pos 0 -ℤ b)
less-int a b = omega (arith, ints)

less-is : (w s : Windings) → less w s ≡ plus w (less none s)
less-is w s = both _ _ _ _ (less-int w.first s.first) (less-int w.second s.second)

back-int : (a b : ℤ) → (a +ℤ b) +ℤ (pos 0 -ℤ b) ≡ a
back-int a b = omega (arith, ints)

plus-less : (w s : Windings) → plus (plus w s) (less none s) ≡ w
plus-less w s = both _ _ _ _ (back-int w.first s.first) (back-int w.second s.second)

-- within a list the default doesn't matter
pub any-raise : (xs : List Windings) (i : ℕ) (d e : Windings) → i < length xs → get_or xs i d ≡ get_or xs i e
any-raise [] i d e below = absurd (omega arith)
any-raise (x ∷ xs) zero d e below = refl
any-raise (x ∷ xs) (suc i) d e below = any-raise xs i d e (omega arith)

raised-before : (ws : List Windings) (i k : ℕ) (w : Windings) → k ≤ i → raised (set ws i w) k ≡ raised ws k
raised-before [] i k w le = refl
raised-before (x ∷ xs) zero zero w le = refl
raised-before (x ∷ xs) (suc i) zero w le = refl
raised-before (x ∷ xs) zero (suc k) w le = absurd (omega arith)
raised-before (x ∷ xs) (suc i) (suc k) w le = ap (λ (v : Windings). plus x v) (raised-before xs i k w (omega arith))

raised-behind : (ws : List Windings) (i k : ℕ) (s d : Windings) → i < length ws → i < k → raised (set ws i (plus (get_or ws i d) s)) k ≡ plus (raised ws k) s
raised-behind [] i k s d below lt = absurd (omega arith)
raised-behind (x ∷ xs) i zero s d below lt = absurd (omega arith)
raised-behind (x ∷ xs) zero (suc k) s d below lt = moved x s (raised xs k)
raised-behind (x ∷ xs) (suc i) (suc k) s d below lt =
    ap (λ (v : Windings). plus x v) (raised-behind xs i k s d (omega arith) (omega arith)) ∙ sym (plus_assoc x (raised xs k) s)

pub raised-zero : (ws : List Windings) → raised ws zero ≡ none
raised-zero [] = refl
raised-zero (w ∷ ws) = refl

-- one index more
pub raised-next : (ws : List Windings) (k : ℕ) (d : Windings) → k < length ws → raised ws (suc k) ≡ plus (raised ws k) (get_or ws k d)
raised-next [] k d below = absurd (omega arith)
raised-next (x ∷ xs) zero d below = ap (λ (v : Windings). plus x v) (raised-zero xs) ∙ (plus-right x ∙ sym (plus-none x))
raised-next (x ∷ xs) (suc k) d below =
    ap (λ (v : Windings). plus x v) (raised-next xs k d (omega arith)) ∙ sym (plus_assoc x (raised xs k) (get_or xs k d))

abbrev IsNone : Windings → Type 0
IsNone w = w ≡ none

-- where nothing is raised
pub raised-none : (ws : List Windings) (k : ℕ) → All (λ w. w ≡ none) ws → raised ws k ≡ none
raised-none [] k h = refl
raised-none (w ∷ ws) zero h = refl
raised-none (w ∷ ws) (suc k) h =
    ap (λ (v : Windings). plus v (raised ws k)) (All-head IsNone w ws h) ∙ (plus-none (raised ws k) ∙ raised-none ws k (All-tail IsNone w ws h))

-- of a stretch that was raised: before it
pub raised-low : (ws : List Windings) (i j k : ℕ) (v w : Windings) → i < j → k ≤ i → raised (set (set ws i v) j w) k ≡ raised ws k
raised-low ws i j k v w lt le = raised-before (set ws i v) j k w (omega arith) ∙ raised-before ws i k v le

lower-int : (a b : ℤ) → (a +ℤ b) -ℤ b ≡ a
lower-int a b = omega (arith, ints)

lower-plus : (w s : Windings) → less (plus w s) s ≡ w
lower-plus w s = both _ _ _ _ (lower-int w.first s.first) (lower-int w.second s.second)

-- a stretch of more than one index
pub raised-some : (ws : List Windings) (i j : ℕ) (s : Windings) → i < j → lowered_from (raised_from ws i s) j s ≡ set (set ws i (plus (get_or ws i none) s)) j (less (get_or ws j none) s)
raised-some ws i j s lt =
    ap (λ (u : Windings). set (raised_from ws i s) j (less u s)) (get_or-set_other ws i j (plus (get_or ws i none) s) none (λ q. omega arith))

-- a stretch of none
pub raised-same : (ws : List Windings) (i : ℕ) (s : Windings) → i < length ws → lowered_from (raised_from ws i s) i s ≡ ws
raised-same ws i s below =
    let v = plus (get_or ws i none) s in
    set-set ws i v (less (get_or (set ws i v) i none) s)
    ∙ (ap (λ (u : Windings). set ws i (less u s)) (get_or-set_same ws i v none below)
    ∙ (ap (λ (u : Windings). set ws i u) (lower-plus (get_or ws i none) s)
    ∙ set-get_or ws i none))

-- in it
pub raised-mid : (ws : List Windings) (i j k : ℕ) (s w : Windings) → i < length ws → i < k → k ≤ j → raised (set (set ws i (plus (get_or ws i none) s)) j w) k ≡ plus (raised ws k) s
raised-mid ws i j k s w below lt le = raised-before (set ws i (plus (get_or ws i none) s)) j k w le ∙ raised-behind ws i k s none below lt

-- behind it
pub raised-high : (ws : List Windings) (i j k : ℕ) (s : Windings) → i < j → j < length ws → j < k → raised (set (set ws i (plus (get_or ws i none) s)) j (less (get_or ws j none) s)) k ≡ raised ws k
raised-high ws i j k s lt below over =
    let v = plus (get_or ws i none) s in
    let t = less none s in
    let vs = set ws i v in
    let len : length vs ≡ length ws = length-set ws i v in
    let e : less (get_or ws j none) s ≡ plus (get_or vs j none) t = less-is (get_or ws j none) s ∙ ap (λ (u : Windings). plus u t) (sym (get_or-set_other ws i j v none (λ q. omega arith))) in
    ap (λ (w : Windings). raised (set vs j w) k) e
    ∙ (raised-behind vs j k t none (omega arith) over
    ∙ (ap (λ (u : Windings). plus u t) (raised-behind ws i k s none (omega arith) (omega arith))
    ∙ plus-less (raised ws k) s))

-- numbers stay small

abs-plus : (x y : ℤ) (m n : ℕ) → unsigned_abs x ≤ m → unsigned_abs y ≤ n → unsigned_abs (x +ℤ y) ≤ m + n
abs-plus x y m n g h = grind (arith, ints)

abs-less : (x y : ℤ) (m n : ℕ) → unsigned_abs x ≤ m → unsigned_abs y ≤ n → unsigned_abs (x -ℤ y) ≤ m + n
abs-less x y m n g h = grind (arith, ints)

pub small-plus : (m n : ℕ) (v w : Windings) → AreSmall m v → AreSmall n w → AreSmall (m + n) (plus v w)
small-plus m n v w g h = record {
  first_small = abs-plus v.first w.first m n g.first_small h.first_small;
  second_small = abs-plus v.second w.second m n g.second_small h.second_small;
}

pub small-less : (m n : ℕ) (v w : Windings) → AreSmall m v → AreSmall n w → AreSmall (m + n) (less v w)
small-less m n v w g h = record {
  first_small = abs-less v.first w.first m n g.first_small h.first_small;
  second_small = abs-less v.second w.second m n g.second_small h.second_small;
}

-- the sum of the raises, one index on
pub raises-step : (ws : List Windings) (k : ℕ) (by new : Windings) → k < length ws → by ≡ raised ws k → new ≡ plus by (get_or ws k none) → new ≡ raised ws (k + 1)
raises-step ws k by new below is put =
    let next : suc k ≡ k + 1 = omega arith in
    put ∙ (ap (λ (u : Windings). plus u (get_or ws k none)) is ∙ (sym (raised-next ws k none below) ∙ ap (λ (n : ℕ). raised ws n) next))
