-- Whole blocks are passed over.
use Rattle.std.proofs.Common.{◌≡◌, ◌≤◌, ◌<◌, ◌+◌, ◌*◌, ℕ, zero, suc, ℤ, pos, Bool, true, false, cond, List, [], ◌∷◌, ◌++◌, length, get_or, drop, arith, refl, sym, ap, ◌∙◌, drop-cons, append_assoc, subst, ◌⊎◌, inl, inr}
use Rattle.std.proofs.lemmas.Int.{ints}
use Rattle.clip_bands.specs.declared.bands.Span.{Span}
use Rattle.clip_bands.specs.Indices.{touches, holds, indices_from}
use Rattle.clip_bands.specs.Inner.Blocks.{index_if, Covers, IsHull}

abbrev pub nothing : Span
nothing = record { low = pos 0; high = pos 0 }

pub itself : (s : Span) → Covers s s
itself s = record { low = omega (arith, ints); high = omega (arith, ints) }

-- within a list the default doesn't matter
pub any-default : (xs : List Span) (i : ℕ) (d e : Span) → i < length xs → get_or xs i d ≡ get_or xs i e
any-default [] i d e below = absurd (omega arith)
any-default (x ∷ xs) zero d e below = refl
any-default (x ∷ xs) (suc i) d e below = any-default xs i d e (omega arith)

split-last : (j i : ℕ) → j < i + 1 → (j < i) ⊎ (j ≡ i)
split-last j zero lt = inr (omega arith)
split-last zero (suc i) lt = inl (omega arith)
split-last (suc j) (suc i) lt = ⊎-suc (split-last j i (omega arith))
  where
    ⊎-suc : (j < i) ⊎ (j ≡ i) → (suc j < suc i) ⊎ (suc j ≡ suc i)
    ⊎-suc (inl h) = inl (omega arith)
    ⊎-suc (inr h) = inr (ap suc h)

pub covers-more : (spans : List Span) (from i : ℕ) (hull new s : Span) → ((j : ℕ) (d : Span) → from ≤ j → j < i → Covers hull (get_or spans j d)) → Covers new s → ((d : Span) → s ≡ get_or spans i d) → ((u : Span) → Covers hull u → Covers new u) → (j : ℕ) (d : Span) → from ≤ j → j < i + 1 → Covers new (get_or spans j d)
covers-more spans from i hull new s before last is grows j d le lt = pick (split-last j i lt)
  where
    pick : (j < i) ⊎ (j ≡ i) → Covers new (get_or spans j d)
    pick (inl h) = grows (get_or spans j d) (before j d le h)
    pick (inr h) = subst (λ (k : ℕ). Covers new (get_or spans k d)) (sym h) (subst (λ (x : Span). Covers new x) (is d) last)

dropped : (n : ℕ) (ys : List Span) → length ys ≤ n → drop n ys ≡ []
dropped zero [] h = refl
dropped zero (y ∷ ys) h = absurd (omega arith)
dropped (suc n) [] h = refl
dropped (suc n) (y ∷ ys) h = dropped n ys (omega arith)

ends : (test : Span → Bool) (n : ℕ) (xs : List Span) → length xs ≤ n → indices_from test n (drop n xs) ≡ []
ends test n xs h = ap (λ (ys : List Span). indices_from test n ys) (dropped n xs h)

over : (test : Span → Bool) (i w : ℕ) (xs : List Span) → length xs ≤ i → indices_from test i (drop i xs) ≡ indices_from test (i + w) (drop (i + w) xs)
over test i w xs le = ends test i xs le ∙ sym (ends test (i + w) xs (omega arith))

passed-over : (test : Span → Bool) (i : ℕ) (x : Span) (xs : List Span) → test x ≡ false → indices_from test i (x ∷ xs) ≡ indices_from test (suc i) xs
passed-over test i x xs h = rw h

up : (a b : ℕ) → (a < b) ⊎ (b ≤ a) → (suc a < suc b) ⊎ (suc b ≤ suc a)
up a b (inl h) = inl (omega arith)
up a b (inr h) = inr (omega arith)

within : (a b : ℕ) → (a < b) ⊎ (b ≤ a)
within a zero = inr (omega arith)
within zero (suc b) = inl (omega arith)
within (suc a) (suc b) = up a b (within a b)

one-skip : (test : Span → Bool) (xs : List Span) (w i : ℕ) → (i < length xs) ⊎ (length xs ≤ i) → (i < length xs → test (get_or xs i nothing) ≡ false) → indices_from test (suc i) (drop (suc i) xs) ≡ indices_from test (suc i + w) (drop (suc i + w) xs) → indices_from test i (drop i xs) ≡ indices_from test (i + suc w) (drop (i + suc w) xs)
one-skip test xs w i (inr past) isnt rest = over test i (suc w) xs past
one-skip test xs w i (inl below) isnt rest =
    let e : suc i + w ≡ i + suc w = omega arith in
    let f : indices_from test i (drop i xs) ≡ indices_from test i (get_or xs i nothing ∷ drop (suc i) xs) = ap (λ (ys : List Span). indices_from test i ys) (drop-cons xs i nothing below) in
    f ∙ (passed-over test i (get_or xs i nothing) (drop (suc i) xs) (isnt below) ∙ (rest ∙ ap (λ (n : ℕ). indices_from test n (drop n xs)) e))

add-zero : (n : ℕ) → n ≡ n + 0
add-zero n = omega arith

-- where no span from i on passes, up to w of them, the indices go on behind them
pub indices-skip : (test : Span → Bool) (xs : List Span) (w i : ℕ) → ((j : ℕ) → i ≤ j → j < i + w → j < length xs → test (get_or xs j nothing) ≡ false) → indices_from test i (drop i xs) ≡ indices_from test (i + w) (drop (i + w) xs)
indices-skip test xs zero i none = ap (λ (n : ℕ). indices_from test n (drop n xs)) (add-zero i)
indices-skip test xs (suc w) i none =
    one-skip test xs w i (within i (length xs)) (λ below. none i (omega arith) (omega arith) below)
    (indices-skip test xs w (suc i) (λ j le lt h. none j (omega arith) (omega arith) h))

apart : (s b t : Span) → Covers b t → touches s b ≡ false → touches s t ≡ false
apart s b t h isnt = let l = h.low in let g = h.high in grind (arith, ints)

off : (n : ℤ) (b t : Span) → Covers b t → holds n b ≡ false → holds n t ≡ false
off n b t h isnt = let l = h.low in let g = h.high in grind (arith, ints)

pub near-skip : (s b : Span) (spans : List Span) (from : ℕ) (found : List ℕ) → IsHull b spans from → touches s b ≡ false → found ++ indices_from (touches s) (from + 16) (drop (from + 16) spans) ≡ found ++ indices_from (touches s) from (drop from spans)
near-skip s b spans from found hull isnt = ap (λ (xs : List ℕ). found ++ xs) (sym (indices-skip (touches s) spans 16 from (λ j le lt h. apart s b (get_or spans j nothing) (hull j nothing le lt h) isnt)))

pub across-skip : (n : ℤ) (b : Span) (spans : List Span) (from : ℕ) (found : List ℕ) → IsHull b spans from → holds n b ≡ false → found ++ indices_from (holds n) (from + 16) (drop (from + 16) spans) ≡ found ++ indices_from (holds n) from (drop from spans)
across-skip n b spans from found hull isnt = ap (λ (xs : List ℕ). found ++ xs) (sym (indices-skip (holds n) spans 16 from (λ j le lt h. off n b (get_or spans j nothing) (hull j nothing le lt h) isnt)))

-- one block more
pub block-step : (test : Span → Bool) (spans : List Span) (k : ℕ) (found new whole : List ℕ) → new ++ indices_from test (16 * k + 16) (drop (16 * k + 16) spans) ≡ found ++ indices_from test (16 * k) (drop (16 * k) spans) → found ++ indices_from test (16 * k) (drop (16 * k) spans) ≡ whole → new ++ indices_from test (16 * (k + 1)) (drop (16 * (k + 1)) spans) ≡ whole
block-step test spans k found new whole e so_far =
    let f : 16 * (k + 1) ≡ 16 * k + 16 = omega arith in
    ap (λ (n : ℕ). new ++ indices_from test n (drop n spans)) f ∙ (e ∙ so_far)

-- after the last block
pub blocks-end : (test : Span → Bool) (spans : List Span) (n : ℕ) (found whole : List ℕ) → length spans ≤ n → found ++ indices_from test n (drop n spans) ≡ whole → found ≡ whole
blocks-end test spans n found whole le e = sym (append-nil found) ∙ (ap (λ (xs : List ℕ). found ++ xs) (sym (ends test n spans le)) ∙ e)
  where
    append-nil : (xs : List ℕ) → xs ++ [] ≡ xs
    append-nil [] = refl
    append-nil (x ∷ xs) = ap (λ (ys : List ℕ). x ∷ ys) (append-nil xs)

first-only : (from j : ℕ) → from ≤ j → j < from + 1 → from ≡ j
first-only from j le lt = omega arith

pub covers-first : (spans : List Span) (from : ℕ) → from < length spans → (j : ℕ) (d : Span) → from ≤ j → j < from + 1 → Covers (get_or spans from nothing) (get_or spans j d)
covers-first spans from below j d le lt =
    subst (λ (k : ℕ). Covers (get_or spans from nothing) (get_or spans k d)) (first-only from j le lt)
    (subst (λ (x : Span). Covers (get_or spans from nothing) x) (any-default spans from nothing d below) (itself (get_or spans from nothing)))

cond-split : (passed : Bool) (i : ℕ) (rest : List ℕ) → cond passed (i ∷ rest) rest ≡ index_if passed i ++ rest
cond-split true i rest = refl
cond-split false i rest = refl

-- one span more
pub index-step : (test : Span → Bool) (spans : List Span) (i : ℕ) (found new whole : List ℕ) (passed : Bool) → i < length spans → passed ≡ test (get_or spans i nothing) → new ≡ found ++ index_if passed i → found ++ indices_from test i (drop i spans) ≡ whole → new ++ indices_from test (i + 1) (drop (i + 1) spans) ≡ whole
index-step test spans i found new whole passed below is put so_far =
    let x = get_or spans i nothing in
    let rest = indices_from test (i + 1) (drop (i + 1) spans) in
    let next : suc i ≡ i + 1 = omega arith in
    let here : indices_from test i (drop i spans) ≡ index_if (test x) i ++ rest =
    ap (λ (ys : List Span). indices_from test i ys) (drop-cons spans i nothing below)
    ∙ (cond-split (test x) i (indices_from test (suc i) (drop (suc i) spans))
    ∙ ap (λ (n : ℕ). index_if (test x) i ++ indices_from test n (drop n spans)) next) in
    let put' : new ≡ found ++ index_if (test x) i = put ∙ ap (λ (t : Bool). found ++ index_if t i) is in
    ap (λ (xs : List ℕ). xs ++ rest) put' ∙ (append_assoc found (index_if (test x) i) rest ∙ (ap (λ (xs : List ℕ). found ++ xs) (sym here) ∙ so_far))
