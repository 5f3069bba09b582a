-- Work in steps: the first that fails ends it.
use Rattle.std.specs.Prelude.{ℕ, zero, suc, List, [], ◌∷◌, ◌++◌, Result, Ok, Err}

-- the next step takes what the first gives
abbrev pub and_then : {A B E : Type 0} → Result A E → (A → Result B E) → Result B E
and_then (Ok a) next = next a
and_then (Err e) next = Err e

-- from s on, one step for each item
abbrev pub fold_ok : {S X E : Type 0} → (S → X → Result S E) → S → List X → Result S E
fold_ok f s [] = Ok s
fold_ok f s (x ∷ xs) = and_then (f s x) (λ t. fold_ok f t xs)

-- what each item gives, in order; the first that fails ends the work
abbrev pub each_ok : {X A E : Type 0} → (X → Result A E) → List X → Result (List A) E
each_ok f [] = Ok []
each_ok f (x ∷ xs) = and_then (f x) (λ a. and_then (each_ok f xs) (λ rest. Ok (a ∷ rest)))

-- one more item, where there are items
abbrev pub with_last : {A E : Type 0} → Result (List A) E → Result A E → Result (List A) E
with_last (Ok done) (Ok a) = Ok (done ++ a ∷ [])
with_last (Ok done) (Err e) = Err e
with_last (Err e) next = Err e

-- what the numbers below n give, in order; the first that fails ends the work
unfoldable pub up_to : {A E : Type 0} → (ℕ → Result A E) → ℕ → Result (List A) E
up_to f zero = Ok []
up_to f (suc n) = with_last (up_to f n) (f n)
