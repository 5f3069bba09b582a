-- How many indices there are, and below what they stay.
use Rattle.std.proofs.Common.{◌≤◌, ◌<◌, ◌+◌, ℕ, suc, Bool, true, false, cond, List, [], ◌∷◌, length, arith}
use Rattle.std.specs.List.{All}
use Rattle.std.proofs.lemmas.List.Elements.{All-nil, All-cons}
use Rattle.clip_bands.specs.declared.bands.Span.{Span}
use Rattle.clip_bands.specs.Indices.{indices_from, indices}

length-if : (t : Bool) (i n : ℕ) (is : List ℕ) → length is ≤ n → length (cond t (i ∷ is) is) ≤ suc n
length-if true i n is h = omega arith
length-if false i n is h = omega arith

few-from : (test : Span → Bool) (i : ℕ) (ss : List Span) → length (indices_from test i ss) ≤ length ss
few-from test i [] = omega arith
few-from test i (s ∷ ss) = length-if (test s) i (length ss) (indices_from test (suc i) ss) (few-from test (suc i) ss)

-- there are at most as many indices as spans
pub indices-few : (test : Span → Bool) (ss : List Span) → length (indices test ss) ≤ length ss
indices-few test ss = few-from test 0 ss

below-if : (t : Bool) (i n : ℕ) (is : List ℕ) → i < n → All (λ index. index < n) is → All (λ index. index < n) (cond t (i ∷ is) is)
below-if true i n is here rest = All-cons (λ index. index < n) i is here rest
below-if false i n is here rest = rest

below-from : (test : Span → Bool) (i n : ℕ) (ss : List Span) → i + length ss ≤ n → All (λ index. index < n) (indices_from test i ss)
below-from test i n [] h = All-nil (λ index. index < n)
below-from test i n (s ∷ ss) h = below-if (test s) i n (indices_from test (suc i) ss) (omega arith) (below-from test (suc i) n ss (omega arith))

-- each index is below the number of spans
pub indices-below : (test : Span → Bool) (ss : List Span) → All (λ index. index < length ss) (indices test ss)
indices-below test ss = below-from test 0 (length ss) ss (omega arith)
