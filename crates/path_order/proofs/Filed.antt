-- One start after another is filed.
use Rattle.std.proofs.Common.{◌≡◌, ◌≢◌, ◌<◌, ◌≤◌, ◌+◌, ℕ, List, [], ◌∷◌, ◌++◌, length, get_or, set, ◌⊎◌, inl, inr, refl, sym, ap, ◌∙◌, subst, arith}
use Rattle.std.specs.List.{All, Contains}
use Rattle.std.proofs.lemmas.Bool.{cases_eq}
use Rattle.std.proofs.lemmas.List.{length-set, get_or-set_other}
use Rattle.std.proofs.lemmas.Grind.{get_or-set_at}
use Rattle.std.proofs.lemmas.List.Elements.{All-push, All-nil, Contains-push, Contains-append_left}
use Rattle.path_order.specs.declared.starts.Start.{Start}
use Rattle.path_order.specs.Inner.Remaining.{no_start}
use Rattle.path_order.specs.Inner.Squares.{square_at, AreFiled}

-- the list of square c, after a number was put in square b
list_at : (old : List (List ℕ)) (b c i : ℕ) → b < length old → (P : List ℕ → Type 0) → (c ≡ b → P (get_or old b [] ++ i ∷ [])) → (c ≢ b → P (get_or old c [])) → P (get_or (set old b (get_or old b [] ++ i ∷ [])) c [])
list_at old b c i below P here there = by_place (cases_eq c b)
  where
    by_place : (c ≡ b) ⊎ (c ≢ b) → P (get_or (set old b (get_or old b [] ++ i ∷ [])) c [])
    by_place (inl same) = subst P (sym (get_or-set_at old b c (get_or old b [] ++ i ∷ []) [] same below)) (here same)
    by_place (inr other) = subst P (sym (get_or-set_other old b c (get_or old b [] ++ i ∷ []) [] other)) (there other)

pub one_filed : (starts : List Start) (side : ℕ) (old new : List (List ℕ)) (b i : ℕ) → i < length starts → b ≡ square_at (length old) side (get_or starts i no_start).at → b < length old → new ≡ set old b (get_or old b [] ++ i ∷ []) → AreFiled starts side old i → AreFiled starts side new (i + 1)
one_filed starts side old new b i within square below is filed = record {
  known = λ c. subst (λ (ls : List (List ℕ)). All (λ k. k < length starts) (get_or ls c [])) (sym is)
      (list_at old b c i below (λ (ks : List ℕ). All (λ k. k < length starts) ks) (λ same. All-push (λ k. k < length starts) (get_or old b []) i (filed.known b) within) (λ other. filed.known c));
  filed = λ k lt. subst (λ (ls : List (List ℕ)). Contains (get_or ls (square_at (length ls) side (get_or starts k no_start).at) []) k) (sym is)
      (subst (λ n. Contains (get_or (set old b (get_or old b [] ++ i ∷ [])) (square_at n side (get_or starts k no_start).at) []) k) (sym (length-set old b (get_or old b [] ++ i ∷ [])))
      (by_number k lt (cases_eq k i)));
}
  where
    by_number : (k : ℕ) → k < i + 1 → (k ≡ i) ⊎ (k ≢ i) → Contains (get_or (set old b (get_or old b [] ++ i ∷ [])) (square_at (length old) side (get_or starts k no_start).at) []) k
    by_number k lt (inl same) =
        let e : square_at (length old) side (get_or starts k no_start).at ≡ b = ap (λ j. square_at (length old) side (get_or starts j no_start).at) same ∙ sym square in
        let h : Contains (get_or old b [] ++ i ∷ []) k = subst (λ j. Contains (get_or old b [] ++ i ∷ []) j) (sym same) (Contains-push (get_or old b []) i) in
        subst (λ (ks : List ℕ). Contains ks k) (sym (get_or-set_at old b (square_at (length old) side (get_or starts k no_start).at) (get_or old b [] ++ i ∷ []) [] e below)) h
    by_number k lt (inr other) =
        list_at old b (square_at (length old) side (get_or starts k no_start).at) i below (λ (ks : List ℕ). Contains ks k)
        (λ same. Contains-append_left (get_or old b []) (i ∷ []) k (subst (λ c. Contains (get_or old c []) k) same (filed.filed k (omega arith))))
        (λ other_square. filed.filed k (omega arith))

-- no start is filed yet
pub none_filed : (starts : List Start) (side : ℕ) (squares : List (List ℕ)) → ((b : ℕ) → get_or squares b [] ≡ []) → AreFiled starts side squares 0
none_filed starts side squares empty = record {
  known = λ b. subst (λ (ks : List ℕ). All (λ k. k < length starts) ks) (sym (empty b)) (All-nil (λ k. k < length starts));
  filed = λ k lt. absurd (omega arith);
}
