-- The words of a command line, taken one by one.
use Rattle.std.proofs.Common.{ℕ, zero, suc, ◌≡◌, ◌+◌, List, [], ◌∷◌, ◌++◌, length, map, drop, Option, Some, None, String, refl, sym, ap, ◌∙◌, arith, append_assoc, length-append}
use Rattle.std.specs.Prelude.{◌↔◌, IsSome, string_bytes}
use Rattle.std.specs.List.{All, AllByRecursion, slice_get}
use Rattle.std.specs.Str.{IsUtf8}
use Rattle.std.proofs.lemmas.Option.{slice_get_cases}
use Rattle.std.proofs.lemmas.List.{append-nil, drop_more, drop_all, map-append}
use Rattle.std.proofs.lemmas.Str.{IsUtf8-string_bytes}
use Rattle.answers.specs.declared.refusal.Refusal.TheVariants.{BadWord}
use Rattle.cura_slice.specs.Words.{IsWord, AreWords, WhyNoWords}

-- these were taken, and of told words those at the index and behind it are left
abbrev pub Left : Option (List (List ℕ)) → List (List ℕ) → ℕ → Type 0
Left None words index = Unit {0}
Left (Some told) words index = drop 1 told ≡ words ++ drop index told

pub record Passed (told : Option (List (List ℕ))) (words : List (List ℕ)) (index : ℕ) : Type 0 where
  pub number : index ≡ suc (length words)
  pub rest : Left told words index

begun : (told : Option (List (List ℕ))) → Left told [] 1
begun None = tt
begun (Some told) = refl

pub nothing_passed : (told : Option (List (List ℕ))) → Passed told [] 1
nothing_passed told = record { number = refl; rest = begun told }

within : (told : List (List ℕ)) (index : ℕ) (w : List ℕ) → Some w ≡ slice_get told index → drop index told ≡ w ∷ drop (index + 1) told
within told index w is = grind (arith, slice_get_cases told index, drop_more told index w)

past : (told : List (List ℕ)) (index : ℕ) → None ≡ slice_get told index → drop index told ≡ []
past told index is = grind (arith, slice_get_cases told index, drop_all index told)

step : (told : Option (List (List ℕ))) (words : List (List ℕ)) (index : ℕ) (w : List ℕ) → Left told words index → IsWord told index (Some w) → Left told (words ++ w ∷ []) (index + 1)
step None words index w l is = tt
step (Some told) words index w l is = l ∙ (ap (λ ws. words ++ ws) (within told index w is) ∙ sym (append_assoc words (w ∷ []) (drop (index + 1) told)))

pub one_more : (told : Option (List (List ℕ))) (words : List (List ℕ)) (index : ℕ) (w : List ℕ) → Passed told words index → IsWord told index (Some w) → Passed told (words ++ w ∷ []) (index + 1)
one_more told words index w p is = record {
  number = omega (arith, p.number, length-append words (w ∷ []));
  rest = step told words index w p.rest is;
}

-- the same of a string that was pushed
pub one_more_string : {Z : Type 0} (told : Option (List (List ℕ))) (ss ss' : List (String Z)) (s : String Z) (bytes : List ℕ) (index : ℕ) → ss' ≡ ss ++ s ∷ [] → string_bytes s ≡ bytes → Passed told (map string_bytes ss) index → IsWord told index (Some bytes) → Passed told (map string_bytes ss') (index + 1)
one_more_string told ss ss' s bytes index pushed read p is =
    let grown : map string_bytes ss' ≡ map string_bytes ss ++ bytes ∷ [] = ap (map string_bytes) pushed ∙ (map-append string_bytes ss (s ∷ []) ∙ ap (λ b. map string_bytes ss ++ b ∷ []) read) in
    rw grown (one_more told (map string_bytes ss) index bytes p is)

all : (told : Option (List (List ℕ))) (words : List (List ℕ)) (index : ℕ) → Left told words index → IsWord told index None → AreWords told words
all None words index l is = tt
all (Some told) words index l is = sym (l ∙ (ap (λ ws. words ++ ws) (past told index is) ∙ append-nil words))

pub all_passed : (told : Option (List (List ℕ))) (words : List (List ℕ)) (index : ℕ) → Passed told words index → IsWord told index None → AreWords told words
all_passed told words index p is = all told words index p.rest is

-- words that are strings are UTF-8
by_recursion : {Z : Type 0} (ss : List (String Z)) → AllByRecursion IsUtf8 (map string_bytes ss)
by_recursion [] = tt
by_recursion (s ∷ ss) = (IsUtf8-string_bytes s, by_recursion ss)

all_from : (P : List ℕ → Type 0) (ws : List (List ℕ)) → AllByRecursion P ws → All P ws
all_from P [] h k d lt = absurd (omega arith)
all_from P (w ∷ ws) h zero d lt = h.0
all_from P (w ∷ ws) h (suc k) d lt = all_from P ws h.1 k d (omega arith)

pub strings_read : {Z : Type 0} (ss : List (String Z)) → All IsUtf8 (map string_bytes ss)
strings_read ss = all_from IsUtf8 (map string_bytes ss) (by_recursion ss)

not_some : {X : Type 0} (r : Option X) → r ≡ None → IsSome r → ⊥
not_some None e h = absurd (cc)
not_some (Some x) e h = absurd (cc)

pub unreadable : {X : Type 0} (r : Option X) (w : List ℕ) → r ≡ None → (IsSome r ↔ IsUtf8 w) → ¬ (IsUtf8 w)
unreadable r w e valid = λ u. not_some r e (valid.1 u)

pub first_unread : (told : Option (List (List ℕ))) (words : List (List ℕ)) (index : ℕ) (w : List ℕ) → Passed told words index → IsWord told index (Some w) → All IsUtf8 words → ¬ (IsUtf8 w) → WhyNoWords (BadWord index) told
first_unread None words index w p is read unread = tt
first_unread (Some told) words index w p is read unread = record {
  front = words;
  word = w;
  rest = drop (index + 1) told;
  words = p.rest ∙ ap (λ ws. words ++ ws) (within told index w is);
  number = p.number;
  read = read;
  unread = unread;
}
