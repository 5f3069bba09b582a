-- The words of a command line.
use Rattle.std.specs.Prelude.{ℕ, suc, ◌≡◌, List, ◌∷◌, ◌++◌, drop, length, Option, Some, None}
use Rattle.std.specs.List.{All, slice_get}
use Rattle.std.specs.Str.{IsUtf8}
use Rattle.answers.specs.declared.refusal.Refusal.{Refusal}
use Rattle.answers.specs.declared.refusal.Refusal.TheVariants as refusal

-- where the words are told, this is the one at that index, 0 that of the program's name; none behind the last
abbrev pub IsWord : Option (List (List ℕ)) → ℕ → Option (List ℕ) → Type 0
IsWord None index word = Unit {0}
IsWord (Some told) index word = word ≡ slice_get told index

-- where they are told, these are all that stand behind the program's name
abbrev pub AreWords : Option (List (List ℕ)) → List (List ℕ) → Type 0
AreWords None words = Unit {0}
AreWords (Some told) words = words ≡ drop 1 told

-- the first word that isn't UTF-8 has this number, from 1, behind the program's name
pub record IsFirstUnread (told : List (List ℕ)) (n : ℕ) : Type 0 where
  pub front : List (List ℕ)
  pub word : List ℕ
  pub rest : List (List ℕ)
  pub words : drop 1 told ≡ front ++ word ∷ rest
  pub number : n ≡ suc (length front)
  pub read : All IsUtf8 front
  pub unread : ¬ (IsUtf8 word)

-- why there are no words
abbrev pub WhyNoWords : Refusal → Option (List (List ℕ)) → Type 0
WhyNoWords (refusal.BadWord n) (Some told) = IsFirstUnread told n
WhyNoWords (refusal.BadWord n) None = Unit {0}
WhyNoWords refusal.NoMemory told = Unit {0}
WhyNoWords r told = ⊥
