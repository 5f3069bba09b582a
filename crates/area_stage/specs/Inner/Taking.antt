-- Numbers that threads take one by one, and what was worked out for each.
use Rattle.std.specs.Prelude.{ℕ, ◌≡◌, ◌+◌, ◌<◌, List, length, Option, Some, None, slice_index_or}
use Rattle.std.specs.Fn.{Shared, FnReturns}
use Rattle.area_stage.specs.declared.taking.Done.{Done}

module _ {F X : Type 0} (g : Shared F (ℕ × Unit {0}) X) (f : F) (from : ℕ) where
  -- it is one of so many, with a result that a call of f with its number may give
  pub record IsDone (count : ℕ) (done : Done X) : Type 0 where
    pub below : done.index < count
    pub gives : FnReturns g f (from + done.index, tt) done.result

  -- the slot is empty, or holds a result that a call of f with its number may give
  abbrev pub IsSlot : ℕ → Option X → Type 0
  IsSlot i None = Unit {0}
  IsSlot i (Some x) = FnReturns g f (from + i, tt) x

  -- each slot is so
  abbrev pub AreSlots : List (Option X) → Type 0
  AreSlots slots = (i : ℕ) (d : Option X) → i < length slots → IsSlot i (slice_index_or slots i d)

  -- each result is one that a call of f with its number may give
  abbrev pub GivesFrom : List X → Type 0
  GivesFrom xs = (i : ℕ) (d : X) → i < length xs
      → (slice_index_or xs i d ≡ slice_index_or xs i d) × FnReturns g f (from + i, tt) (slice_index_or xs i d)
