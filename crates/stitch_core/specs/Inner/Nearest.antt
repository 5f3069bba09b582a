-- Of the gaps of a kind, the one that is closed first.
use Rattle.std.specs.Prelude.{ℕ, ◌≡◌, ◌<◌, ◌==◌, ◌||◌, Bool, true, false, length, slice_index_or, Option, Some, None, List}
use Rattle.slice_base.specs.Shapes.{Loops}
use Rattle.stitch_core.specs.declared.gaps.Gap.{Gap}
use Rattle.stitch_core.specs.Gaps.{lesser}
use Rattle.stitch_core.specs.Next.{IsGap, IsNotAfter}

-- of the gaps of kind P this one is closed first
pub record ComesFirst (P : Gap → Type 0) (slots : Loops) (f : Gap) : Type 0 where
  pub is_gap : IsGap slots f
  pub kind : P f
  pub first : (g : Gap) → IsGap slots g → P g → IsNotAfter f g

-- the gap of kind P that is closed first, or none where there is no such gap
abbrev pub IsFirst : (Gap → Type 0) → Loops → Option Gap → Type 0
IsFirst P slots None = (g : Gap) → IsGap slots g → P g → ⊥
IsFirst P slots (Some f) = ComesFirst P slots f

-- the gap from the end of the chain in this slot that is closed first
abbrev pub IsNearest : Loops → ℕ → Option Gap → Type 0
IsNearest slots from o = IsFirst (λ g. g.from ≡ from) slots o

-- for each slot the gap from its chain's end that is closed first
pub record AreNearest (slots : Loops) (gaps : List (Option Gap)) : Type 0 where
  pub same : length gaps ≡ length slots
  pub each : (from : ℕ) → from < length slots → IsNearest slots from (slice_index_or gaps from None)

-- the lesser of two gaps, where there are any; of equal ones the first
abbrev pub earlier_of : Option Gap → Option Gap → Option Gap
earlier_of best None = best
earlier_of best (Some g) = lesser best g

-- the gap leads to this slot
abbrev pub leads_to : Option Gap → ℕ → Bool
leads_to None to = false
leads_to (Some g) to = g.to == to

-- once the gap is closed, the nearest gap of this slot has to be looked for anew
abbrev pub is_stale_of : Gap → ℕ → Option Gap → Bool
is_stale_of closing from nearest = from == closing.from || from == closing.to || leads_to nearest closing.to

-- what a slot had stays, or is the nearest gap that is there now
pub record IsRenewed (slots : Loops) (closing : Gap) (from : ℕ) (old new : Option Gap) : Type 0 where
  pub stays : is_stale_of closing from old ≡ false → new ≡ old
  pub anew : is_stale_of closing from old ≡ true → IsNearest slots from new
