-- Chains in slots: each loose chain stays where it began, and a chain that is gone has no points.
use Rattle.std.specs.Prelude.{ℕ, ◌≡◌, suc, zero, [], ◌∷◌, slice_index_or, slice_set}
use Rattle.slice_base.specs.Shapes.{Loops}
use Rattle.stitch_core.specs.declared.gaps.Gap.{Gap}
use Rattle.stitch_core.specs.Next.{IsGap}
use Rattle.stitch_core.specs.Stitch.{Joining, lengthened}

-- the chains that are left, in their order
abbrev pub left : Loops → Loops
left [] = []
left ([] ∷ slots) = left slots
left ((p ∷ ps) ∷ slots) = (p ∷ ps) ∷ left slots

-- how many chains are left before a slot: the rank of its chain among those that are left
abbrev pub rank : Loops → ℕ → ℕ
rank [] i = 0
rank (c ∷ slots) zero = 0
rank ([] ∷ slots) (suc i) = rank slots i
rank ((p ∷ ps) ∷ slots) (suc i) = suc (rank slots i)

-- what the slots stand for
abbrev pub joining : Loops → Loops → Joining
joining loops slots = record { loops = loops; chains = left slots }

-- a gap between slots, by the ranks of the chains
abbrev pub ranked : Loops → Gap → Gap
ranked slots g = record { squared = g.squared; from = rank slots g.from; to = rank slots g.to }

-- no gap within reach goes from this slot to that one
abbrev pub HasNoGap : Loops → ℕ → ℕ → Type 0
HasNoGap slots from to = (g : Gap) → g.from ≡ from → g.to ≡ to → IsGap slots g → ⊥

-- once a gap is closed: the one chain is lengthened, and the other one is gone; of one chain nothing is left
abbrev pub closed : Gap → Loops → Loops
closed g slots =
    slice_set (slice_set slots g.from (lengthened g (slice_index_or slots g.from []) (slice_index_or slots g.to [])))
    g.to []
