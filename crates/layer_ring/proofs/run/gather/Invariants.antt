use Rattle.std.proofs.Common.{◌≡◌, ℕ, ◌+◌, ◌<◌, length, get_or, false}
use Rattle.layer_ring.specs.Inner.Seats.{AtEnd, Gathered}
use Rattle.layer_ring.proofs.run.gather.Given as goal

abbrev pub invariant-together : goal.invariant-together
invariant-together g l =
    (l.root ≡ record l.initial.root { covers = l.root.covers; seen = l.root.seen })
    × (length l.others.items + l.done ≡ l.count)
    × ((i : ℕ) (d : _) → i < length l.others.items → AtEnd l.lock l.layers (i + 1) (get_or l.others.items i d) × ((get_or l.others.items i d).root ≡ false))
    × Gathered l.layers (length l.others.items) l.count l.root.covers l.root.seen
