use Rattle.std.proofs.Common.{◌≡◌, ℕ, ◌+◌, ◌<◌, length, get_or}
use Rattle.std.specs.Vec.{vec_capacity}
use Rattle.layer_ring.specs.Inner.Seats.{made_seat}
use Rattle.layer_ring.proofs.run.split_all.Given as goal

abbrev pub invariant-split : goal.invariant-split
invariant-split g l =
    (l.root ≡ record l.initial.root { made = l.number })
    × (length l.seats.items + 1 ≡ l.number)
    × (vec_capacity l.seats ≡ vec_capacity l.initial.seats)
    × ((i : ℕ) (d : _) → i < length l.seats.items → get_or l.seats.items i d ≡ made_seat l.initial.root (i + 1))
