use Rattle.std.proofs.Common.{◌≡◌, ◌+◌, length, false, ap, subst}
use Rattle.layer_ring.specs.Inner.Seats.{AtEnd, Gathered}
use Rattle.layer_ring.proofs.Seating.{parts, one_longer, gathered_more}
use Rattle.layer_ring.proofs.run.join_last.Goals as goal

pub join-requires-clause-own : goal.join-requires-clause-own
join-requires-clause-own g c = (c.requires.own.0, (parts (λ i s. AtEnd c.args.lock.now c.args.layers (i + 1) s × (s.root ≡ false)) c.args.others.now.items c.pop.new.self.items c.in-Some.other c.in-Some.ensures.items c.requires.others).0.0.lock_is)

pub join-requires-clause-free : goal.join-requires-clause-free
join-requires-clause-free g c = (c.requires.own.1, (parts (λ i s. AtEnd c.args.lock.now c.args.layers (i + 1) s × (s.root ≡ false)) c.args.others.now.items c.pop.new.self.items c.in-Some.other c.in-Some.ensures.items c.requires.others).0.0.free)

pub join-requires-clause-other : goal.join-requires-clause-other
join-requires-clause-other g c = (parts (λ i s. AtEnd c.args.lock.now c.args.layers (i + 1) s × (s.root ≡ false)) c.args.others.now.items c.pop.new.self.items c.in-Some.other c.in-Some.ensures.items c.requires.others).0.1

pub returns-clause-others : goal.returns-clause-others
returns-clause-others g c = (parts (λ i s. AtEnd c.args.lock.now c.args.layers (i + 1) s × (s.root ≡ false)) c.args.others.now.items c.pop.new.self.items c.in-Some.other c.in-Some.ensures.items c.requires.others).1

pub returns-clause-gathered : goal.returns-clause-gathered
returns-clause-gathered g c =
    gathered_more c.args.lock.now c.args.layers (length c.pop.new.self.items) c.args.count c.args.root.now c.in-Some.other c.join.new.seat.covers c.join.new.seat.seen
    (subst (λ k. Gathered c.args.layers k c.args.count c.args.root.now.covers c.args.root.now.seen) (one_longer c.args.others.now.items c.pop.new.self.items c.in-Some.other c.in-Some.ensures.items) c.requires.gathered)
    (parts (λ i s. AtEnd c.args.lock.now c.args.layers (i + 1) s × (s.root ≡ false)) c.args.others.now.items c.pop.new.self.items c.in-Some.other c.in-Some.ensures.items c.requires.others).0.0 (ap (λ s. s.covers) c.join.ensures.seat) c.join.ensures.one c.join.ensures.two
