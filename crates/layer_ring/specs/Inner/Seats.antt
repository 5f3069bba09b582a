-- The seats of a ring's workers.
use Rattle.std.specs.Prelude.{ℕ, ◌≡◌, ◌<◌, ◌≤◌, true, false, List, [], ◌∷◌, Option, IsSomeAnd}
use mathlib.Core.List.{IsPrefix}
use Rattle.turn_lock.specs.Events.{has_number}
use Rattle.turn_lock.specs.Turns.{Lock, Seated}
use Rattle.ring_core.specs.declared.event.Event.{Event}
use Rattle.ring_core.specs.declared.ring.RingName.{RingName}
use Rattle.ring_core.specs.Core.{own, stage, resting}
use Rattle.layer_ring.specs.Ends.{Ended}

-- behind a beginning of this history that has all its events, the worker w had ended
pub record SawEnd (n w : ℕ) (es : List Event) : Type 0 where
  pub seen : List Event
  pub before : IsPrefix seen es
  pub all_own : own w es ≡ own w seen
  pub ended : Ended n w seen

-- this number is covered, and its worker's end was seen
abbrev pub Joined : ℕ → List ℕ → List Event → ℕ → Type 0
Joined n covers seen v = (has_number covers v ≡ true) × SawEnd n v seen

-- the root and of m others those above the number k are together
pub record Gathered (n k m : ℕ) (covers : List ℕ) (seen : List Event) : Type 0 where
  pub root : Joined n covers seen 0
  pub others : (v : ℕ) → k < v → v ≤ m → Joined n covers seen v

module _ {N : Type 0} where
  -- it may begin to work for this planner
  abbrev pub IsReady : Lock → N → Seated (RingName N) Event → Type 0
  IsReady lock planner s =
      (s.lock ≡ lock.id) × (s.turn ≡ false) × IsSomeAnd s.name (λ n. (n.planner ≡ planner) × (s.number < n.workers))
      × (stage s.number s.seen ≡ resting)

  -- its worker ended, and nothing else about it changed
  abbrev pub HasWorked : Seated (RingName N) Event → Seated (RingName N) Event → Type 0
  HasWorked s t = (t ≡ record s { seen = t.seen }) × IsSomeAnd s.name (λ n. Ended n.layers s.number t.seen)

  -- behind its worker's end: it is free, and was joined to no other
  pub record AtEnd (lock : Lock) (layers number : ℕ) (s : Seated (RingName N) Event) : Type 0 where
    pub lock_is : s.lock ≡ lock.id
    pub free : s.turn ≡ false
    pub covers_is : s.covers ≡ number ∷ []
    pub ended : Ended layers number s.seen

module _ {A E : Type 0} where
  -- the root's seat, new
  abbrev pub root_seat : Lock → Option A → Seated A E
  root_seat lock name = record {
    lock = lock.id;
    name = name;
    number = 0;
    covers = 0 ∷ [];
    seen = [];
    turn = false;
    root = true;
    made = 1;
  }

  -- the seat of this number that a root makes
  abbrev pub made_seat : Seated A E → ℕ → Seated A E
  made_seat r n = record {
    lock = r.lock;
    name = r.name;
    number = n;
    covers = n ∷ [];
    seen = r.seen;
    turn = false;
    root = false;
    made = 0;
  }
