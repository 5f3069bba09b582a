-- Meeting points of edges, listed by the indices of the edges.
use Rattle.std.specs.Prelude.{ℕ, pos, ◌≡◌, ◌<◌, ◌≤◌, ◌≢◌, ◌⊎◌, List, length, slice_index_or}
use Rattle.std.specs.List.{Contains}
use Rattle.slice_base.specs.declared.points.Pt.{Pt}
use Rattle.slice_base.specs.declared.points.Edge.{Edge}
use Rattle.edge_cut.specs.declared.passes.Marked.{Marked}
use Rattle.edge_cut.specs.declared.columns.Filed.{Filed}
use Rattle.edge_cut.specs.declared.meetings.Meeting.{Meeting}
use Rattle.edge_cut.specs.Meeting.{meeting_of}
use Rattle.edge_cut.specs.Ordered.{IsEnd, MeetsAt}
use Rattle.edge_cut.specs.Inner.Indices.{nothing}

-- the edge at i meets another one at p
abbrev pub meeting_at : ℕ → Pt → Meeting
meeting_at i p = record { index = i; at = p }

-- what an index past the end would read
abbrev pub no_meeting : Meeting
no_meeting = record { index = 0; at = record { x = pos 0; y = pos 0 } }

-- what was listed still is
abbrev pub Keeps : List Meeting → List Meeting → Type 0
Keeps old new = (m : Meeting) → Contains old m → Contains new m

-- each of these points is listed under i, or is an end of e
abbrev pub AreAt : Edge → ℕ → List Pt → List Meeting → Type 0
AreAt e i ps meetings = (p : Pt) → Contains ps p → Contains meetings (meeting_at i p) ⊎ IsEnd e p

-- the meeting is at i, and at one of these points
abbrev pub IsOneAt : ℕ → List Pt → Meeting → Type 0
IsOneAt i ps m = (m.index ≡ i) × Contains ps m.at

-- these points are listed for the edge e at i, but for its ends, and no others
pub record Lists (e : Edge) (i : ℕ) (ps : List Pt) (old new : List Meeting) : Type 0 where
  pub kept : Keeps old new
  pub each : AreAt e i ps new
  pub only : (m : Meeting) → Contains new m → Contains old m ⊎ IsOneAt i ps m

-- the meeting points of the edges e and f, at i and j, are listed for both, and no others
pub record ListsBoth (e f : Edge) (i j : ℕ) (old new : List Meeting) : Type 0 where
  pub kept : Keeps old new
  pub forth : AreAt e i (meeting_of e f) new
  pub back : AreAt f j (meeting_of f e) new
  pub only : (m : Meeting) → Contains new m
      → Contains old m ⊎ (IsOneAt i (meeting_of e f) m ⊎ IsOneAt j (meeting_of f e) m)

-- the edge at i meets that at j at points that are listed, or at its own ends
abbrev pub IsListed : List Marked → List Meeting → ℕ → ℕ → Type 0
IsListed all meetings i j =
    let e = (slice_index_or all i nothing).edge in
    AreAt e i (meeting_of e (slice_index_or all j nothing).edge) meetings

-- both ways round
pub record AreCompared (all : List Marked) (meetings : List Meeting) (i j : ℕ) : Type 0 where
  pub forth : IsListed all meetings i j
  pub back : IsListed all meetings j i

-- each is one of an edge with another one
abbrev pub AreMeetings : List Marked → List Meeting → Type 0
AreMeetings all meetings =
    (m : Meeting) → Contains meetings m → MeetsAt (slice_index_or all m.index nothing).edge all m.at

-- the edges at i and j were compared
pub record Compares (all : List Marked) (i j : ℕ) (old new : List Meeting) : Type 0 where
  pub kept : Keeps old new
  pub compared : AreCompared all new i j
  pub are : AreMeetings all old → AreMeetings all new

-- the box at r was compared with those of its column from r on up to t
abbrev pub ComparedUpTo : List Marked → List Meeting → List Filed → ℕ → ℕ → Type 0
ComparedUpTo all meetings fs r t =
    (s : ℕ) (d : Filed) → r < s → s < t → (slice_index_or fs r d).column ≡ (slice_index_or fs s d).column
    → AreCompared all meetings (slice_index_or fs r d).extent.index (slice_index_or fs s d).extent.index

-- all boxes up to r were compared with those behind them
abbrev pub ComparedBelow : List Marked → List Meeting → List Filed → ℕ → Type 0
ComparedBelow all meetings fs r = (q : ℕ) → q < r → ComparedUpTo all meetings fs q (length fs)

-- all meeting points of any two edges are listed, but for own ends
abbrev pub AreListed : List Marked → List Meeting → Type 0
AreListed all meetings = (i j : ℕ) → i < length all → j < length all → i ≢ j → IsListed all meetings i j

-- the meetings stand by the indices of their edges
abbrev pub ByIndex : List Meeting → Type 0
ByIndex meetings =
    (i j : ℕ) (d : Meeting) → i ≤ j → j < length meetings
    → (slice_index_or meetings i d).index ≤ (slice_index_or meetings j d).index

-- the meetings before k have a lower index than this one, and those from k on don't
pub record IndexFrom (meetings : List Meeting) (k index : ℕ) : Type 0 where
  pub before : (j : ℕ) (d : Meeting) → j < k → j < length meetings → (slice_index_or meetings j d).index < index
  pub from : (j : ℕ) (d : Meeting) → k ≤ j → j < length meetings → index ≤ (slice_index_or meetings j d).index

-- some are all with this index, and no others
pub record IsGroup (meetings some : List Meeting) (index : ℕ) : Type 0 where
  pub each : (m : Meeting) → Contains meetings m → m.index ≡ index → Contains some m
  pub only : (m : Meeting) → Contains some m → Contains meetings m × (m.index ≡ index)

-- some tell all meeting points of e with these edges, but for its ends
pub record TellAll (e : Edge) (all : List Marked) (index : ℕ) (some : List Meeting) : Type 0 where
  pub each : (p : Pt) → MeetsAt e all p → Contains some (meeting_at index p) ⊎ IsEnd e p
  pub only : (m : Meeting) → Contains some m → MeetsAt e all m.at
