-- How far a pass has come.
use Rattle.std.specs.Prelude.{ℕ, ◌≡◌, ◌+◌, ◌≤◌, List, ◌++◌, length, Option, Some, None, Result}
use Rattle.edge_cut.specs.declared.passes.Marked.{Marked}
use Rattle.edge_cut.specs.declared.passes.Pieces.{Pieces}
use Rattle.edge_cut.specs.declared.cutting.CutFault.{CutFault}
use Rattle.edge_cut.specs.Cut.{unless_long, pass_of}
use Rattle.edge_cut.specs.Faults.{IsCutFault}
use Rattle.edge_cut.specs.Inner.News.{AreSettled}

-- the work goes on with this list
pub record GoesOn (ms list : List Marked) : Type 0 where
  pub is : list ≡ ms
  pub few : length list ≤ 100000

-- the work ends at this list, whatever were to come
abbrev pub EndsWith : List Marked → CutFault → Type 0
EndsWith ms fault = (more : Result (List Marked) ℕ) → IsCutFault (unless_long ms more) fault

-- the pieces are these, listed where there are at most 100,000 and counted else
pub record HoldsPieces (pieces : Pieces) (ms : List Marked) : Type 0 where
  pub counted : pieces.count ≡ length ms
  pub listed : pieces.count ≤ 100000 → pieces.list.items ≡ ms

-- these are put behind the pieces
pub record AddsPieces (old new : Pieces) (ms : List Marked) : Type 0 where
  pub counted : new.count ≡ old.count + length ms
  pub listed : new.count ≤ 100000 → new.list.items ≡ old.list.items ++ ms

-- the pieces are those of one pass, and of any two that aren't new one is known to meet the other at ends alone
pub record ArePieces (ms : List Marked) (pieces : Pieces) : Type 0 where
  pub exact : HoldsPieces pieces (pass_of ms)
  pub settled : AreSettled pieces.list.items pieces.news.items

-- the pieces are those of one pass; without any it changes nothing
abbrev pub IsPass : List Marked → Option Pieces → Type 0
IsPass ms None = pass_of ms ≡ ms
IsPass ms (Some pieces) = ArePieces ms pieces

-- the work goes on with these pieces
pub record GoesOnWith (ms : List Marked) (pieces : Pieces) : Type 0 where
  pub on : GoesOn (pass_of ms) pieces.list.items
  pub settled : AreSettled pieces.list.items pieces.news.items

-- it goes on with the next list; without any this one stays as it is
abbrev pub IsNext : List Marked → Option Pieces → Type 0
IsNext ms None = pass_of ms ≡ ms
IsNext ms (Some pieces) = GoesOnWith ms pieces
