-- The middles of walls, and walls in two steps.
use Rattle.std.proofs.Common.{◌≡◌, ◌∙◌, ◌<◌, ◌≤◌, ◌+◌, ◌*◌, ◌/◌, ℕ, suc, List, Result, Ok, arith, sym, subst}
use Rattle.std.proofs.Math.Nat.{mul-le-mul_right}
use Rattle.slice_base.specs.declared.points.Pt.{Pt}
use Rattle.slice_base.specs.Outcomes.{up_to}
use Rattle.slice_base.proofs.Outcomes.{and_then-ok}
use Rattle.edge_cut.specs.declared.cutting.CutFault.{CutFault}
use Rattle.edge_cut.specs.Faults.{IsCutFault}
use Rattle.wall_skin.specs.declared.walling.WallSet.{WallSet}
use Rattle.wall_skin.specs.Walls.{middle_of, wall_of, inner_area_of, set_of, with_inner, walls_of}
use Rattle.wall_skin.proofs.Faults.{and_then-fault}

half-le : (width : ℕ) → 0 < width → (width + 1) / 2 ≤ width
half-le width some = omega arith

pub middle_of-le : (width count k : ℕ) → 0 < width → k < count → middle_of width k ≤ count * width
middle_of-le width count k some below =
    let t : suc k * width ≤ count * width = mul-le-mul_right width below in
    let h : (width + 1) / 2 ≤ width = half-le width some in
    omega arith

-- ---- walls in two steps

pub walls-loops_fault : (outline : List (List Pt)) (count width : ℕ) (fault : CutFault) → IsCutFault (up_to (wall_of outline width) count) fault → IsCutFault (walls_of outline count width) fault
unfolding walls_of
walls-loops_fault outline count width fault h = and_then-fault (up_to (wall_of outline width) count) (with_inner outline count width) fault h

pub walls-inner_fault : (outline : List (List Pt)) (count width : ℕ) (loops : List (List (List Pt))) (fault : CutFault) → up_to (wall_of outline width) count ≡ Ok loops → IsCutFault (inner_area_of outline width count) fault → IsCutFault (walls_of outline count width) fault
unfolding walls_of
walls-inner_fault outline count width loops fault e h =
    subst (λ (r : Result WallSet ℕ). IsCutFault r fault) (sym (and_then-ok (up_to (wall_of outline width) count) (with_inner outline count width) loops e))
    (and_then-fault (inner_area_of outline width count) (λ (inner : List (List Pt)). Ok (set_of loops inner)) fault h)

pub walls-are : (outline : List (List Pt)) (count width : ℕ) (loops : List (List (List Pt))) (inner : List (List Pt)) → up_to (wall_of outline width) count ≡ Ok loops → inner_area_of outline width count ≡ Ok inner → walls_of outline count width ≡ Ok (set_of loops inner)
unfolding walls_of
walls-are outline count width loops inner e f =
    and_then-ok (up_to (wall_of outline width) count) (with_inner outline count width) loops e
    ∙ and_then-ok (inner_area_of outline width count) (λ (i : List (List Pt)). let r : Result WallSet ℕ = Ok (set_of loops i) in r) inner f
