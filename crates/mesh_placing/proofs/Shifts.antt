-- The extent of triangles that were moved is their extent, moved.
use Rattle.std.proofs.Common.{◌≡◌, ◌∙◌, ℕ, ℤ, ◌+ℤ◌, Bool, List, [], ◌∷◌, map, Option, Some, refl, sym, ap, arith}
use Rattle.std.specs.Int.{int_min, int_max}
use Rattle.std.specs.List.{fold, position}
use Rattle.std.proofs.lemmas.Int.{clamps, ints}
use Rattle.slice_base.specs.declared.points.Pt3.{Pt3}
use Rattle.slice_base.specs.declared.points.Tri.{Tri}
use Rattle.mesh_placing.specs.declared.placing.Extent.{Extent}
use Rattle.mesh_placing.specs.declared.placing.Shift.{Shift}
use Rattle.mesh_placing.specs.Extents.{corners_of, lower, upper, stretched, extent_of}
use Rattle.mesh_placing.specs.Places.{moved, moved_corner}
use Rattle.mesh_placing.specs.Inner.Moves.{shifted}

min-shift : (a b c : ℤ) → (int_min a b +ℤ c) ≡ int_min (a +ℤ c) (b +ℤ c)
min-shift a b c = omega (arith, ints, clamps)

max-shift : (a b c : ℤ) → (int_max a b +ℤ c) ≡ int_max (a +ℤ c) (b +ℤ c)
max-shift a b c = omega (arith, ints, clamps)

lower-moved : (by : Shift) (p q : Pt3) → moved_corner by (lower p q) ≡ lower (moved_corner by p) (moved_corner by q)
lower-moved by p q = rw (min-shift p.x q.x by.x, min-shift p.y q.y by.y, min-shift p.z q.z by.z) refl

upper-moved : (by : Shift) (p q : Pt3) → moved_corner by (upper p q) ≡ upper (moved_corner by p) (moved_corner by q)
upper-moved by p q = rw (max-shift p.x q.x by.x, max-shift p.y q.y by.y, max-shift p.z q.z by.z) refl

stretched-moved : (by : Shift) (e : Extent) (p : Pt3) → shifted by (stretched e p) ≡ stretched (shifted by e) (moved_corner by p)
stretched-moved by e p = rw (lower-moved by e.low p, upper-moved by e.high p) refl

fold-moved : (by : Shift) (e : Extent) (ps : List Pt3) → shifted by (fold stretched e ps) ≡ fold stretched (shifted by e) (map (moved_corner by) ps)
fold-moved by e [] = refl
fold-moved by e (p ∷ ps) = fold-moved by (stretched e p) ps ∙ ap (λ x. fold stretched x (map (moved_corner by) ps)) (stretched-moved by e p)

corners-moved : (by : Shift) (ts : List Tri) → corners_of (map (moved by) ts) ≡ map (moved_corner by) (corners_of ts)
corners-moved by [] = refl
corners-moved by (t ∷ ts) = rw (corners-moved by ts) refl

-- of triangles among which one was found
pub extent-moved : (by : Shift) (p : Tri → Bool) (ts : List Tri) (k : ℕ) → position p ts ≡ Some k → shifted by (extent_of ts) ≡ extent_of (map (moved by) ts)
extent-moved by p [] k h = absurd (cc)
extent-moved by p (t ∷ ts) k h =
    let start : Extent = record { low = t.a; high = t.a } in
    fold-moved by start (corners_of (t ∷ ts)) ∙ ap (λ ps. fold stretched (shifted by start) ps) (sym (corners-moved by (t ∷ ts)))
