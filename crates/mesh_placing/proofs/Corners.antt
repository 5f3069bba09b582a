-- Corners and shifts, coordinate by coordinate.
use Rattle.std.proofs.Common.{◌≡◌, ◌<◌, ◌+◌, ◌∙◌, ℕ, List, ◌++◌, length, get_or, set, map, take, drop, subst, sym, ℤ, pos, ◌+ℤ◌, ◌-ℤ◌, FitsSigned, to_z, of_z, w32, w64, refl, arith}
use Rattle.std.proofs.lemmas.Int.{ints, to_z-of_z}
use Rattle.std.specs.Int.RustNames.{unsigned_abs}
use Rattle.std.proofs.lemmas.List.{get_or_default}
use Rattle.std.proofs.lemmas.List.Edits.{map_over_more}
use Rattle.slice_base.specs.declared.points.Pt3.{Pt3}
use Rattle.mesh_placing.specs.declared.placing.Shift.{Shift}

-- three coordinates that fit make the corner of which they are
pub corner-is : (p : Pt3) (x y z : ℤ) → FitsSigned w32 x → FitsSigned w32 y → FitsSigned w32 z → x ≡ p.x → y ≡ p.y → z ≡ p.z
    → ◌≡◌ {A = Pt3} (record { x = to_z w32 (of_z w32 x); y = to_z w32 (of_z w32 y); z = to_z w32 (of_z w32 z) }) p
corner-is p x y z fx fy fz ex ey ez = rw (to_z-of_z w32 x fx, to_z-of_z w32 y fy, to_z-of_z w32 z fz, ex, ey, ez) refl

-- three numbers make the shift of which they are
pub shift-is : (s : Shift) (x y z : ℤ) → x ≡ s.x → y ≡ s.y → z ≡ s.z → ◌≡◌ {A = Shift} (record { x = x; y = y; z = z }) s
shift-is s x y z ex ey ez = rw (ex, ey, ez) refl

sum-fits : (a b : ℤ) → unsigned_abs a < 4294967296 → FitsSigned w32 b → FitsSigned w64 (a +ℤ b)
sum-fits a b small fits = grind (arith, ints)

neg-fits : (a : ℤ) → FitsSigned w32 a → FitsSigned w64 (pos 0 -ℤ a)
neg-fits a fits = grind (arith, ints)

pub sum-is : (a r b : ℤ) → unsigned_abs a < 4294967296 → FitsSigned w64 a → FitsSigned w32 b → FitsSigned w64 r → r ≡ to_z w32 (of_z w32 b)
    → to_z w64 (of_z w64 (to_z w64 (of_z w64 a) +ℤ to_z w64 (of_z w64 r))) ≡ a +ℤ b
sum-is a r b small fa fb fr e =
    let f : FitsSigned w64 (a +ℤ b) = sum-fits a b small fb in
    let q : r ≡ b = e ∙ to_z-of_z w32 b fb in
    rw (to_z-of_z w64 a fa, to_z-of_z w64 r fr, q) (to_z-of_z w64 (a +ℤ b) f)

pub neg-is : (r b : ℤ) → FitsSigned w32 b → FitsSigned w64 r → r ≡ to_z w32 (of_z w32 b)
    → to_z w64 (of_z w64 (pos 0 -ℤ to_z w64 (of_z w64 r))) ≡ pos 0 -ℤ b
neg-is r b fb fr e =
    let q : r ≡ b = e ∙ to_z-of_z w32 b fb in
    rw (to_z-of_z w64 r fr, q) (to_z-of_z w64 (pos 0 -ℤ b) (neg-fits b fb))

-- one more element changed, in a walk that changes each
pub one_more : {X : Type 0} (f : X → X) (xs ys : List X) (i : ℕ) (d y : X) → i < length xs → length ys ≡ length xs → ys ≡ map f (take i xs) ++ drop i xs → y ≡ f (get_or ys i d)
    → set ys i y ≡ map f (take (i + 1) xs) ++ drop (i + 1) xs
one_more f xs ys i d y lt same held is =
    let in_ys : i < length ys = omega (arith, lt, same) in
    subst (λ v. set ys i v ≡ map f (take (i + 1) xs) ++ drop (i + 1) xs) (sym is)
    (map_over_more f xs ys i (get_or ys i d) lt held (get_or_default ys i d (get_or ys i d) in_ys))
