-- The extent of corners has their least and greatest coordinates.
use Rattle.std.proofs.Common.{◌≡◌, ◌<◌, ◌⊎◌, ℤ, ◌≤ℤ◌, List, [], ◌∷◌, length, map, inl, inr, arith, sym, refl}
use Rattle.std.specs.Int.{int_min, int_max}
use Rattle.std.specs.List.{Contains, fold}
use Rattle.std.proofs.lemmas.Int.{ints, fold-int_max_bounds, fold-int_max_reached, fold-int_min_bounds, fold-int_min_reached}
use Rattle.std.proofs.lemmas.List.Elements.{All-contains}
use Rattle.slice_base.specs.declared.points.Pt3.{Pt3}
use Rattle.slice_base.specs.declared.points.Tri.{Tri}
use Rattle.mesh_placing.specs.declared.placing.Extent.{Extent}
use Rattle.mesh_placing.specs.Extents.{corners_of, stretched, extent_of}
use Rattle.mesh_placing.specs.Extents.{IsLeast, IsGreatest, IsExtent}

least-fold : (a : ℤ) (zs : List ℤ) (r : ℤ) → r ≡ fold int_min a (a ∷ zs) → IsLeast (a ∷ zs) r
least-fold a zs r is = record { under_all = (fold-int_min_bounds a (a ∷ zs) r is).1; reached = by_place (fold-int_min_reached a (a ∷ zs) r is) }
  where
    by_place : (r ≡ a) ⊎ Contains (a ∷ zs) r → Contains (a ∷ zs) r
    by_place (inl first) = (0, omega arith, sym first)
    by_place (inr later) = later

greatest-fold : (a : ℤ) (zs : List ℤ) (r : ℤ) → r ≡ fold int_max a (a ∷ zs) → IsGreatest (a ∷ zs) r
greatest-fold a zs r is = record { over_all = (fold-int_max_bounds a (a ∷ zs) r is).1; reached = by_place (fold-int_max_reached a (a ∷ zs) r is) }
  where
    by_place : (r ≡ a) ⊎ Contains (a ∷ zs) r → Contains (a ∷ zs) r
    by_place (inl first) = (0, omega arith, sym first)
    by_place (inr later) = later

-- direction by direction

left-fold : (e : Extent) (ps : List Pt3) → (fold stretched e ps).low.x ≡ fold int_min e.low.x (map (λ p. p.x) ps)
left-fold e [] = refl
left-fold e (p ∷ ps) = left-fold (stretched e p) ps

right-fold : (e : Extent) (ps : List Pt3) → (fold stretched e ps).high.x ≡ fold int_max e.high.x (map (λ p. p.x) ps)
right-fold e [] = refl
right-fold e (p ∷ ps) = right-fold (stretched e p) ps

front-fold : (e : Extent) (ps : List Pt3) → (fold stretched e ps).low.y ≡ fold int_min e.low.y (map (λ p. p.y) ps)
front-fold e [] = refl
front-fold e (p ∷ ps) = front-fold (stretched e p) ps

back-fold : (e : Extent) (ps : List Pt3) → (fold stretched e ps).high.y ≡ fold int_max e.high.y (map (λ p. p.y) ps)
back-fold e [] = refl
back-fold e (p ∷ ps) = back-fold (stretched e p) ps

bottom-fold : (e : Extent) (ps : List Pt3) → (fold stretched e ps).low.z ≡ fold int_min e.low.z (map (λ p. p.z) ps)
bottom-fold e [] = refl
bottom-fold e (p ∷ ps) = bottom-fold (stretched e p) ps

top-fold : (e : Extent) (ps : List Pt3) → (fold stretched e ps).high.z ≡ fold int_max e.high.z (map (λ p. p.z) ps)
top-fold e [] = refl
top-fold e (p ∷ ps) = top-fold (stretched e p) ps

pub extent_of-tight : (ts : List Tri) → 0 < length ts → IsExtent (corners_of ts) (extent_of ts)
extent_of-tight [] some = absurd (omega arith)
extent_of-tight (t ∷ ts) some =
    let start : Extent = record { low = t.a; high = t.a } in
    let rest : List Pt3 = t.b ∷ t.c ∷ corners_of ts in
    let e : Extent = extent_of (t ∷ ts) in
    record {
      left = least-fold t.a.x (map (λ p. p.x) rest) e.low.x (left-fold start (t.a ∷ rest));
      right = greatest-fold t.a.x (map (λ p. p.x) rest) e.high.x (right-fold start (t.a ∷ rest));
      front = least-fold t.a.y (map (λ p. p.y) rest) e.low.y (front-fold start (t.a ∷ rest));
      back = greatest-fold t.a.y (map (λ p. p.y) rest) e.high.y (back-fold start (t.a ∷ rest));
      bottom = least-fold t.a.z (map (λ p. p.z) rest) e.low.z (bottom-fold start (t.a ∷ rest));
      top = greatest-fold t.a.z (map (λ p. p.z) rest) e.high.z (top-fold start (t.a ∷ rest));
    }

-- there is one

one_least : (zs : List ℤ) (y z : ℤ) → IsLeast zs y → IsLeast zs z → y ≡ z
one_least zs y z g h =
    let from : y ≤ℤ z = All-contains (λ w. y ≤ℤ w) zs z g.under_all h.reached in
    let to : z ≤ℤ y = All-contains (λ w. z ≤ℤ w) zs y h.under_all g.reached in
    omega (arith, ints)

one_greatest : (zs : List ℤ) (y z : ℤ) → IsGreatest zs y → IsGreatest zs z → y ≡ z
one_greatest zs y z g h =
    let from : z ≤ℤ y = All-contains (λ w. w ≤ℤ y) zs z g.over_all h.reached in
    let to : y ≤ℤ z = All-contains (λ w. w ≤ℤ z) zs y h.over_all g.reached in
    omega (arith, ints)

extent-is : (f : Extent) (left front bottom right back top : ℤ) → left ≡ f.low.x → front ≡ f.low.y → bottom ≡ f.low.z → right ≡ f.high.x → back ≡ f.high.y → top ≡ f.high.z
    → ◌≡◌ {A = Extent} (record { low = record { x = left; y = front; z = bottom }; high = record { x = right; y = back; z = top } }) f
extent-is f left front bottom right back top el ef eb er ek et = rw (el, ef, eb, er, ek, et) refl

pub extent_of-one : (ts : List Tri) (e : Extent) → 0 < length ts → IsExtent (corners_of ts) e → e ≡ extent_of ts
extent_of-one ts e some h =
    let g = extent_of-tight ts some in
    let ps = corners_of ts in
    let f : Extent = extent_of ts in
    extent-is f e.low.x e.low.y e.low.z e.high.x e.high.y e.high.z
    (one_least (map (λ p. p.x) ps) e.low.x f.low.x h.left g.left)
    (one_least (map (λ p. p.y) ps) e.low.y f.low.y h.front g.front)
    (one_least (map (λ p. p.z) ps) e.low.z f.low.z h.bottom g.bottom)
    (one_greatest (map (λ p. p.x) ps) e.high.x f.high.x h.right g.right)
    (one_greatest (map (λ p. p.y) ps) e.high.y f.high.y h.back g.back)
    (one_greatest (map (λ p. p.z) ps) e.high.z f.high.z h.top g.top)
