-- The first triangle outside the volume, before and after the move.
use Rattle.std.proofs.Common.{◌≡◌, ◌≤◌, ◌+◌, ◌∙◌, ℕ, ℤ, pos, ◌≤ℤ◌, Bool, true, false, cond, not, ◌&&◌, List, [], ◌∷◌, map, get_or, Option, Some, None, Result, Ok, Err, ◌↔◌, arith, refl, sym, ap}
use Rattle.std.specs.List.{All, position, prefix_len, position_from, slice_get}
use Rattle.std.proofs.lemmas.Int.{ints}
use Rattle.std.proofs.lemmas.Bool.{and_parts}
use Rattle.std.proofs.lemmas.Option.{none-some}
use Rattle.std.proofs.lemmas.List.{length-map}
use Rattle.std.proofs.lemmas.List.Elements.{All-cons, All-nil}
use Rattle.std.proofs.lemmas.Iterator.Adapters.{position_from-zero}
use Rattle.slice_base.specs.declared.points.Pt3.{Pt3}
use Rattle.slice_base.specs.declared.points.Tri.{Tri}
use Rattle.slice_base.specs.Boxes.{IsIn, TriIn, TriOver, TriUnder, from_above}
use Rattle.settings_core.specs.declared.resolved.Settings.{Settings}
use Rattle.settings_core.specs.declared.resolved.MeshSettings.{MeshSettings}
use Rattle.settings_core.specs.Valid.{IsPrintInRange}
use Rattle.mesh_placing.specs.declared.placing.Excess.{Excess}
use Rattle.mesh_placing.specs.declared.placing.OutsideVolume.{OutsideVolume}
use Rattle.mesh_placing.specs.declared.placing.Shift.{Shift}
use Rattle.mesh_placing.specs.Places.{shift_of, moved, moved_corner, placed, placed_with}
use Rattle.mesh_placing.specs.Volume.{bed_of, is_within, is_inside, leaves, first_outside}
use Rattle.mesh_placing.specs.Inner.Moves.{IsMovedInside, AreMovedInside}

prefix-map : {X Y : Type 0} (p : Y → Bool) (f : X → Y) (xs : List X) → prefix_len p (map f xs) ≡ prefix_len (λ x. p (f x)) xs
prefix-map p f [] = refl
prefix-map p f (x ∷ xs) = rw (prefix-map p f xs) refl

pub position-map : {X Y : Type 0} (p : Y → Bool) (f : X → Y) (xs : List X) → position p (map f xs) ≡ position (λ x. p (f x)) xs
position-map p f xs = rw (prefix-map (λ y. not (p y)) f xs, length-map xs f) refl

neither : (b : Bool) (i : ℕ) (r : Option ℕ) → cond b (Some i) r ≡ None → (b ≡ false) × (r ≡ None)
neither true i r h = absurd (none-some i (sym h))
neither false i r h = (refl, h)

none_from : {X : Type 0} (p : X → Bool) (i : ℕ) (xs : List X) → position_from p i xs ≡ None → All (λ x. p x ≡ false) xs
none_from p i [] h = All-nil (λ y. p y ≡ false)
none_from p i (x ∷ xs) h = let both = neither (p x) i (position_from p (i + 1) xs) h in All-cons (λ y. p y ≡ false) x xs both.0 (none_from p (i + 1) xs both.1)

pub none_passes : {X : Type 0} (p : X → Bool) (xs : List X) → position p xs ≡ None → All (λ x. p x ≡ false) xs
none_passes p xs h = none_from p 0 xs (sym (position_from-zero p xs) ∙ h)

-- a coordinate in the volume
within-from : (size : ℕ) (v : ℤ) → is_within size v ≡ true → pos 0 ≤ℤ v
within-from size v h = grind (arith, ints)

within-to : (size : ℕ) (v : ℤ) → size ≤ 1000000 → is_within size v ≡ true → v ≤ℤ pos 1000000
within-to size v le h = grind (arith, ints)

inside-near : (s : Settings) (by : Shift) (p : Pt3) → IsPrintInRange s → is_inside s (moved_corner by p) ≡ true → IsMovedInside by p
inside-near s by p ranges h =
    let q : Pt3 = moved_corner by p in
    let zs = and_parts (is_within s.machine_width q.x && is_within s.machine_depth q.y) (is_within s.machine_height q.z) h in
    let xy = and_parts (is_within s.machine_width q.x) (is_within s.machine_depth q.y) zs.0 in
    record {
      x_from = within-from s.machine_width q.x xy.0;
      x_to = within-to s.machine_width q.x ranges.machine_width.1 xy.0;
      y_from = within-from s.machine_depth q.y xy.1;
      y_to = within-to s.machine_depth q.y ranges.machine_depth.1 xy.1;
      z_from = within-from s.machine_height q.z zs.1;
      z_to = within-to s.machine_height q.z ranges.machine_height.1 zs.1;
    }

not_false : (b : Bool) → not b ≡ false → b ≡ true
not_false true h = refl
not_false false h = sym h

stays-near : (s : Settings) (by : Shift) (t : Tri) → IsPrintInRange s → leaves s (moved by t) ≡ false → AreMovedInside by t
stays-near s by t ranges h =
    let a : Bool = is_inside s (moved_corner by t.a) in
    let b : Bool = is_inside s (moved_corner by t.b) in
    let c : Bool = is_inside s (moved_corner by t.c) in
    let all = and_parts (a && b) c (not_false (a && b && c) h) in
    let ab = and_parts a b all.0 in
    record { a = inside-near s by t.a ranges ab.0; b = inside-near s by t.b ranges ab.1; c = inside-near s by t.c ranges all.1 }

pub all-near : (s : Settings) (by : Shift) (ts : List Tri) → IsPrintInRange s → position (λ t. leaves s (moved by t)) ts ≡ None → All (AreMovedInside by) ts
all-near s by ts ranges h = λ k d lt. stays-near s by (get_or ts k d) ranges (none_passes (λ t. leaves s (moved by t)) ts h k d lt)

within-size : (size : ℕ) (v : ℤ) → is_within size v ≡ true → v ≤ℤ pos size
within-size size v h = grind (arith, ints)

-- what the volume says of a corner
record Inside (s : Settings) (p : Pt3) : Type 0 where
  on_bed : IsIn (bed_of s) (from_above p)
  over : pos 0 ≤ℤ p.z
  under : p.z ≤ℤ pos s.machine_height

inside-corner : (s : Settings) (p : Pt3) → is_inside s p ≡ true → Inside s p
inside-corner s p h =
    let zs = and_parts (is_within s.machine_width p.x && is_within s.machine_depth p.y) (is_within s.machine_height p.z) h in
    let xy = and_parts (is_within s.machine_width p.x) (is_within s.machine_depth p.y) zs.0 in
    record {
      on_bed = record {
        x_from = within-from s.machine_width p.x xy.0;
        x_to = within-size s.machine_width p.x xy.0;
        y_from = within-from s.machine_depth p.y xy.1;
        y_to = within-size s.machine_depth p.y xy.1;
      };
      over = within-from s.machine_height p.z zs.1;
      under = within-size s.machine_height p.z zs.1;
    }

-- and of the corners of a triangle that doesn't leave it
record Stays (s : Settings) (t : Tri) : Type 0 where
  a_in : Inside s t.a
  b_in : Inside s t.b
  c_in : Inside s t.c

stays : (s : Settings) (t : Tri) → leaves s t ≡ false → Stays s t
stays s t h =
    let a : Bool = is_inside s t.a in
    let b : Bool = is_inside s t.b in
    let c : Bool = is_inside s t.c in
    let all = and_parts (a && b) c (not_false (a && b && c) h) in
    let ab = and_parts a b all.0 in
    record { a_in = inside-corner s t.a ab.0; b_in = inside-corner s t.b ab.1; c_in = inside-corner s t.c all.1 }

all-stay : (s : Settings) (ts : List Tri) → first_outside s ts ≡ None → All (Stays s) ts
all-stay s ts h = λ k d lt. stays s (get_or ts k d) (none_passes (leaves s) ts h k d lt)

pub all-on_bed : (s : Settings) (ts : List Tri) → first_outside s ts ≡ None → All (TriIn (bed_of s)) ts
all-on_bed s ts h = λ k d lt. let t = all-stay s ts h k d lt in record { a_in = t.a_in.on_bed; b_in = t.b_in.on_bed; c_in = t.c_in.on_bed }

pub all-over : (s : Settings) (ts : List Tri) → first_outside s ts ≡ None → All (TriOver (pos 0)) ts
all-over s ts h = λ k d lt. let t = all-stay s ts h k d lt in record { a_over = t.a_in.over; b_over = t.b_in.over; c_over = t.c_in.over }

pub all-under : (s : Settings) (ts : List Tri) → first_outside s ts ≡ None → All (TriUnder (pos s.machine_height)) ts
all-under s ts h = λ k d lt. let t = all-stay s ts h k d lt in record { a_under = t.a_in.under; b_under = t.b_in.under; c_under = t.c_in.under }

pub placed-is : (s : Settings) (n : ℕ) (m : MeshSettings) (ts : List Tri) (by : Shift) → slice_get s.meshes n ≡ Some m → by ≡ shift_of s m ts → placed s n ts ≡ map (moved by) ts
placed-is s n m ts by found is = ap (λ o. placed_with s o ts) found ∙ ap (λ b. map (moved b) ts) (sym is)

pub outside-is : (s : Settings) (n : ℕ) (m : MeshSettings) (ts : List Tri) (by : Shift) → slice_get s.meshes n ≡ Some m → by ≡ shift_of s m ts → first_outside s (placed s n ts) ≡ position (λ t. leaves s (moved by t)) ts
outside-is s n m ts by found is = ap (first_outside s) (placed-is s n m ts by found is) ∙ position-map (leaves s) (moved by) ts

abbrev told : Result (Unit {0}) OutsideVolume → ℕ
told (Ok done) = 0
told (Err o) = o.triangle

abbrev told_excess : Excess → Result (Unit {0}) OutsideVolume → Excess
told_excess d (Ok done) = d
told_excess d (Err o) = o.excess

abbrev pub refused : ℕ → Excess → Result (Unit {0}) OutsideVolume
refused n e = Err (record { triangle = n; excess = e })

-- what is told of triangles outside, by the first of them and by how far they reach out
pub outside-some : (o : Option ℕ) (t : ℕ) (x y : Excess) → o ≡ Some t → x ≡ y → (n : ℕ) (e : Excess) → (refused t x ≡ refused n e) ↔ ((o ≡ Some n) × (e ≡ y))
outside-some o t x y is at n e = (λ h. (is ∙ ap Some (same_number h), sym (same_excess h) ∙ at), λ h. both (some_same (sym is ∙ h.0)) (at ∙ sym h.1))
  where
    same_number : refused t x ≡ refused n e → t ≡ n
    same_number h = ap told h

    same_excess : refused t x ≡ refused n e → x ≡ e
    same_excess h = ap (told_excess x) h

    some_same : Some t ≡ Some n → t ≡ n
    some_same h = cc

    both : t ≡ n → x ≡ e → refused t x ≡ refused n e
    both h g = rw (h, g) refl

pub outside-none : (o : Option ℕ) (y : Excess) → o ≡ None → (n : ℕ) (e : Excess) → (◌≡◌ {A = Result (Unit {0}) OutsideVolume} (Ok tt) (refused n e)) ↔ ((o ≡ Some n) × (e ≡ y))
outside-none o y is n e = (λ h. cc, λ h. absurd (none-some n (sym is ∙ h.0)))
