-- Regions in boxes, and what that makes of them.
use Rattle.std.proofs.Common.{◌≡◌, ◌≤◌, ◌+◌, ◌-◌, ◌*◌, ℕ, List, [], ◌∷◌, length, unsigned_abs, w32, to_z, arith, subst}
use Rattle.std.specs.List.{All, sum_by}
use Rattle.std.proofs.Math.Nat.{mul-le-mul}
use Rattle.std.proofs.lemmas.Int.{ints}
use Rattle.std.proofs.lemmas.List.Sums.{sum_by-cons}
use Rattle.std.proofs.lemmas.List.Elements.{All-nil, All-cons, All-head, All-tail, All-weaker}
use Rattle.slice_base.specs.declared.points.Pt.{Pt}
use Rattle.slice_base.specs.declared.points.Tri.{Tri}
use Rattle.slice_base.specs.Plane.{InSquare}
use Rattle.slice_base.specs.Boxes.{IsIn, TriIn, from_above, around, grown}
use Rattle.slice_base.specs.Regions.{HaveAtLeast, RegionIn}
use Rattle.settings_core.specs.Values.{SettingsValue}
use Rattle.mesh_placing.specs.Volume.{bed_of}
use Rattle.wall_skin.specs.Sizes.{IsSmall}
use Rattle.plan_types.specs.Areas.{IsLoop, IsArea}

-- ---- boxes

around-more : (m n : ℕ) (p : Pt) → m ≤ n → IsIn (around m) p → IsIn (around n) p
around-more m n p le h = record {
  x_from = omega (arith, ints, h.x_from);
  x_to = omega (arith, ints, h.x_to);
  y_from = omega (arith, ints, h.y_from);
  y_to = omega (arith, ints, h.y_to);
}

pub region_around-more : (m n : ℕ) (region : List (List Pt)) → m ≤ n → RegionIn (around m) region → RegionIn (around n) region
region_around-more m n region le h = All-weaker (All (IsIn (around m))) (All (IsIn (around n))) (λ ps. All-weaker (IsIn (around m)) (IsIn (around n)) (λ p. around-more m n p le) ps) region h

grown-around : (n m h : ℕ) (p : Pt) → n + m ≤ h → IsIn (grown n (around m)) p → IsIn (around h) p
grown-around n m h p le i = record {
  x_from = omega (arith, ints, i.x_from);
  x_to = omega (arith, ints, i.x_to);
  y_from = omega (arith, ints, i.y_from);
  y_to = omega (arith, ints, i.y_to);
}

pub region_grown-around : (n m h : ℕ) (region : List (List Pt)) → n + m ≤ h → RegionIn (grown n (around m)) region → RegionIn (around h) region
region_grown-around n m h region le i = All-weaker (All (IsIn (grown n (around m)))) (All (IsIn (around h))) (λ ps. All-weaker (IsIn (grown n (around m))) (IsIn (around h)) (λ p. grown-around n m h p le) ps) region i

around-square : (h : ℕ) (p : Pt) → IsIn (around h) p → InSquare h p
around-square h p i = record {
  x_in = omega (arith, ints, i.x_from, i.x_to);
  y_in = omega (arith, ints, i.y_from, i.y_to);
}

square-around : (h : ℕ) (p : Pt) → InSquare h p → IsIn (around h) p
square-around h p i = record {
  x_from = omega (arith, ints, i.x_in);
  x_to = omega (arith, ints, i.x_in);
  y_from = omega (arith, ints, i.y_in);
  y_to = omega (arith, ints, i.y_in);
}

-- ---- areas

pub loops-are : (region : List (List Pt)) → sum_by length region ≤ 150000 → HaveAtLeast 1 region → RegionIn (around 1600000) region → All (IsLoop 1600000) region
loops-are [] few least inside = All-nil (IsLoop 1600000)
loops-are (l ∷ ls) few least inside =
    let f : length l + sum_by length ls ≤ 150000 = subst (λ (n : ℕ). n ≤ 150000) (sum_by-cons length l ls) few in
    All-cons (IsLoop 1600000) l ls
    (record {
      some = All-head (λ (ps : List Pt). 1 ≤ length ps) l ls least;
      few = omega (arith, f);
      inside = All-weaker (IsIn (around 1600000)) (InSquare 1600000) (around-square 1600000) l (All-head (All (IsIn (around 1600000))) l ls inside);
    })
    (loops-are ls (omega (arith, f)) (All-tail (λ (ps : List Pt). 1 ≤ length ps) l ls least) (All-tail (All (IsIn (around 1600000))) l ls inside))

-- a small region that is not too far out
pub area-is : (region : List (List Pt)) → IsSmall region → RegionIn (around 1600000) region → IsArea region
area-is region small inside = record { loops = loops-are region small.few small.least inside; few = small.few }

pub area-small : (region : List (List Pt)) → IsArea region → IsSmall region
area-small region h = record {
  few = h.few;
  least = All-weaker (IsLoop 1600000) (λ (ps : List Pt). 1 ≤ length ps) (λ ps l. l.some) region h.loops;
}

loop-in : (ps : List Pt) → IsLoop 1600000 ps → All (IsIn (around 1600000)) ps
loop-in ps l = All-weaker (InSquare 1600000) (IsIn (around 1600000)) (square-around 1600000) ps l.inside

pub area-in : (region : List (List Pt)) → IsArea region → RegionIn (around 1600000) region
area-in region h = All-weaker (IsLoop 1600000) (All (IsIn (around 1600000))) loop-in region h.loops

pub all_small : (regions : List (List (List Pt))) → All IsArea regions → All IsSmall regions
all_small regions h = All-weaker IsArea IsSmall area-small regions h

pub all_in : (regions : List (List (List Pt))) → All IsArea regions → All (RegionIn (around 1600000)) regions
all_in regions h = All-weaker IsArea (RegionIn (around 1600000)) area-in regions h

both-areas : (regions : List (List (List Pt))) → All IsSmall regions → All (RegionIn (around 1600000)) regions → All IsArea regions
both-areas [] small inside = All-nil IsArea
both-areas (r ∷ rs) small inside =
    All-cons IsArea r rs (area-is r (All-head IsSmall r rs small) (All-head (RegionIn (around 1600000)) r rs inside))
    (both-areas rs (All-tail IsSmall r rs small) (All-tail (RegionIn (around 1600000)) r rs inside))

-- walls that are small, near an outline
pub walls-areas : (n : ℕ) (regions : List (List (List Pt))) → n + 1000000 ≤ 1600000 → All IsSmall regions → All (RegionIn (grown n (around 1000000))) regions → All IsArea regions
walls-areas n regions le small inside = both-areas regions small
    (All-weaker (RegionIn (grown n (around 1000000))) (RegionIn (around 1600000)) (λ r. region_grown-around n 1000000 1600000 r le) regions inside)

-- ---- the bed

bed-around : (s : SettingsValue) (p : Pt) → s.machine_width ≤ 1000000 → s.machine_depth ≤ 1000000 → IsIn (bed_of s) p → IsIn (around 1000000) p
bed-around s p w d i = record {
  x_from = omega (arith, ints, i.x_from);
  x_to = omega (arith, ints, i.x_to);
  y_from = omega (arith, ints, i.y_from);
  y_to = omega (arith, ints, i.y_to);
}

tri-around : (s : SettingsValue) (t : Tri) → s.machine_width ≤ 1000000 → s.machine_depth ≤ 1000000 → TriIn (bed_of s) t → TriIn (around 1000000) t
tri-around s t w d i = record {
  a_in = bed-around s (from_above t.a) w d i.a_in;
  b_in = bed-around s (from_above t.b) w d i.b_in;
  c_in = bed-around s (from_above t.c) w d i.c_in;
}

pub meshes-around : (s : SettingsValue) (meshes : List (List Tri)) → s.machine_width ≤ 1000000 → s.machine_depth ≤ 1000000 → All (All (TriIn (bed_of s))) meshes → All (All (TriIn (around 1000000))) meshes
meshes-around s meshes w d i = All-weaker (All (TriIn (bed_of s))) (All (TriIn (around 1000000))) (λ ts. All-weaker (TriIn (bed_of s)) (TriIn (around 1000000)) (λ t. tri-around s t w d) ts) meshes i

-- ---- depths of walls

wide-is : (width : ℕ) → width ≤ 2000 → unsigned_abs (to_z w32 width) ≡ width
wide-is width h = omega (arith, ints)

pub deep-le : (count width : ℕ) → count ≤ 20 → width ≤ 2000 → 3 * (count * unsigned_abs (to_z w32 width)) + 3 ≤ 120003
deep-le count width hc hw =
    let t : count * width ≤ 20 * 2000 = mul-le-mul hc hw in
    rw (wide-is width hw) (omega (arith, t))

pub room : (count width : ℕ) (region : List (List Pt)) → count ≤ 20 → width ≤ 2000 → RegionIn (around 1000000) region → RegionIn (around (1700000 - (3 * (count * unsigned_abs (to_z w32 width)) + 3))) region
room count width region hc hw inside =
    let d = deep-le count width hc hw in
    region_around-more 1000000 (1700000 - (3 * (count * unsigned_abs (to_z w32 width)) + 3)) region (omega (arith, d)) inside
