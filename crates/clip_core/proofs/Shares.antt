-- Edges added to rays, one by one.
use Rattle.std.proofs.Common.{◌≡◌, ◌<◌, ◌≤◌, ◌+◌, ℕ, zero, suc, ℤ, pos, negsuc, ◌+ℤ◌, ◌&&◌, Bool, true, false, cond, List, [], ◌∷◌, length, get_or, drop, inl, inr, ◌⊎◌, arith, refl, sym, ap, ◌∙◌, subst}
use Rattle.std.specs.List.{All}
use Rattle.std.specs.Int.RustNames.{unsigned_abs}
use Rattle.std.proofs.lemmas.Int.{ints}
use Rattle.std.proofs.Math.IntN.{+ℤ_idr}
use Rattle.edge_cut.specs.declared.passes.Marked.{Marked}
use Rattle.clip_core.specs.declared.bundles.Bundle.{Bundle}
use Rattle.clip_core.specs.declared.windings.Windings.{Windings}
use Rattle.clip_core.specs.declared.rays.Ray.{Ray}
use Rattle.clip_core.specs.Bundles.{is_lower, bundle_of}
use Rattle.clip_core.specs.Windings.{direction_of, share_of, none, plus, tally_of, is_right_of, reaches, stands_right, sum_of}
use Rattle.clip_core.specs.Inner.Small.{AreSmall}
use Rattle.clip_core.specs.Inner.Rays.{nowhere, ray_with, AreRising, IsKeyOf, IsKeyed, IsSmallRay, IsBare, IsFull, IsBareOf, IsTold, HaveRays}
use Rattle.clip_core.proofs.Tallies.{nothing, both, plus-none, tally_of-step, tally_of-end}

-- an edge that misses a ray changes nothing

pub plus-right : (w : Windings) → plus w none ≡ w
plus-right w = both _ _ _ _ (+ℤ_idr w.first) (+ℤ_idr w.second)

pub missed : (w s : Windings) (t : Bool) → t ≡ false → plus w (cond t s none) ≡ w
missed w s false h = plus-right w
missed w s true h = absurd (cc)

pub ray-same : (f : Bundle) (s : Windings) (r : Ray) → (reaches f r.bundle && stands_right f r.bundle) ≡ false → r ≡ ray_with f s r
ray-same f s r h =
    let q = sym (missed r.sum s (reaches f r.bundle && stands_right f r.bundle) h) in
    λ i. record { key = r.key; bundle = r.bundle; index = r.index; sum = q i }

-- an edge that is counted, part by part
pub counted-is : (w s : Windings) (first second : ℤ) (t : Bool) → first ≡ w.first +ℤ cond t s.first (pos 0) → second ≡ w.second +ℤ cond t s.second (pos 0) → record { first = first; second = second } ≡ plus w (cond t s none)
counted-is w s first second true e h = both _ _ _ _ e h
counted-is w s first second false e h = both _ _ _ _ e h

-- sums stay small

abs-more : (x y : ℤ) (n : ℕ) → unsigned_abs x ≤ n → unsigned_abs y ≤ 1 → unsigned_abs (x +ℤ y) ≤ n + 1
abs-more x y n g h = grind (arith, ints)

pub small-more : (n : ℕ) (w s : Windings) (t : Bool) → AreSmall n w → AreSmall 1 s → AreSmall (n + 1) (plus w (cond t s none))
small-more n w s true g h = record { first_small = abs-more w.first s.first n g.first_small h.first_small; second_small = abs-more w.second s.second n g.second_small h.second_small }
small-more n w s false g h = record { first_small = abs-more w.first (pos 0) n g.first_small (omega arith); second_small = abs-more w.second (pos 0) n g.second_small (omega arith) }

pub ray-small : (n : ℕ) (f : Bundle) (s : Windings) (r : Ray) → IsSmallRay n r → AreSmall 1 s → IsSmallRay (n + 1) (ray_with f s r)
ray-small n f s r g h = small-more n r.sum s (reaches f r.bundle && stands_right f r.bundle) g h

direction-small : (t : Bool) → unsigned_abs (cond t (pos 1) (negsuc 0)) ≤ 1
direction-small true = omega arith
direction-small false = omega arith

pub share-small : (m : Marked) → AreSmall 1 (share_of m)
share-small m = pick m.second
  where
    pick : (t : Bool) → AreSmall 1 (cond t (record { first = pos 0; second = direction_of m.edge }) (record { first = direction_of m.edge; second = pos 0 }))
    pick true = record { first_small = omega arith; second_small = direction-small (is_lower m.edge.from m.edge.to) }
    pick false = record { first_small = direction-small (is_lower m.edge.from m.edge.to); second_small = omega arith }

pub wider : (n k : ℕ) (w : Windings) → n ≤ k → AreSmall n w → AreSmall k w
wider n k w le h = let a = h.first_small in let b = h.second_small in record { first_small = omega arith; second_small = omega arith }

pub ray-wider : (n k : ℕ) (r : Ray) → n ≤ k → IsSmallRay n r → IsSmallRay k r
ray-wider n k r le h = wider n k r.sum le h

-- a ray with some of the edges, and those to come
pub record IsSoFar (n : ℕ) (rest whole : List Marked) (bare r : Ray) : Type 0 where
  pub key : r.key ≡ bare.key
  pub bundle : r.bundle ≡ bare.bundle
  pub index : r.index ≡ bare.index
  pub sum : plus r.sum (tally_of (is_right_of bare.bundle) rest) ≡ sum_of whole bare.bundle
  pub small : IsSmallRay n r

pub small-none : (w : Windings) → w ≡ none → AreSmall 0 w
small-none w is = record { first_small = subst (λ (v : Windings). unsigned_abs v.first ≤ 0) (sym is) (omega arith); second_small = subst (λ (v : Windings). unsigned_abs v.second ≤ 0) (sym is) (omega arith) }

from-none : (w v : Windings) → w ≡ none → plus w v ≡ v
from-none w v is = ap (λ (u : Windings). plus u v) is ∙ plus-none v

pub so_far-begins : (all : List Marked) (r : Ray) → IsBare r → IsSoFar 0 all all r r
so_far-begins all r bare = record {
  key = refl;
  bundle = refl;
  index = refl;
  sum = from-none r.sum (sum_of all r.bundle) bare;
  small = small-none r.sum bare;
}

-- one edge more
pub so_far-step : (all : List Marked) (n : ℕ) (bare r new : Ray) → n < length all → AreSmall 1 (share_of (get_or all n nothing)) → new ≡ ray_with (bundle_of (get_or all n nothing).edge) (share_of (get_or all n nothing)) r → IsSoFar n (drop n all) all bare r → IsSoFar (n + 1) (drop (n + 1) all) all bare new
so_far-step all n bare r new below small is h =
    let m = get_or all n nothing in
    let f = bundle_of m.edge in
    let s = share_of m in
    let b = bare.bundle in
    let right : (reaches f r.bundle && stands_right f r.bundle) ≡ is_right_of b m = (λ i. reaches f (h.bundle i) && stands_right f (h.bundle i)) in
    let sum' : new.sum ≡ plus r.sum (cond (reaches f r.bundle && stands_right f r.bundle) s none) = ap (λ (q : Ray). q.sum) is in
    record {
      key = ap (λ (q : Ray). q.key) is ∙ h.key;
      bundle = ap (λ (q : Ray). q.bundle) is ∙ h.bundle;
      index = ap (λ (q : Ray). q.index) is ∙ h.index;
      sum = tally_of-step (is_right_of b) all n (reaches f r.bundle && stands_right f r.bundle) r.sum new.sum (sum_of all b) below right sum' h.sum;
      small = subst (λ (q : Ray). IsSmallRay (n + 1) q) (sym is) (ray-small n f s r h.small small);
    }

-- after the last one
pub so_far-ends : (all : List Marked) (n : ℕ) (bare r : Ray) → length all ≤ n → n ≤ 100000 → IsSoFar n (drop n all) all bare r → IsFull all bare r
so_far-ends all n bare r over few h = record {
  bundle = h.bundle;
  index = h.index;
  sum = tally_of-end (is_right_of bare.bundle) all n r.sum (sum_of all bare.bundle) over h.sum;
  small = ray-wider n 100000 r few h.small;
}

-- the keys stay as they were
pub still-rising : (old new : List Ray) → length new ≡ length old → ((k : ℕ) (d : Ray) → k < length new → (get_or new k d).key ≡ (get_or old k d).key) → AreRising old → AreRising new
still-rising old new len same rising i j d le below =
    let p = same i d (omega arith) in
    let q = same j d below in
    let h = rising i j d le (omega arith) in
    omega (arith, p, q, h)

pub still-keyed : (high : ℕ) (old new : List Ray) → length new ≡ length old → ((k : ℕ) (d : Ray) → k < length new → (get_or new k d).key ≡ (get_or old k d).key) → ((k : ℕ) (d : Ray) → k < length new → (get_or new k d).bundle ≡ (get_or old k d).bundle) → All (IsKeyed high) old → All (IsKeyed high) new
still-keyed high old new len keys bundles keyed k d below =
    subst (λ (n : ℕ). IsKeyOf high (get_or new k d).bundle n) (sym (keys k d below))
    (subst (λ (b : Bundle). IsKeyOf high b (get_or old k d).key) (sym (bundles k d below)) (keyed k d (omega arith)))

-- a full ray is told
pub full-told : (high : ℕ) (all : List Marked) (bundles : List Bundle) (bare r : Ray) → IsBareOf high bundles bare → IsFull all bare r → IsTold all bundles r
full-told high all bundles bare r g h = record {
  of_bundle = record {
    within = subst (λ (p : ℕ). p < length bundles) (sym h.index) g.of_bundle.within;
    is = h.bundle ∙ (g.of_bundle.is ∙ ap (λ (p : ℕ). get_or bundles p nowhere) (sym h.index));
  };
  sum = h.sum ∙ ap (λ (b : Bundle). sum_of all b) (sym h.bundle);
  small = h.small;
}

-- within a list the default doesn't matter
pub any-default : (xs : List Ray) (i : ℕ) (d e : Ray) → i < length xs → get_or xs i d ≡ get_or xs i e
any-default [] i d e below = absurd (omega arith)
any-default (x ∷ xs) zero d e below = refl
any-default (x ∷ xs) (suc i) d e below = any-default xs i d e (omega arith)

pub below-or-not : (k i : ℕ) → (k < i) ⊎ (i ≤ k)
below-or-not k zero = inr (omega arith)
below-or-not zero (suc i) = inl (omega arith)
below-or-not (suc k) (suc i) = one-up (below-or-not k i)
  where
    one-up : (k < i) ⊎ (i ≤ k) → (suc k < suc i) ⊎ (suc i ≤ suc k)
    one-up (inl h) = inl (omega arith)
    one-up (inr h) = inr (omega arith)

-- all rays told
pub all-told : (high : ℕ) (all : List Marked) (bundles : List Bundle) (bare rays : List Ray) → length rays ≡ length bare → All (IsBareOf high bundles) bare → ((k : ℕ) (d : Ray) → k < length rays → IsFull all (get_or bare k d) (get_or rays k d)) → All (IsTold all bundles) rays
all-told high all bundles bare rays len of full k d below = full-told high all bundles (get_or bare k d) (get_or rays k d) (of k d (omega arith)) (full k d below)

pub all-bare : (high : ℕ) (bundles : List Bundle) (rays : List Ray) → All (IsBareOf high bundles) rays → All IsBare rays
all-bare high bundles rays of k d below = (of k d below).bare

pub all-keyed : (high : ℕ) (bundles : List Bundle) (rays : List Ray) → All (IsBareOf high bundles) rays → All (IsKeyed high) rays
all-keyed high bundles rays of k d below = (of k d below).keyed

-- and still once edges were added
pub full-has : (all : List Marked) (bundles : List Bundle) (bare rays : List Ray) → length rays ≡ length bare → HaveRays bundles bare → ((k : ℕ) (d : Ray) → k < length rays → IsFull all (get_or bare k d) (get_or rays k d)) → HaveRays bundles rays
full-has all bundles bare rays len has full k d below =
    let h = has k d below in
    let here : h.0 < length rays = omega (arith, h.1) in
    (h.0, here, (full h.0 d here).index ∙ h.2)
