-- Rays that stand as sorted spots do.
use Rattle.std.proofs.Common.{◌≡◌, ◌<◌, ℕ, zero, suc, List, [], ◌∷◌, length, get_or, arith, refl, ap, ◌∙◌}
use Rattle.std.specs.List.{Contains}
use Rattle.std.specs.List.Sorted.{IsPermutation}
use Rattle.std.proofs.lemmas.List.Sorted.{Contains-permutation}
use Rattle.clip_core.specs.declared.bundles.Bundle.{Bundle}
use Rattle.clip_core.specs.declared.rays.Ray.{Ray}
use Rattle.clip_core.specs.declared.spots.Spot.{Spot}
use Rattle.clip_core.specs.Inner.Rays.{HaveRays}
use Rattle.clip_core.specs.Inner.Rays as rays
use Rattle.clip_core.specs.Inner.Spots.{no_spot, AreNumbered, AreRising, HaveSpots, AreAt}

any-spot : (xs : List Spot) (i : ℕ) (d e : Spot) → i < length xs → get_or xs i d ≡ get_or xs i e
any-spot [] i d e below = absurd (omega arith)
any-spot (x ∷ xs) zero d e below = refl
any-spot (x ∷ xs) (suc i) d e below = any-spot xs i d e (omega arith)

-- each bundle has a spot among those that were sorted
pub sorted-has : (bundles : List Bundle) (old spots : List Spot) → length old ≡ length bundles → AreNumbered old → IsPermutation old spots → HaveSpots bundles spots
sorted-has bundles old spots len numbered moved k d below =
    let at : k < length old = omega (arith, below, len) in
    let s = get_or old k d in
    let there : Contains old s = (k, at, any-spot old k s d at) in
    let c = Contains-permutation old spots s moved there in
    (c.0, c.1, ap (λ (q : Spot). q.index) (any-spot spots c.0 d s c.1 ∙ c.2) ∙ numbered k d at)

-- and with it a ray
pub rays-have : (bundles : List Bundle) (spots : List Spot) (rs : List Ray) → AreAt spots rs → HaveSpots bundles spots → HaveRays bundles rs
rays-have bundles spots rs at has k d below =
    let h = has k no_spot below in
    let same = at.count in
    let here : h.0 < length rs = omega (arith, h.1, same) in
    (h.0, here, (at.each h.0 d no_spot here).index ∙ h.2)

-- the rays stand by their keys
pub rays-rise : (spots : List Spot) (rs : List Ray) → AreAt spots rs → AreRising spots → rays.AreRising rs
rays-rise spots rs at rising i j d le below =
    let same = at.count in
    let p = (at.each i d no_spot (omega (arith, le, below))).key in
    let q = (at.each j d no_spot below).key in
    let h = rising i j no_spot le (omega (arith, below, same)) in
    omega (arith, p, q, h)
