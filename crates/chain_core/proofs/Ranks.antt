-- Points by numbers: the keys tell the points, and a number is the rank of the first with its key.
use Rattle.std.proofs.Common.{ℕ, ℤ, suc, zero, pos, ◌≡◌, ◌+◌, ◌*◌, ◌<◌, ◌≤◌, ◌+ℤ◌, ◌≤ℤ◌, List, [], ◌∷◌, length, get_or, set, Some, refl, arith, sym, ap, subst, ◌∙◌, ◌⊎◌, inl, inr}
use Rattle.std.specs.List.{All, Contains}
use Rattle.std.specs.List.Sorted.{IsPermutation}
use Rattle.std.proofs.lemmas.Bool.{cases_eq, cases_order}
use Rattle.std.proofs.lemmas.Int.{ints}
use Rattle.std.proofs.lemmas.List.{get_or-set_same, get_or-set_other, get_or_default}
use Rattle.std.proofs.lemmas.List.Sorted.{All-permutation, Contains-permutation, length_permutation}
use Rattle.slice_base.specs.declared.points.Pt.{Pt}
use Rattle.slice_base.specs.Shapes.{Points}
use Rattle.chain_core.specs.declared.nodes.Keyed.{Keyed}
use Rattle.chain_core.specs.Inner.Unused.{IsLeast}
use Rattle.chain_core.specs.Inner.Nodes.{above_least, key_of, IsKeyable, point_at, keyed_from, key_at, AreRising, IsHead, AreNodes}

-- ---- the key tells the point
above-tells : (x y : ℤ) → pos 0 ≤ℤ (x +ℤ pos 2147483648) → pos 0 ≤ℤ (y +ℤ pos 2147483648) → above_least x ≡ above_least y → x ≡ y
above-tells x y g h same = grind (arith, ints)

parts-tell : (a b c d : ℕ) → b < 4294967296 → d < 4294967296 → a * 4294967296 + b ≡ c * 4294967296 + d → (a ≡ c) × (b ≡ d)
parts-tell a b c d g h same = (omega arith, omega arith)

pub key-tells : (p q : Pt) → IsKeyable p → IsKeyable q → key_of p ≡ key_of q → p ≡ q
key-tells p q g h same =
    let parts = parts-tell (above_least p.y) (above_least p.x) (above_least q.y) (above_least q.x) g.x_high h.x_high same in
    let ex = above-tells p.x q.x g.x_low h.x_low parts.1 in
    let ey = above-tells p.y q.y g.y_low h.y_low parts.0 in
    ap (λ (x : ℤ). let r : Pt = record { x = x; y = p.y } in r) ex ∙ ap (λ (y : ℤ). let r : Pt = record { x = q.x; y = y } in r) ey

-- ---- the points with their keys
length-keyed : (i : ℕ) (ps : Points) → length (keyed_from i ps) ≡ length ps
length-keyed i [] = refl
length-keyed i (p ∷ ps) = ap suc (length-keyed (suc i) ps)

keyed-at : (i k n : ℕ) (ps : Points) (d : Keyed) → i + k ≡ n → k < length ps → get_or (keyed_from i ps) k d ≡ record { key = key_of (point_at ps k); index = n }
keyed-at i k n [] d is below = absurd (omega arith)
keyed-at i zero n (p ∷ ps) d is below = let same : i ≡ n = omega arith in ap (λ (m : ℕ). let e : Keyed = record { key = key_of p; index = m } in e) same
keyed-at i (suc k) n (p ∷ ps) d is below = keyed-at (suc i) k n ps d (omega arith) (omega arith)

record IsKeyed (ps : Points) (e : Keyed) : Type 0 where
  within : e.index < length ps
  is : e.key ≡ key_of (point_at ps e.index)

all-keyed : (ps : Points) → All (IsKeyed ps) (keyed_from 0 ps)
all-keyed ps k d below =
    let inside : k < length ps = omega (arith, length-keyed 0 ps) in
    subst (IsKeyed ps) (sym (keyed-at 0 k k ps d (omega arith) inside)) (record { within = inside; is = refl })

-- what an index past the end would read
abbrev pub none : Keyed
none = record { key = 0; index = 0 }

abbrev pub index_at : List Keyed → ℕ → ℕ
index_at all r = (get_or all r none).index

is-keyed : (ps : Points) (all : List Keyed) (r : ℕ) → IsPermutation (keyed_from 0 ps) all → r < length all → IsKeyed ps (get_or all r none)
is-keyed ps all r moved below = All-permutation (IsKeyed ps) (keyed_from 0 ps) all moved (all-keyed ps) r none below

pub index-within : (ps : Points) (all : List Keyed) (r : ℕ) → IsPermutation (keyed_from 0 ps) all → r < length all → index_at all r < length ps
index-within ps all r moved below = (is-keyed ps all r moved below).within

pub length-sorted : (ps : Points) (all : List Keyed) → IsPermutation (keyed_from 0 ps) all → length all ≡ length ps
length-sorted ps all moved = length_permutation (keyed_from 0 ps) all moved ∙ length-keyed 0 ps

rank-of : (ps : Points) (all : List Keyed) (k : ℕ) → IsPermutation (keyed_from 0 ps) all → k < length ps → (r : ℕ) × (r < length all) × (index_at all r ≡ k)
rank-of ps all k moved below =
    let e : Keyed = record { key = key_of (point_at ps k); index = k } in
    let there : Contains (keyed_from 0 ps) e = (k, omega (arith, length-keyed 0 ps), keyed-at 0 k k ps e (omega arith) below) in
    let here = Contains-permutation (keyed_from 0 ps) all e moved there in
    (here.0, here.1, ap (λ (x : Keyed). x.index) (get_or_default all here.0 none e here.1 ∙ here.2))

-- ---- the first with the key
pub head-init : (all : List Keyed) → IsHead all 0 0
head-init all = record { within = omega arith; before = λ r lt. absurd (omega arith); below = λ r lt. absurd (omega arith) }

up-to : (r rank : ℕ) → r < rank + 1 → (r ≡ rank) ⊎ (r < rank)
up-to r rank lt = by_place (cases_eq r rank)
  where
    by_place : (r ≡ rank) ⊎ (r ≡ rank → ⊥) → (r ≡ rank) ⊎ (r < rank)
    by_place (inl same) = inl same
    by_place (inr other) = inr (omega (arith, lt, other))

pub head-same : (all : List Keyed) (head rank : ℕ) → IsHead all head rank → key_at all head ≡ key_at all rank → IsHead all head (rank + 1)
head-same all head rank h same = record { within = omega (arith, h.within); before = h.before; below = λ r lt. by_place r (up-to r rank lt) }
  where
    by_place : (r : ℕ) → (r ≡ rank) ⊎ (r < rank) → key_at all r ≤ key_at all head
    by_place r (inl here) = let e : key_at all r ≡ key_at all rank = ap (key_at all) here in omega (arith, e, same)
    by_place r (inr lt) = h.below r lt

pub head-new : (all : List Keyed) (head rank : ℕ) → rank < length all → AreRising all → IsHead all head rank → (key_at all head ≡ key_at all rank → ⊥) → IsHead all rank (rank + 1)
head-new all head rank within rising h other = record { within = omega arith; before = λ r lt. less r (h.below r lt) (rising head rank none h.within within); below = λ r lt. rising r rank none (omega arith) within }
  where
    less : (r : ℕ) → key_at all r ≤ key_at all head → key_at all head ≤ key_at all rank → key_at all r < key_at all rank
    less r le up = omega (arith, le, up, other)

-- ---- the numbers
-- the number of the point of the one at rank r
abbrev pub IsNode : Points → List Keyed → ℕ → ℕ → Type 0
IsNode ps all k node = IsLeast (λ q. key_at all q ≡ key_of (point_at ps k)) (length all) (Some node)

abbrev pub AreTold : Points → List Keyed → List ℕ → ℕ → Type 0
AreTold ps all nodes rank = (r : ℕ) → r < rank → IsNode ps all (index_at all r) (get_or nodes (index_at all r) 0)

pub told-more : (ps : Points) (all : List Keyed) (nodes : List ℕ) (head rank : ℕ) → IsPermutation (keyed_from 0 ps) all → length nodes ≡ length ps → rank < length all → head ≤ rank → key_at all head ≡ key_at all rank → IsHead all head (rank + 1) → AreTold ps all nodes rank → AreTold ps all (set nodes (index_at all rank) head) (rank + 1)
told-more ps all nodes head rank moved count within low alike h told r lt = by_index (cases_eq (index_at all r) (index_at all rank))
  where
    here : IsNode ps all (index_at all rank) head
    here = (omega arith, alike ∙ (is-keyed ps all rank moved within).is, λ q below same. let g = h.before q below in let k = (is-keyed ps all rank moved within).is in omega (arith, g, same, alike, k))

    by_index : (index_at all r ≡ index_at all rank) ⊎ (index_at all r ≡ index_at all rank → ⊥) → IsNode ps all (index_at all r) (get_or (set nodes (index_at all rank) head) (index_at all r) 0)
    by_index (inl same) =
        let inside = index-within ps all rank moved within in
        let P : ℕ → Type 0 = λ k. IsNode ps all k (get_or (set nodes (index_at all rank) head) k 0) in
        let is : head ≡ get_or (set nodes (index_at all rank) head) (index_at all rank) 0 = sym (get_or-set_same nodes (index_at all rank) head 0 (omega (arith, inside, count))) in
        subst P (sym same) (subst (IsNode ps all (index_at all rank)) is here)
    by_index (inr other) =
        let earlier : r < rank = by_rank (up-to r rank lt) in
        subst (IsNode ps all (index_at all r)) (sym (get_or-set_other nodes (index_at all rank) (index_at all r) head 0 other)) (told r earlier)
      where
        by_rank : (r ≡ rank) ⊎ (r < rank) → r < rank
        by_rank (inl same) = absurd (other (ap (index_at all) same))
        by_rank (inr below) = below

one-node : (ps : Points) (all : List Keyed) (i j a b : ℕ) → point_at ps i ≡ point_at ps j → IsNode ps all i a → IsNode ps all j b → a ≡ b
one-node ps all i j a b same g h = by_order (cases_order a b)
  where
    keys : key_of (point_at ps i) ≡ key_of (point_at ps j)
    keys = ap key_of same

    by_order : (a ≡ b) ⊎ ((a < b) ⊎ (b < a)) → a ≡ b
    by_order (inl is) = is
    by_order (inr (inl below)) = absurd (h.2 a below (g.1 ∙ keys))
    by_order (inr (inr above)) = absurd (g.2 b above (h.1 ∙ sym keys))

pub are-nodes : (ps : Points) (all : List Keyed) (nodes : List ℕ) (rank : ℕ) → IsPermutation (keyed_from 0 ps) all → ((k : ℕ) → k < length ps → IsKeyable (point_at ps k)) → length nodes ≡ length ps → length all ≤ rank → AreTold ps all nodes rank → AreNodes ps nodes
are-nodes ps all nodes rank moved keyable count over told = record {
  count = count;
  within = λ k below. let g = (node k below).0 in omega (arith, g, length-sorted ps all moved);
  same = λ i j iin jin is. one-node ps all i j (get_or nodes i 0) (get_or nodes j 0) is (node i iin) (node j jin);
  told = λ i j iin jin is. key-tells (point_at ps i) (point_at ps j) (keyable i iin) (keyable j jin) (sym (node i iin).1 ∙ (ap (key_at all) is ∙ (node j jin).1));
}
  where
    node : (k : ℕ) → k < length ps → IsNode ps all k (get_or nodes k 0)
    node k below =
        let at = rank-of ps all k moved below in
        let P : ℕ → Type 0 = λ k. IsNode ps all k (get_or nodes k 0) in
        let g = at.1 in
        subst P at.2 (told at.0 (omega (arith, g, over)))
