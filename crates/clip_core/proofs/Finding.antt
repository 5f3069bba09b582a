-- Bundles found by the indices of their edges, and their net counts.
use Rattle.std.proofs.Common.{◌≡◌, ◌≢◌, ◌<◌, ◌≤◌, ◌+◌, ℕ, zero, suc, Bool, true, false, not, cond, if◌then◌else◌, List, [], ◌∷◌, ◌++◌, length, length-append, get_or, set, drop, map, inl, inr, ◌⊎◌, arith, refl, sym, ap, ◌∙◌, subst}
use Rattle.std.specs.Prelude.{slice_get, Some}
use Rattle.std.specs.List.{All, list_any}
use Rattle.std.proofs.lemmas.Bool.{false_from_ne_true}
use Rattle.std.proofs.lemmas.List.{length-set, get_or-set_same, get_or-set_other, get_or_append_left}
use Rattle.std.proofs.lemmas.List.Elements.{All-set, All-weaker}
use Rattle.std.proofs.Math.Seq.{get_or-append_seam}
use Rattle.edge_cut.specs.declared.passes.Marked.{Marked}
use Rattle.clip_core.specs.declared.bundles.Bundle.{Bundle}
use Rattle.clip_core.specs.declared.bundles.Ends.{Ends}
use Rattle.clip_core.specs.declared.windings.Windings.{Windings}
use Rattle.clip_core.specs.Bundles.{bundle_of, same_bundle, with_bundle, bundles_of}
use Rattle.clip_core.specs.Bundled.{AreDistinct}
use Rattle.clip_core.specs.Windings.{share_of, none, plus, tally_of, is_of, net_of}
use Rattle.clip_core.specs.Inner.Small.{AreSmall}
use Rattle.clip_core.specs.Inner.Rays.{nowhere}
use Rattle.clip_core.specs.Inner.Found.{ends_of, IsAt, AreFound, HaveNets}
use Rattle.clip_core.proofs.Tallies.{nothing, plus-none, tally_of-step, tally_of-end}
use Rattle.clip_core.proofs.Shares.{below-or-not, small-more, small-none, plus-right, wider}
use Rattle.clip_core.proofs.Found.{In, same_bundle-is, same_bundle-itself, in_or_not, with_bundle-there, with_bundle-new}
use Rattle.clip_core.proofs.Indexed.{same-or-not}

-- a bundle that is put keeps all others where they were
at-kept : (b c : Bundle) (bs : List Bundle) (k : ℕ) → IsAt bs k c → IsAt (with_bundle b bs) k c
at-kept b c bs k h = pick (in_or_not b bs)
  where
    pick : In b bs ⊎ (In b bs → ⊥) → IsAt (with_bundle b bs) k c
    pick (inl there) = subst (λ (cs : List Bundle). IsAt cs k c) (sym (with_bundle-there b bs there)) h
    pick (inr isnt) = subst (λ (cs : List Bundle). IsAt cs k c) (sym (with_bundle-new b bs isnt)) (record {
      within = let e = length-append bs (b ∷ []) in let g = h.within in omega arith;
      is = get_or_append_left bs (b ∷ []) nowhere k h.within ∙ h.is;
    })

pub any-mark : (xs : List Marked) (n : ℕ) (x y : Marked) → n < length xs → get_or xs n x ≡ get_or xs n y
any-mark [] n x y h = absurd (omega arith)
any-mark (z ∷ zs) zero x y h = refl
any-mark (z ∷ zs) (suc n) x y h = any-mark zs n x y (omega arith)

-- one edge more
pub found-more : (all : List Marked) (b : Bundle) (bs new : List Bundle) (ks : List ℕ) (k i : ℕ) (d : Marked) → length ks ≡ i → i < length all → new ≡ with_bundle b bs → b ≡ bundle_of (get_or all i d).edge → IsAt new k b → AreFound all bs ks → AreFound all new (ks ++ k ∷ [])
found-more all b bs new ks k i d len below is of at found j e lt = pick (below-or-not j i)
  where
    pick : (j < i) ⊎ (i ≤ j) → IsAt new (get_or (ks ++ k ∷ []) j 0) (bundle_of (get_or all j e).edge)
    pick (inl g) =
        let old : j < length ks = omega (arith, len) in
        subst (λ (n : ℕ). IsAt new n (bundle_of (get_or all j e).edge)) (sym (get_or_append_left ks (k ∷ []) 0 j old))
        (subst (λ (cs : List Bundle). IsAt cs (get_or ks j 0) (bundle_of (get_or all j e).edge)) (sym is) (at-kept b (bundle_of (get_or all j e).edge) bs (get_or ks j 0) (found j e old)))
    pick (inr g) =
        let same : j ≡ length ks = omega (arith, len, length-append ks (k ∷ [])) in
        let here : get_or (ks ++ k ∷ []) j 0 ≡ k = ap (λ (n : ℕ). get_or (ks ++ k ∷ []) n 0) same ∙ get_or-append_seam ks k [] 0 in
        let edge : b ≡ bundle_of (get_or all j e).edge = of ∙ (ap (λ (m : Marked). bundle_of m.edge) (any-mark all i d e below) ∙ ap (λ (n : ℕ). bundle_of (get_or all n e).edge) (sym (same ∙ len))) in
        subst (λ (n : ℕ). IsAt new n (bundle_of (get_or all j e).edge)) (sym here) (subst (λ (c : Bundle). IsAt new k c) edge at)

bundles-next : (all : List Marked) (i : ℕ) (bs new whole : List Bundle) (b : Bundle) (d : Marked) → i < length all → new ≡ with_bundle b bs → b ≡ bundle_of (get_or all i d).edge → bundles_of bs (drop i all) ≡ whole → bundles_of new (drop (suc i) all) ≡ whole
bundles-next [] i bs new whole b d below is of h = absurd (omega arith)
bundles-next (m ∷ ms) zero bs new whole b d below is of h = ap (λ (cs : List Bundle). bundles_of cs ms) (is ∙ ap (λ (c : Bundle). with_bundle c bs) of) ∙ h
bundles-next (m ∷ ms) (suc i) bs new whole b d below is of h = bundles-next ms i bs new whole b d (omega arith) is of h

-- the bundles with one edge more
pub bundles-step : (all : List Marked) (i : ℕ) (bs new whole : List Bundle) (b : Bundle) (d : Marked) → i < length all → new ≡ with_bundle b bs → b ≡ bundle_of (get_or all i d).edge → bundles_of bs (drop i all) ≡ whole → bundles_of new (drop (i + 1) all) ≡ whole
bundles-step all i bs new whole b d below is of h =
    let next : i + 1 ≡ suc i = omega arith in
    ap (λ (n : ℕ). bundles_of new (drop n all)) next ∙ bundles-next all i bs new whole b d below is of h

map-append : (bs : List Bundle) (b : Bundle) → map ends_of (bs ++ b ∷ []) ≡ map ends_of bs ++ ends_of b ∷ []
map-append [] b = refl
map-append (c ∷ cs) b = ap (λ (es : List Ends). ends_of c ∷ es) (map-append cs b)

-- the ends of one bundle more
pub ends-pushed : (E : Ends → Ends → Bool) (b : Bundle) (bs new : List Bundle) (keys news : List Ends) (key : Ends) (t : Bool) → keys ≡ map ends_of bs → key ≡ ends_of b → t ≡ not (list_any (E key) keys) → t ≡ true → news ≡ (if list_any (E key) keys then keys else keys ++ key ∷ []) → new ≡ bs ++ b ∷ [] → news ≡ map ends_of new
ends-pushed E b bs new keys news key t ks of added is put pushed =
    put ∙ (when (list_any (E key) keys) (sym added ∙ is) ∙ ((λ i. ks i ++ of i ∷ []) ∙ (sym (map-append bs b) ∙ ap (map ends_of) (sym pushed))))
  where
    when : (u : Bool) → not u ≡ true → (if u then keys else keys ++ key ∷ []) ≡ keys ++ key ∷ []
    when false h = refl
    when true h = absurd (cc)

-- the bundle whose ends were found
pub at-ends : (E : Ends → Ends → Bool) → ((b c : Bundle) → E (ends_of b) (ends_of c) ≡ same_bundle b c) → (b : Bundle) (bs : List Bundle) (keys : List Ends) (key k : Ends) (n : ℕ) → keys ≡ map ends_of bs → key ≡ ends_of b → slice_get keys n ≡ Some k → E key k ≡ true → IsAt bs n b
at-ends E same b bs keys key k n ks of got eq = go bs n (subst (λ (es : List Ends). slice_get es n ≡ Some k) ks got) (subst (λ (e : Ends). E e k ≡ true) of eq)
  where
    some-is : (x y : Ends) → Some x ≡ Some y → x ≡ y
    some-is x y h = cc

    go : (cs : List Bundle) (n : ℕ) → slice_get (map ends_of cs) n ≡ Some k → E (ends_of b) k ≡ true → IsAt cs n b
    go [] n h g = absurd (cc)
    go (c ∷ cs) zero h g = record {
      within = omega arith;
      is = sym (same_bundle-is b c (sym (same b c) ∙ subst (λ (e : Ends). E (ends_of b) e ≡ true) (sym (some-is (ends_of c) k h)) g));
    }
    go (c ∷ cs) (suc n) h g = let r = go cs n h g in record { within = let w = r.within in omega arith; is = r.is }

-- ---- net counts

-- the net count of the bundle at k is what was counted and what is to come
pub record IsNetSoFar (all : List Marked) (bs : List Bundle) (i : ℕ) (nets : List Windings) : Type 0 where
  pub count : length nets ≡ length bs
  pub each : (k : ℕ) → k < length bs → plus (get_or nets k none) (tally_of (is_of (get_or bs k nowhere)) (drop i all)) ≡ net_of all (get_or bs k nowhere)
  pub small : All (AreSmall i) nets

all-none : (nets : List Windings) (k : ℕ) → All (λ w. w ≡ none) nets → get_or nets k none ≡ none
all-none nets k h = pick (below-or-not k (length nets))
  where
    past : (ws : List Windings) (n : ℕ) → length ws ≤ n → get_or ws n none ≡ none
    past [] n le = refl
    past (w ∷ ws) zero le = absurd (omega arith)
    past (w ∷ ws) (suc n) le = past ws n (omega arith)

    pick : (k < length nets) ⊎ (length nets ≤ k) → get_or nets k none ≡ none
    pick (inl lt) = h k none lt
    pick (inr le) = past nets k le

pub nets-begin : (all : List Marked) (bs : List Bundle) (nets : List Windings) → length nets ≡ length bs → All (λ w. w ≡ none) nets → IsNetSoFar all bs 0 nets
nets-begin all bs nets len none' = record {
  count = len;
  each = λ k below. ap (λ (w : Windings). plus w (net_of all (get_or bs k nowhere))) (all-none nets k none') ∙ plus-none (net_of all (get_or bs k nowhere));
  small = All-weaker (λ (w : Windings). w ≡ none) (AreSmall 0) small-none nets none';
}

pub nets-step : (all : List Marked) (bs : List Bundle) (nets : List Windings) (i index : ℕ) (v : Windings) → AreDistinct bs → i < length all → IsAt bs index (bundle_of (get_or all i nothing).edge) → AreSmall 1 (share_of (get_or all i nothing)) → v ≡ plus (get_or nets index none) (share_of (get_or all i nothing)) → IsNetSoFar all bs i nets → IsNetSoFar all bs (i + 1) (set nets index v)
nets-step all bs nets i index v distinct below at small is h = record {
  count = length-set nets index v ∙ h.count;
  each = λ k in'. pick k in' (same-or-not k index);
  small = All-set (AreSmall (i + 1)) nets index v (subst (λ (w : Windings). AreSmall (i + 1) w) (sym is) (small-more i (get_or nets index none) (share_of m) true (h.small index none (let c = h.count in let w = at.within in omega arith)) small)) (All-weaker (AreSmall i) (AreSmall (i + 1)) (λ w. wider i (i + 1) w (omega arith)) nets h.small);
}
  where
    m : Marked
    m = get_or all i nothing

    mine : same_bundle (bundle_of m.edge) (get_or bs index nowhere) ≡ true
    mine = subst (λ (b : Bundle). same_bundle (bundle_of m.edge) b ≡ true) (sym at.is) (same_bundle-itself (bundle_of m.edge))

    apart : (k : ℕ) → k < length bs → k ≢ index → get_or bs k nowhere ≢ get_or bs index nowhere
    apart k in' other e = side (below-or-not k index) (below-or-not index k)
      where
        side : (k < index) ⊎ (index ≤ k) → (index < k) ⊎ (k ≤ index) → ⊥
        side (inl lt) h = distinct k index nowhere lt at.within e
        side (inr le) (inl lt) = distinct index k nowhere lt in' (sym e)
        side (inr le) (inr ge) = other (omega arith)

    pick : (k : ℕ) → k < length bs → (k ≡ index) ⊎ (k ≢ index) → plus (get_or (set nets index v) k none) (tally_of (is_of (get_or bs k nowhere)) (drop (i + 1) all)) ≡ net_of all (get_or bs k nowhere)
    pick k in' (inl same) =
        let b = get_or bs k nowhere in
        let inside : index < length nets = let c = h.count in let w = at.within in omega arith in
        let of : true ≡ is_of b m = sym (ap (λ (n : ℕ). is_of (get_or bs n nowhere) m) same ∙ mine) in
        let new : get_or (set nets index v) k none ≡ plus (get_or nets k none) (cond true (share_of m) none) = ap (λ (n : ℕ). get_or (set nets index v) n none) same ∙ (get_or-set_same nets index v none inside ∙ (is ∙ ap (λ (n : ℕ). plus (get_or nets n none) (share_of m)) (sym same))) in
        tally_of-step (is_of b) all i true (get_or nets k none) (get_or (set nets index v) k none) (net_of all b) below of new (h.each k in')
    pick k in' (inr other) =
        let b = get_or bs k nowhere in
        let of : false ≡ is_of b m = sym (false_from_ne_true (is_of b m) (λ t. apart k in' other (sym (same_bundle-is (bundle_of m.edge) b t) ∙ sym at.is))) in
        let new : get_or (set nets index v) k none ≡ plus (get_or nets k none) (cond false (share_of m) none) = get_or-set_other nets index k v none other ∙ sym (plus-right (get_or nets k none)) in
        tally_of-step (is_of b) all i false (get_or nets k none) (get_or (set nets index v) k none) (net_of all b) below of new (h.each k in')

pub nets-end : (all : List Marked) (bs : List Bundle) (nets : List Windings) (i : ℕ) → length all ≤ i → i ≤ 100000 → IsNetSoFar all bs i nets → HaveNets all bs nets
nets-end all bs nets i over few h = record {
  count = h.count;
  each = λ k below. tally_of-end (is_of (get_or bs k nowhere)) all i (get_or nets k none) (net_of all (get_or bs k nowhere)) over (h.each k below);
  small = All-weaker (AreSmall i) (AreSmall 100000) (λ w. wider i 100000 w few) nets h.small;
}
