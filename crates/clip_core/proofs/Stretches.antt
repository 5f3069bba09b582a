-- An edge added to stretches of rays.
use Rattle.std.proofs.Common.{◌≡◌, ◌<◌, ◌≤◌, ◌+◌, ◌*◌, ℕ, suc, ◌+ℤ◌, true, false, cond, ◌/◌, List, [], length, get_or, set, take, drop, ◌++◌, inl, inr, ◌⊎◌, arith, refl, sym, ap, ◌∙◌, subst}
use Rattle.std.specs.List.{All}
use Rattle.std.proofs.Math.Seq.{take-append_seam}
use Rattle.std.specs.Prelude.{nat_le}
use Rattle.std.proofs.lemmas.List.{length-set, get_or-set_same, get_or-set_other}
use Rattle.std.proofs.lemmas.List.Elements.{All-nil, All-set, All-weaker}
use Rattle.edge_cut.specs.declared.passes.Marked.{Marked}
use Rattle.clip_core.specs.declared.bundles.Bundle.{Bundle}
use Rattle.clip_core.specs.declared.windings.Windings.{Windings}
use Rattle.clip_core.specs.declared.rays.Ray.{Ray}
use Rattle.clip_core.specs.Windings.{none, plus, less, is_level}
use Rattle.clip_core.specs.Inner.Small.{AreSmall}
use Rattle.clip_core.specs.Inner.Rays.{strip_of, strip_at, meets_ray, ray_with, is_under, is_up_to, is_below, AreRising, AreInStrip, IsKeyed, IsSmallRay, IsBare, IsFull}
use Rattle.clip_core.specs.declared.rays.Member.{Member}
use Rattle.clip_core.specs.Inner.Members.{IsMember}
use Rattle.clip_core.specs.Inner.Starts.{IsFirst}
use Rattle.clip_core.specs.Inner.Raises.{raised, lifted, ray_at, AllSmall, Adds, AreWith}
use Rattle.clip_core.proofs.Shares.{any-default, below-or-not, ray-small, ray-wider, wider, plus-right, small-none, IsSoFar, so_far-begins, still-keyed}
use Rattle.clip_core.proofs.Lifts.{moved, raised-low, raised-mid, raised-high, raised-none, small-plus, small-less}
use Rattle.clip_core.proofs.Beside.{missed-ray, taken-ray}
use Rattle.clip_core.proofs.PassedBy.{under-same, above-same, above-rest, level-same, below-keys, right-of-key, left-of-key, through-reaches, under-is, div-rises}

pub all-wider : (n m : ℕ) (rays : List Ray) (raises : List Windings) → n ≤ m → AllSmall n rays raises → AllSmall m rays raises
all-wider n m rays raises le h = record {
  rays_small = All-weaker (IsSmallRay n) (IsSmallRay m) (λ r. ray-wider n m r le) rays h.rays_small;
  raises_small = All-weaker (AreSmall n) (AreSmall m) (λ w. wider n m w le) raises h.raises_small;
}

-- nothing is added to no rays
pub adds-none : (f : Bundle) (s : Windings) (i : ℕ) (rays : List Ray) (raises : List Windings) → Adds f s i i rays raises rays raises
adds-none f s i rays raises = record {
  count = refl;
  raises_count = refl;
  before = λ k d lt below. refl;
  within = λ k d le lt below. absurd (omega arith);
  behind = λ k d le below. refl;
  small = λ n h. h;
}

-- the same of a list that is the same
pub adds-as : (f : Bundle) (s : Windings) (i j : ℕ) (rays seen : List Ray) (raises news : List Windings) → seen ≡ rays → Adds f s i j seen raises seen news → Adds f s i j rays raises rays news
adds-as f s i j rays seen raises news same h = subst (λ (rs : List Ray). Adds f s i j rs raises rs news) same h

-- a list that was written over by one as long
pub written : (n : ℕ) (new old : List Ray) → length new ≡ n → take n (new ++ drop (length new) old) ≡ new
written n new old e = rw (← e) (take-append_seam new (drop (length new) old))

-- the raises after a stretch are small
pub next-small : (f : Bundle) (s : Windings) (n i j m : ℕ) (rays seen : List Ray) (raises news : List Windings) → seen ≡ rays → Adds f s i j seen raises seen news → n + j ≤ m → AllSmall (n + i) rays raises → All (AreSmall m) news
next-small f s n i j m rays seen raises news same a le h =
    (all-wider (n + j) m seen news le (a.small n (subst (λ (rs : List Ray). AllSmall (n + i) rs raises) (sym same) h))).raises_small

-- one stretch behind another
pub adds-both : (f : Bundle) (s : Windings) (i m j : ℕ) (rays mid new : List Ray) (raises mids news : List Windings) → i ≤ m → m ≤ j → Adds f s i m rays raises mid mids → Adds f s m j mid mids new news → Adds f s i j rays raises new news
adds-both f s i m j rays mid new raises mids news im mj g h = record {
  count = h.count ∙ g.count;
  raises_count = h.raises_count ∙ g.raises_count;
  before = λ k d lt below. h.before k d (omega arith) (inside k below) ∙ g.before k d lt below;
  within = λ k d le lt below. pick k d le lt below (below-or-not k m);
  behind = λ k d le below. h.behind k d le (inside k below) ∙ g.behind k d (omega arith) below;
  small = λ n a. h.small n (g.small n a);
}
  where
    inside : (k : ℕ) → k < length rays → k < length mid
    inside k below = let e = g.count in omega arith

    pick : (k : ℕ) (d : Ray) → i ≤ k → k < j → k < length rays → (k < m) ⊎ (m ≤ k) → ray_at new news k d ≡ ray_with f s (ray_at rays raises k d)
    pick k d le lt below (inl b) = h.before k d b (inside k below) ∙ g.within k d le b below
    pick k d le lt below (inr b) = h.within k d b lt (inside k below) ∙ ap (λ (r : Ray). ray_with f s r) (g.behind k d b below)

-- where the first stretch has no rays
pub adds-after : (f : Bundle) (s : Windings) (i m j : ℕ) (rays mid new : List Ray) (raises mids news : List Windings) → m ≡ i → i ≤ j → Adds f s i m rays raises mid mids → Adds f s i j mid mids new news → Adds f s i j rays raises new news
adds-after f s i m j rays mid new raises mids news e le g h =
    adds-both f s i i j rays mid new raises mids news (omega arith) le (subst (λ (q : ℕ). Adds f s i q rays raises mid mids) e g) h

-- rays to the right of the edge
pub adds-right : (m : Member) (strip i j : ℕ) (rays : List Ray) (raises : List Windings) → IsMember m → i ≤ j → All (IsKeyed m.bits) rays → AreInStrip strip i j rays → ((k : ℕ) (d : Ray) → i ≤ k → k < j → k < length rays → strip * 8589934592 + m.breadth.right < (get_or rays k d).key) → Adds m.slope.ends m.share i j rays raises rays raises
adds-right m strip i j rays raises is some keyed there past = record {
  count = refl;
  raises_count = refl;
  before = λ k d lt below. refl;
  within = λ k d le lt below.
      let right = right-of-key m.slope.ends m.breadth m.bits strip (get_or rays k d) is.breadth (keyed k d below) (there k d le lt below) (past k d le lt below) in
      missed-ray m.slope.ends m.share (ray_at rays raises k d) right.0 right.1;
  behind = λ k d le below. refl;
  small = λ n a. all-wider (n + i) (n + j) rays raises (omega arith) a;
}

-- rays to the left of it, in a strip that it goes through
pub adds-left : (m : Member) (strip i j : ℕ) (rays : List Ray) (raises : List Windings) → IsMember m → i < j → j < length raises → m.first < strip → strip < m.last → All (IsKeyed m.bits) rays → AreInStrip strip i j rays → ((k : ℕ) (d : Ray) → i ≤ k → k < j → is_below (strip * 8589934592 + m.breadth.left) (get_or rays k d) ≡ true)
    → Adds m.slope.ends m.share i j rays raises rays (set (set raises i (plus (get_or raises i none) m.share)) j (less (get_or raises j none) m.share))
adds-left m strip i j rays raises is some inside over under keyed there below' =
    let f = m.slope.ends in
    let s = m.share in
    let v = plus (get_or raises i none) s in
    let w = less (get_or raises j none) s in
    record {
      count = refl;
      raises_count = length-set (set raises i v) j w ∙ length-set raises i v;
      before = λ k d lt below. ap (λ (u : Windings). lifted u (get_or rays k d)) (raised-low raises i j (suc k) v w some (omega arith));
      within = λ k d le lt below.
          let r = get_or rays k d in
          let at = there k d le lt below in
          let key = keyed k d below in
          let left = left-of-key f m.breadth m.bits strip r is.breadth key at (below-keys (strip * 8589934592 + m.breadth.left) r (below' k d le lt)) in
          ap (λ (u : Windings). lifted u r) (raised-mid raises i j (suc k) s w (omega arith) (omega arith) (omega arith))
          ∙ taken-ray f s (raised raises (suc k)) r (through-reaches f r.bundle m.bits strip m.first m.last is.first is.last (sym at ∙ key.strip) over under) left.0 left.1;
      behind = λ k d le below. ap (λ (u : Windings). lifted u (get_or rays k d)) (raised-high raises i j (suc k) s some inside (omega arith));
      small = λ n a.
          let one = all-wider (n + i) (n + i + 1) rays raises (omega arith) a in
          let vs = small-plus (n + i) 1 (get_or raises i none) s (a.raises_small i none (omega arith)) is.share_small in
          let ws = small-less (n + i) 1 (get_or raises j none) s (a.raises_small j none inside) is.share_small in
          all-wider (n + i + 1) (n + j) rays (set (set raises i v) j w) (omega arith)
          (record { rays_small = one.rays_small; raises_small = All-set (AreSmall (n + i + 1)) (set raises i v) j w ws (All-set (AreSmall (n + i + 1)) raises i v vs one.raises_small) });
    }

-- the keys stay
pub adds-key : (f : Bundle) (s : Windings) (i j : ℕ) (rays new : List Ray) (raises news : List Windings) → Adds f s i j rays raises new news → (k : ℕ) (d : Ray) → k < length rays → (get_or new k d).key ≡ (get_or rays k d).key
adds-key f s i j rays new raises news a k d below = pick (below-or-not k i) (below-or-not k j)
  where
    pick : (k < i) ⊎ (i ≤ k) → (k < j) ⊎ (j ≤ k) → (get_or new k d).key ≡ (get_or rays k d).key
    pick (inl g) h = ap (λ (r : Ray). r.key) (a.before k d g below)
    pick (inr g) (inl h) = ap (λ (r : Ray). r.key) (a.within k d g h below)
    pick (inr g) (inr h) = ap (λ (r : Ray). r.key) (a.behind k d h below)

-- rays stay in their strip
pub strip-stays : (f : Bundle) (s : Windings) (strip i j a b : ℕ) (rays new : List Ray) (raises news : List Windings) → Adds f s a b rays raises new news → AreInStrip strip i j rays → AreInStrip strip i j new
strip-stays f s strip i j a b rays new raises news adds there k d le lt below =
    let below' : k < length rays = let e = adds.count in omega (arith, below, e) in
    ap (λ (n : ℕ). n / 8589934592) (adds-key f s a b rays new raises news adds k d below') ∙ there k d le lt below'

-- the rays of one strip from one of them on, where those before the last stand under the next strip, or the last is the first
pub in-strip : (rays : List Ray) (i j end : ℕ) (e : Ray) → AreRising rays → i < length rays → IsFirst (strip_at (get_or rays i e) + 1) j rays → (end ≤ j) ⊎ (end ≤ i + 1) → AreInStrip (strip_at (get_or rays i e)) i end rays
in-strip rays i j end e rising inside first (inr one) k d le lt below =
    let same : k ≡ i = omega (arith, one, le, lt) in
    ap (λ (n : ℕ). strip_at (get_or rays n d)) same ∙ ap (λ (r : Ray). strip_at r) (any-default rays i d e inside)
in-strip rays i j end e rising inside first (inl fits) k d le lt below =
    let under = under-is (strip_at (get_or rays k d)) (strip_at (get_or rays i e) + 1) (first.before k d (omega (arith, fits, lt))) in
    let over = div-rises (get_or rays i d).key (get_or rays k d).key 8589934592 (rising i k d le below) in
    let same : strip_at (get_or rays i d) ≡ strip_at (get_or rays i e) = ap (λ (r : Ray). strip_at r) (any-default rays i d e inside) in
    omega (arith, under, over, same)

lifted-with : (f : Bundle) (s by : Windings) (r : Ray) → lifted by (ray_with f s r) ≡ ray_with f s (lifted by r)
lifted-with f s by r =
    let q = moved r.sum (cond (meets_ray f r.bundle) s none) by in
    λ i. record { key = r.key; bundle = r.bundle; index = r.index; sum = q i }

-- one ray
pub adds-one : (f : Bundle) (s : Windings) (i : ℕ) (rays : List Ray) (raises : List Windings) (v e : Ray) → i < length rays → v ≡ ray_with f s (get_or rays i e) → AreSmall 1 s → Adds f s i (i + 1) rays raises (set rays i v) raises
adds-one f s i rays raises v e inside is share = record {
  count = length-set rays i v;
  raises_count = refl;
  before = λ k d lt below. ap (λ (r : Ray). lifted (raised raises (suc k)) r) (get_or-set_other rays i k v d (λ q. omega arith));
  within = λ k d le lt below. here k d (omega arith) below;
  behind = λ k d le below. ap (λ (r : Ray). lifted (raised raises (suc k)) r) (get_or-set_other rays i k v d (λ q. omega arith));
  small = λ n a.
      let one = all-wider (n + i) (n + (i + 1)) rays raises (omega arith) a in
      let grown = ray-small (n + i) f s (get_or rays i e) (a.rays_small i e inside) share in
      let vs : IsSmallRay (n + (i + 1)) v = subst (λ (r : Ray). IsSmallRay (n + (i + 1)) r) (sym is) (ray-wider (n + i + 1) (n + (i + 1)) (ray_with f s (get_or rays i e)) (omega arith) grown) in
      record { rays_small = All-set (IsSmallRay (n + (i + 1))) rays i v vs one.rays_small; raises_small = one.raises_small };
}
  where
    here : (k : ℕ) (d : Ray) → k ≡ i → k < length rays → ray_at (set rays i v) raises k d ≡ ray_with f s (ray_at rays raises k d)
    here k d same below =
        let q : get_or (set rays i v) k d ≡ ray_with f s (get_or rays k d) =
        ap (λ (j : ℕ). get_or (set rays i v) j d) same
        ∙ (get_or-set_same rays i v d inside
        ∙ (is
        ∙ (ap (λ (r : Ray). ray_with f s r) (any-default rays i e d inside)
        ∙ ap (λ (j : ℕ). ray_with f s (get_or rays j d)) (sym same)))) in
        ap (λ (r : Ray). lifted (raised raises (suc k)) r) q ∙ lifted-with f s (raised raises (suc k)) (get_or rays k d)

-- the rays under the edge
pub adds-under : (f : Bundle) (s : Windings) (high strip i : ℕ) (rays : List Ray) (raises : List Windings) → strip ≡ strip_of high (f.low.y +ℤ f.low.y) → All (IsKeyed high) rays → ((k : ℕ) (d : Ray) → k < i → is_under strip (get_or rays k d) ≡ true) → Adds f s 0 i rays raises rays raises
adds-under f s high strip i rays raises is keyed under = record {
  count = refl;
  raises_count = refl;
  before = λ k d lt below. absurd (omega arith);
  within = λ k d le lt below. under-same f s (ray_at rays raises k d) high strip is (keyed k d below) (under k d lt);
  behind = λ k d le below. refl;
  small = λ n a. all-wider (n + 0) (n + i) rays raises (omega arith) a;
}

-- a level edge
pub level-with : (f : Bundle) (s : Windings) (rays : List Ray) (raises : List Windings) → is_level f ≡ true → AreWith f s rays raises rays raises
level-with f s rays raises is k d below = level-same f s (ray_at rays raises k d) is

-- the bundles stay
pub adds-bundle : (f : Bundle) (s : Windings) (i j : ℕ) (rays new : List Ray) (raises news : List Windings) → Adds f s i j rays raises new news → (k : ℕ) (d : Ray) → k < length rays → (get_or new k d).bundle ≡ (get_or rays k d).bundle
adds-bundle f s i j rays new raises news a k d below = pick (below-or-not k i) (below-or-not k j)
  where
    pick : (k < i) ⊎ (i ≤ k) → (k < j) ⊎ (j ≤ k) → (get_or new k d).bundle ≡ (get_or rays k d).bundle
    pick (inl g) h = ap (λ (r : Ray). r.bundle) (a.before k d g below)
    pick (inr g) (inl h) = ap (λ (r : Ray). r.bundle) (a.within k d g h below)
    pick (inr g) (inr h) = ap (λ (r : Ray). r.bundle) (a.behind k d h below)

-- and with both the keys' meaning
pub adds-keyed : (bits : ℕ) (f : Bundle) (s : Windings) (i j : ℕ) (rays new : List Ray) (raises news : List Windings) → Adds f s i j rays raises new news → All (IsKeyed bits) rays → All (IsKeyed bits) new
adds-keyed bits f s i j rays new raises news a keyed =
    still-keyed bits rays new a.count
    (λ k d below. adds-key f s i j rays new raises news a k d (let e = a.count in omega (arith, e, below)))
    (λ k d below. adds-bundle f s i j rays new raises news a k d (let e = a.count in omega (arith, e, below)))
    keyed

-- from a ray above the edge on
pub adds-past : (f : Bundle) (s : Windings) (strip i : ℕ) (rays new : List Ray) (raises news : List Windings) (e : Ray) → AreRising rays → Adds f s 0 i rays raises new news → i < length new → is_up_to strip (get_or new i e) ≡ false → (k : ℕ) (d : Ray) → i ≤ k → k < length rays → is_up_to strip (get_or rays k d) ≡ false
adds-past f s strip i rays new raises news e rising a inside over k d le below =
    let there : i < length rays = let q = a.count in omega arith in
    let same : (get_or new i e).key ≡ (get_or rays i d).key = adds-key f s 0 i rays new raises news a i e there ∙ ap (λ (r : Ray). r.key) (any-default rays i e d there) in
    let here : is_up_to strip (get_or rays i d) ≡ false = subst (λ (n : ℕ). nat_le (n / 8589934592) strip ≡ false) same over in
    above-rest strip rays i k d rising le below here

-- the whole walk
pub adds-whole : (f : Bundle) (s : Windings) (high strip i : ℕ) (rays new : List Ray) (raises news : List Windings) → strip ≡ strip_of high (f.high.y +ℤ f.high.y) → All (IsKeyed high) rays → Adds f s 0 i rays raises new news → ((k : ℕ) (d : Ray) → i ≤ k → k < length rays → is_up_to strip (get_or rays k d) ≡ false) → AreWith f s rays raises new news
adds-whole f s high strip i rays new raises news is keyed a past k d lt = pick (below-or-not k i)
  where
    below : k < length rays
    below = let e = a.count in omega arith

    pick : (k < i) ⊎ (i ≤ k) → ray_at new news k d ≡ ray_with f s (ray_at rays raises k d)
    pick (inl h) = a.within k d (omega arith) h below
    pick (inr h) = a.behind k d h below ∙ above-same f s (ray_at rays raises k d) high strip is (keyed k d below) (past k d h below)

pub whole-small : (n i : ℕ) (f : Bundle) (s : Windings) (rays new : List Ray) (raises news : List Windings) → Adds f s 0 i rays raises new news → i ≤ 100000 → AllSmall n rays raises → AllSmall (n + 100000) new news
whole-small n i f s rays new raises news a few h =
    all-wider (n + i) (n + 100000) new news (omega arith) (a.small n (all-wider n (n + 0) rays raises (omega arith) h))

-- before any edge

raised-nothing : (rays : List Ray) (raises : List Windings) (k : ℕ) (d : Ray) → All (λ w. w ≡ none) raises → get_or rays k d ≡ ray_at rays raises k d
raised-nothing rays raises k d none' =
    let r = get_or rays k d in
    let e : r.sum ≡ plus r.sum (raised raises (suc k)) = sym (ap (λ (u : Windings). plus r.sum u) (raised-none raises (suc k) none') ∙ plus-right r.sum) in
    λ i. record { key = r.key; bundle = r.bundle; index = r.index; sum = e i }

pub edges-begin : (all : List Marked) (rays : List Ray) (raises : List Windings) → All IsBare rays → All (λ w. w ≡ none) raises → (k : ℕ) (d : Ray) → k < length rays → IsSoFar 0 all all (get_or rays k d) (ray_at rays raises k d)
edges-begin all rays raises bare none' k d below =
    subst (λ (r : Ray). IsSoFar 0 all all (get_or rays k d) r) (raised-nothing rays raises k d none') (so_far-begins all (get_or rays k d) (bare k d below))

bare-small : (r : Ray) → IsBare r → IsSmallRay 0 r
bare-small r h = small-none r.sum h

pub edges-small : (rays : List Ray) (raises : List Windings) → All IsBare rays → All (λ w. w ≡ none) raises → AllSmall 0 rays raises
edges-small rays raises bare none' = record {
  rays_small = All-weaker IsBare (IsSmallRay 0) bare-small rays bare;
  raises_small = All-weaker (λ (w : Windings). w ≡ none) (AreSmall 0) small-none raises none';
}

-- the rays alone stay small
pub rays-small : (f : Bundle) (s : Windings) (n i j m : ℕ) (rays new : List Ray) → ((raises : List Windings) → Adds f s i j rays raises new raises) → n + j ≤ m → All (IsSmallRay (n + i)) rays → All (IsSmallRay m) new
rays-small f s n i j m rays new adds le h =
    (all-wider (n + j) m new [] le ((adds []).small n (record { rays_small = h; raises_small = All-nil (AreSmall (n + i)) }))).rays_small

-- each ray is raised

pub lift-done : (rays old : List Ray) (raises : List Windings) (k : ℕ) (by : Windings) (v e : Ray) → k < length rays → by ≡ raised raises (k + 1) → v ≡ lifted by (get_or rays k e)
    → ((j : ℕ) (d : Ray) → k ≤ j → j < length rays → get_or rays j d ≡ get_or old j d) → ((j : ℕ) (d : Ray) → j < k → get_or rays j d ≡ ray_at old raises j d)
    → (j : ℕ) (d : Ray) → j < k + 1 → get_or (set rays k v) j d ≡ ray_at old raises j d
lift-done rays old raises k by v e inside sum is left done j d lt = pick (below-or-not j k)
  where
    here : j ≡ k → get_or (set rays k v) j d ≡ ray_at old raises j d
    here same =
        let next : k + 1 ≡ suc k = omega arith in
        let p : by ≡ raised raises (suc k) = sum ∙ ap (λ (n : ℕ). raised raises n) next in
        let q : get_or rays k e ≡ get_or old k d = any-default rays k e d inside ∙ left k d (omega arith) inside in
        let both' : lifted by (get_or rays k e) ≡ ray_at old raises k d = (λ i. lifted (p i) (q i)) in
        ap (λ (n : ℕ). get_or (set rays k v) n d) same ∙ (get_or-set_same rays k v d inside ∙ (is ∙ (both' ∙ ap (λ (n : ℕ). ray_at old raises n d) (sym same))))

    pick : (j < k) ⊎ (k ≤ j) → get_or (set rays k v) j d ≡ ray_at old raises j d
    pick (inl h) = get_or-set_other rays k j v d (λ q. omega arith) ∙ done j d h
    pick (inr h) = here (omega arith)

pub lift-left : (rays old : List Ray) (k : ℕ) (v : Ray) → ((j : ℕ) (d : Ray) → k ≤ j → j < length rays → get_or rays j d ≡ get_or old j d) → (j : ℕ) (d : Ray) → k + 1 ≤ j → j < length rays → get_or (set rays k v) j d ≡ get_or old j d
lift-left rays old k v left j d le below = get_or-set_other rays k j v d (λ q. omega arith) ∙ left j d (omega arith) below

pub all-full : (all : List Marked) (bare rays new : List Ray) (raises : List Windings) → length new ≡ length rays → ((k : ℕ) (d : Ray) → k < length rays → IsFull all (get_or bare k d) (ray_at rays raises k d)) → ((k : ℕ) (d : Ray) → k < length new → get_or new k d ≡ ray_at rays raises k d) → (k : ℕ) (d : Ray) → k < length new → IsFull all (get_or bare k d) (get_or new k d)
all-full all bare rays new raises len full lifts k d below =
    subst (λ (r : Ray). IsFull all (get_or bare k d) r) (sym (lifts k d below)) (full k d (omega arith))
