-- What lies inside walls, layer by layer and mesh by mesh.
use Rattle.std.proofs.Common.{◌≡◌, ◌∙◌, ◌<◌, ◌≤◌, ◌+◌, ℕ, zero, suc, List, [], ◌∷◌, ◌++◌, Result, Ok, Err, length, get_or, drop, map, append_assoc, arith, refl, sym, ap, subst}
use Rattle.std.specs.List.{All, range_with_len}
use Rattle.std.proofs.lemmas.List.{get_or_default, map-append, length-map}
use Rattle.std.proofs.lemmas.List.Elements.{All-nil, All-cons, All-head, All-tail, All-push}
use Rattle.slice_base.specs.declared.points.Pt.{Pt}
use Rattle.slice_base.specs.Outcomes.{with_last, up_to}
use Rattle.slice_base.proofs.Outcomes.{drop-item}
use Rattle.wall_skin.specs.declared.walling.WallSet.{WallSet}
use Rattle.wall_skin.specs.declared.skins.Split.{Split}
use Rattle.wall_skin.specs.Walls.{set_of}
use Rattle.plan_types.specs.Areas.{MeshAreasValue}
use Rattle.area_stage.specs.Fills.{inner_of, inners_of, all_inners_of}
use Rattle.area_stage.specs.Jobs.{loops_of, areas_on, all_areas_of}
use Rattle.area_stage.specs.Inner.Columns.{lengthened, lengthened_by, no_columns}

-- ---- lists

-- one more item is moved
pub moved : {X : Type 0} (done new xs rest whole : List X) (x : X) → xs ≡ x ∷ rest → new ≡ done ++ x ∷ [] → done ++ xs ≡ whole → new ++ rest ≡ whole
moved {X} done new xs rest whole x is pushed so_far =
    ap (λ (l : List X). l ++ rest) pushed ∙ (append_assoc done (x ∷ []) rest ∙ (sym (ap (λ (l : List X). done ++ l) is) ∙ so_far))

append-none : {X : Type 0} (xs : List X) → xs ++ [] ≡ xs
append-none [] = refl
append-none {X} (x ∷ xs) = ap (λ (l : List X). x ∷ l) (append-none xs)

last-all : {A E : Type 0} (P : A → Type 0) (r : Result (List A) E) (q : Result A E) (done : List A) → ((xs : List A) → r ≡ Ok xs → All P xs) → ((a : A) → q ≡ Ok a → P a) → with_last r q ≡ Ok done → All P done
last-all {A} P (Ok xs) (Ok a) done h g e =
    let is : xs ++ a ∷ [] ≡ done = cc in
    subst (λ (l : List A). All P l) is (All-push P xs a (h xs refl) (g a refl))
last-all P (Ok xs) (Err e) done h g is = absurd (cc)
last-all P (Err e) q done h g is = absurd (cc)

none-all : {A : Type 0} (P : A → Type 0) (done : List A) → [] ≡ done → All P done
none-all {A} P done e = subst (λ (l : List A). All P l) e (All-nil P)

-- what holds of each value holds of all
pub up_to-all : {A E : Type 0} (P : A → Type 0) (f : ℕ → Result A E) (n : ℕ) (done : List A) → ((k : ℕ) (a : A) → f k ≡ Ok a → P a) → up_to f n ≡ Ok done → All P done
unfolding up_to
up_to-all {A} {E} P f zero done each h = let e : [] ≡ done = cc in none-all P done e
up_to-all P f (suc n) done each h = last-all P (up_to f n) (f n) done (λ xs e. up_to-all P f n xs each e) (λ a e. each n a e) h

-- ---- columns

pub no_columns-more : (k : ℕ) → no_columns k ++ [] ∷ [] ≡ no_columns (k + 1)
no_columns-more zero = refl
no_columns-more (suc k) =
    let e : suc (k + 1) ≡ suc k + 1 = omega arith in
    ap (λ (l : List (List (List (List Pt)))). [] ∷ l) (no_columns-more k) ∙ ap no_columns e

pub length-no_columns : (k : ℕ) → length (no_columns k) ≡ k
length-no_columns zero = refl
length-no_columns (suc k) = omega (arith, length-no_columns k)

pub length-lengthened : (columns : List (List (List (List Pt)))) (sets : List WallSet) → length sets ≡ length columns → length (lengthened columns sets) ≡ length columns
length-lengthened [] sets h = refl
length-lengthened (c ∷ cs) [] h = absurd (omega (arith, h))
length-lengthened (c ∷ cs) (s ∷ ss) h = omega (arith, length-lengthened cs ss (omega (arith, h)))

none-inside : (i k : ℕ) → no_columns k ≡ map (inners_of []) (range_with_len i k)
none-inside i zero = refl
none-inside i (suc k) = ap (λ (l : List (List (List (List Pt)))). [] ∷ l) (none-inside (i + 1) k)

inner-more : (i : ℕ) (done : List (List WallSet)) (sets : List WallSet) → inners_of done i ++ inner_of i sets ∷ [] ≡ inners_of (done ++ sets ∷ []) i
inner-more i done sets = sym (map-append (inner_of i) done (sets ∷ []))

one-longer : (done : List (List WallSet)) (sets : List WallSet) (i k : ℕ) → i + k ≡ length sets → lengthened (map (inners_of done) (range_with_len i k)) (drop i sets) ≡ map (inners_of (done ++ sets ∷ [])) (range_with_len i k)
one-longer done sets i zero h = refl
one-longer done sets i (suc k) h =
    let below : i < length sets = omega (arith, h) in
    let x : WallSet = get_or sets i (set_of [] []) in
    let d = drop-item sets i x below (get_or_default sets i (set_of [] []) x below) in
    let cs = map (inners_of done) (range_with_len (i + 1) k) in
    let next = one-longer done sets (i + 1) k (omega (arith, h)) in
    ap (λ (l : List WallSet). lengthened (inners_of done i ∷ cs) l) d
    ∙ (ap (λ (l : List (List (List (List Pt)))). (inners_of done i ++ inner_of i sets ∷ []) ∷ l) next
    ∙ ap (λ (l : List (List (List Pt))). l ∷ map (inners_of (done ++ sets ∷ [])) (range_with_len (i + 1) k)) (inner-more i done sets))

all-longer : (done layers : List (List WallSet)) (m : ℕ) → All (λ (sets : List WallSet). length sets ≡ m) layers → lengthened_by (map (inners_of done) (range_with_len 0 m)) layers ≡ map (inners_of (done ++ layers)) (range_with_len 0 m)
all-longer done [] m h = ap (λ (l : List (List WallSet)). map (inners_of l) (range_with_len 0 m)) (sym (append-none done))
all-longer done (sets ∷ more) m h =
    let here : 0 + m ≡ length sets = omega (arith, All-head (λ (s : List WallSet). length s ≡ m) sets more h) in
    ap (λ (l : List (List (List (List Pt)))). lengthened_by l more) (one-longer done sets 0 m here)
    ∙ (all-longer (done ++ sets ∷ []) more m (All-tail (λ (s : List WallSet). length s ≡ m) sets more h)
    ∙ ap (λ (l : List (List WallSet)). map (inners_of l) (range_with_len 0 m)) (append_assoc done (sets ∷ []) more))

pub columns-are : (layers : List (List WallSet)) (m : ℕ) → All (λ (sets : List WallSet). length sets ≡ m) layers → lengthened_by (no_columns m) layers ≡ all_inners_of layers m
columns-are layers m h = ap (λ (l : List (List (List (List Pt)))). lengthened_by l layers) (none-inside 0 m) ∙ all-longer [] layers m h

long-from : (layers : List (List WallSet)) (i k : ℕ) → All (λ (c : List (List (List Pt))). length c ≡ length layers) (map (inners_of layers) (range_with_len i k))
long-from layers i zero = All-nil (λ (c : List (List (List Pt))). length c ≡ length layers)
long-from layers i (suc k) = All-cons (λ (c : List (List (List Pt))). length c ≡ length layers) (inners_of layers i) (map (inners_of layers) (range_with_len (i + 1) k)) (length-map layers (inner_of i)) (long-from layers (i + 1) k)

-- each column has an area of each layer
pub columns-long : (layers : List (List WallSet)) (m : ℕ) → All (λ (c : List (List (List Pt))). length c ≡ length layers) (all_inners_of layers m)
columns-long layers m = long-from layers 0 m

parted-columns : (longer new : List (List (List (List Pt)))) (cs rc : List (List (List (List Pt)))) (ss rs : List WallSet) (c inners : List (List (List Pt))) (s : WallSet) (whole : List (List (List (List Pt)))) → cs ≡ c ∷ rc → ss ≡ s ∷ rs → inners ≡ c ++ s.inner ∷ [] → new ≡ longer ++ inners ∷ []
    → longer ++ lengthened cs ss ≡ whole → new ++ lengthened rc rs ≡ whole
parted-columns longer new cs rc ss rs c inners s whole ec es ei pushed so_far =
    moved longer new (lengthened cs ss) (lengthened rc rs) whole inners
    (ap (λ (l : List (List (List (List Pt)))). lengthened l ss) ec ∙ (ap (λ (l : List WallSet). lengthened (c ∷ rc) l) es ∙ ap (λ (l : List (List (List Pt))). l ∷ lengthened rc rs) (sym ei)))
    pushed so_far

pub parted-step : (longer new : List (List (List (List Pt)))) (cs rc : List (List (List (List Pt)))) (ss rs : List WallSet) (c inners : List (List (List Pt))) (s : WallSet) (whole : List (List (List (List Pt)))) → cs ≡ c ∷ rc → ss ≡ s ∷ rs → inners ≡ c ++ s.inner ∷ [] → new ≡ longer ++ inners ∷ []
    → longer ++ lengthened cs ss ≡ whole → new ++ lengthened rc rs ≡ whole
parted-step longer new cs rc ss rs c inners s whole ec es ei pushed so_far = parted-columns longer new cs rc ss rs c inners s whole ec es ei pushed so_far

-- ---- areas

pub length-areas : (walls : List (List (List (List Pt)))) (splits : List Split) (m : ℕ) → length walls ≡ m → length splits ≡ m → length (areas_on walls splits) ≡ m
length-areas [] splits m hw hs = hw
length-areas (w ∷ ws) [] m hw hs = hs
length-areas (w ∷ ws) (s ∷ ss) zero hw hs = absurd (omega (arith, hw))
length-areas (w ∷ ws) (s ∷ ss) (suc m) hw hs = omega (arith, length-areas ws ss m (omega (arith, hw)) (omega (arith, hs)))

pub all-areas-long : (walls : List (List (List (List (List Pt))))) (splits : List (List Split)) (m : ℕ) → All (λ (l : List (List (List (List Pt)))). length l ≡ m) walls → All (λ (l : List Split). length l ≡ m) splits
    → All (λ (l : List MeshAreasValue). length l ≡ m) (all_areas_of walls splits)
all-areas-long [] splits m hw hs = All-nil (λ (l : List MeshAreasValue). length l ≡ m)
all-areas-long (w ∷ ws) [] m hw hs = All-nil (λ (l : List MeshAreasValue). length l ≡ m)
all-areas-long (w ∷ ws) (s ∷ ss) m hw hs =
    All-cons (λ (l : List MeshAreasValue). length l ≡ m) (areas_on w s) (all_areas_of ws ss)
    (length-areas w s m (All-head (λ (l : List (List (List (List Pt)))). length l ≡ m) w ws hw) (All-head (λ (l : List Split). length l ≡ m) s ss hs))
    (all-areas-long ws ss m (All-tail (λ (l : List (List (List (List Pt)))). length l ≡ m) w ws hw) (All-tail (λ (l : List Split). length l ≡ m) s ss hs))

pub all-areas-few : (walls : List (List (List (List (List Pt))))) (splits : List (List Split)) → length (all_areas_of walls splits) ≤ length walls
all-areas-few [] splits = omega arith
all-areas-few (w ∷ ws) [] = omega arith
all-areas-few (w ∷ ws) (s ∷ ss) = omega (arith, all-areas-few ws ss)

loops-long : (sets : List WallSet) (m : ℕ) → length sets ≡ m → length (map loops_of sets) ≡ m
loops-long sets m h = length-map sets loops_of ∙ h

-- walls without what lies inside them are as many
pub walls-long : (layers : List (List WallSet)) (m : ℕ) → All (λ (sets : List WallSet). length sets ≡ m) layers → All (λ (l : List (List (List (List Pt)))). length l ≡ m) (map (map loops_of) layers)
walls-long [] m h = All-nil (λ (l : List (List (List (List Pt)))). length l ≡ m)
walls-long (sets ∷ more) m h =
    All-cons (λ (l : List (List (List (List Pt)))). length l ≡ m) (map loops_of sets) (map (map loops_of) more) (loops-long sets m (All-head (λ (s : List WallSet). length s ≡ m) sets more h))
    (walls-long more m (All-tail (λ (s : List WallSet). length s ≡ m) sets more h))
