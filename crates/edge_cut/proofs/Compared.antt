-- Boxes compared with each other.
use Rattle.std.proofs.Common.{◌≡◌, ◌≢◌, ◌<◌, ◌≤◌, ◌+◌, ◌*◌, ℕ, zero, suc, ◌&&◌, Bool, true, false, not, List, [], ◌∷◌, ◌++◌, length, get_or, inl, inr, ◌⊎◌, arith, refl, sym, ap, ◌∙◌, subst}
use Rattle.std.specs.Prelude.{int_le, nat_le}
use Rattle.std.specs.List.{All, Contains}
use Rattle.std.specs.List.Sorted.{IsPermutation}
use Rattle.std.proofs.lemmas.Bool.Decides.{nat_tests}
use Rattle.std.proofs.lemmas.List.Elements.{All-append, All-nil, All-cons}
use Rattle.std.proofs.lemmas.List.Sorted.{All-permutation, Contains-permutation}
use Rattle.slice_base.specs.declared.points.Pt.{Pt}
use Rattle.slice_base.specs.declared.points.Edge.{Edge}
use Rattle.clip_bands.specs.declared.bands.Span.{Span}
use Rattle.clip_bands.specs.Indices.{touches}
use Rattle.edge_cut.specs.declared.passes.Marked.{Marked}
use Rattle.edge_cut.specs.declared.columns.Extent.{Extent}
use Rattle.edge_cut.specs.declared.columns.Filed.{Filed}
use Rattle.edge_cut.specs.declared.meetings.Meeting.{Meeting}
use Rattle.edge_cut.specs.Meeting.{meeting_of}
use Rattle.edge_cut.specs.Ordered.{IsEnd}
use Rattle.edge_cut.specs.Inner.Indices.{nothing}
use Rattle.edge_cut.specs.Inner.Columns.{extent_of, above_least, key_of, filed_at, limit_of, AreRising, IsExtentOf, IsFileOf, KeepsFiles, IsFiled, AreFiled}
use Rattle.edge_cut.specs.Inner.Heights.{height_of, width_of}
use Rattle.edge_cut.specs.Inner.Marks.{AreApart, IsFar, AreNear}
use Rattle.edge_cut.specs.Inner.News.{AreSettled}
use Rattle.edge_cut.specs.Inner.Meetings.{meeting_at, Keeps, AreAt, IsListed, AreCompared, ComparedUpTo, ComparedBelow, AreListed}
use Rattle.edge_cut.proofs.Ordered.{In, in-contained, contains-in}
use Rattle.edge_cut.proofs.Beside.{meetings-apart, meetings-beside}
use Rattle.edge_cut.proofs.InColumns.{higher, common}

-- edges whose boxes are apart don't meet

none-at : (e f : Edge) (i : ℕ) (meetings : List Meeting) → meeting_of e f ≡ [] → AreAt e i (meeting_of e f) meetings
none-at e f i meetings none p h = elim (subst (λ (ps : List Pt). In p ps) none (in-contained p (meeting_of e f) h)) [ ]

turned : (a b : Bool) → (a && b) ≡ false → (b && a) ≡ false
turned true true h = h
turned true false h = refl
turned false true h = refl
turned false false h = refl

touches-turned : (s t : Span) → touches s t ≡ false → touches t s ≡ false
touches-turned s t h = turned (int_le s.low t.high) (int_le t.low s.high) h

across-none : (lies : Bool) (i j : ℕ) (e f : Edge) → touches (extent_of lies i e).across (extent_of lies j f).across ≡ false → meeting_of e f ≡ []
across-none true i j e f h = meetings-apart e f h
across-none false i j e f h = meetings-beside e f h

along-none : (lies : Bool) (i j : ℕ) (e f : Edge) → touches (extent_of lies i e).along (extent_of lies j f).along ≡ false → meeting_of e f ≡ []
along-none true i j e f h = meetings-beside e f h
along-none false i j e f h = meetings-apart e f h

-- what is apart needn't be listed
pub across-compared : (lies : Bool) (all : List Marked) (meetings : List Meeting) (a b : Extent) → IsExtentOf lies all a → IsExtentOf lies all b → touches a.across b.across ≡ false → AreCompared all meetings a.index b.index
across-compared lies all meetings a b ha hb h =
    let m = get_or all a.index nothing in
    let n = get_or all b.index nothing in
    let g : touches (extent_of lies a.index m.edge).across (extent_of lies b.index n.edge).across ≡ false = sym (λ i. touches (ha.is i).across (hb.is i).across) ∙ h in
    record {
      forth = none-at m.edge n.edge a.index meetings (across-none lies a.index b.index m.edge n.edge g);
      back = none-at n.edge m.edge b.index meetings (across-none lies b.index a.index n.edge m.edge (touches-turned (extent_of lies a.index m.edge).across (extent_of lies b.index n.edge).across g));
    }

pub along-compared : (lies : Bool) (all : List Marked) (meetings : List Meeting) (a b : Extent) → IsExtentOf lies all a → IsExtentOf lies all b → touches a.along b.along ≡ false → AreCompared all meetings a.index b.index
along-compared lies all meetings a b ha hb h =
    let m = get_or all a.index nothing in
    let n = get_or all b.index nothing in
    let g : touches (extent_of lies a.index m.edge).along (extent_of lies b.index n.edge).along ≡ false = sym (λ i. touches (ha.is i).along (hb.is i).along) ∙ h in
    record {
      forth = none-at m.edge n.edge a.index meetings (along-none lies a.index b.index m.edge n.edge g);
      back = none-at n.edge m.edge b.index meetings (along-none lies b.index a.index n.edge m.edge (touches-turned (extent_of lies a.index m.edge).along (extent_of lies b.index n.edge).along g));
    }

isnt-true : (t : Bool) → not t ≡ true → t ≡ false
isnt-true true h = absurd (cc)
isnt-true false h = refl

pub across-not : (s t : Span) (r : Bool) → r ≡ not (touches s t) → r ≡ true → touches s t ≡ false
across-not s t r is h = isnt-true (touches s t) (sym is ∙ h)

-- what was listed stays listed

still-there : (old new : List Meeting) (e : Edge) (i : ℕ) (p : Pt) → Keeps old new → Contains old (meeting_at i p) ⊎ IsEnd e p → Contains new (meeting_at i p) ⊎ IsEnd e p
still-there old new e i p kept (inl h) = inl (kept (meeting_at i p) h)
still-there old new e i p kept (inr h) = inr h

pub still-at : (old new : List Meeting) (e : Edge) (i : ℕ) (ps : List Pt) → Keeps old new → AreAt e i ps old → AreAt e i ps new
still-at old new e i ps kept at p h = still-there old new e i p kept (at p h)

still-listed : (all : List Marked) (old new : List Meeting) (i j : ℕ) → Keeps old new → IsListed all old i j → IsListed all new i j
still-listed all old new i j kept h =
    let e = (get_or all i nothing).edge in
    still-at old new e i (meeting_of e (get_or all j nothing).edge) kept h

pub still-compared : (all : List Marked) (old new : List Meeting) (i j : ℕ) → Keeps old new → AreCompared all old i j → AreCompared all new i j
still-compared all old new i j kept h = record { forth = still-listed all old new i j kept h.forth; back = still-listed all old new j i kept h.back }

pub keeps-then : (a b c : List Meeting) → Keeps a b → Keeps b c → Keeps a c
keeps-then a b c g h m there = h m (g m there)

-- on the walk from r

pub below-or-last : (k i : ℕ) → k < i + 1 → (k < i) ⊎ (k ≡ i)
below-or-last k zero lt = inr (omega arith)
below-or-last zero (suc i) lt = inl (omega arith)
below-or-last (suc k) (suc i) lt = one-up (below-or-last k i (omega arith))
  where
    one-up : (k < i) ⊎ (k ≡ i) → (suc k < suc i) ⊎ (suc k ≡ suc i)
    one-up (inl h) = inl (omega arith)
    one-up (inr h) = inr (ap suc h)

pub any-default : {X : Type 0} (xs : List X) (i : ℕ) (d e : X) → i < length xs → get_or xs i d ≡ get_or xs i e
any-default [] i d e below = absurd (omega arith)
any-default (x ∷ xs) zero d e below = refl
any-default (x ∷ xs) (suc i) d e below = any-default xs i d e (omega arith)

pub none-yet : (all : List Marked) (meetings : List Meeting) (fs : List Filed) (r : ℕ) → ComparedUpTo all meetings fs r (r + 1)
none-yet all meetings fs r s d later below same = absurd (omega arith)

pub one-compared : (all : List Marked) (old new : List Meeting) (fs : List Filed) (r s : ℕ) (a b : Filed) → r < s → s < length fs → ((d : Filed) → get_or fs r d ≡ a) → ((d : Filed) → get_or fs s d ≡ b) → Keeps old new → ComparedUpTo all old fs r s → AreCompared all new a.extent.index b.extent.index → ComparedUpTo all new fs r (s + 1)
one-compared all old new fs r s a b up below ra sb kept so_far here t d later lt same = pick (below-or-last t s lt)
  where
    pick : (t < s) ⊎ (t ≡ s) → AreCompared all new (get_or fs r d).extent.index (get_or fs t d).extent.index
    pick (inl h) = still-compared all old new (get_or fs r d).extent.index (get_or fs t d).extent.index kept (so_far t d later h same)
    pick (inr h) = subst (λ (k : ℕ). AreCompared all new (get_or fs r d).extent.index (get_or fs k d).extent.index) (sym h)
        (subst (λ (x : Filed). AreCompared all new x.extent.index (get_or fs s d).extent.index) (sym (ra d))
        (subst (λ (x : Filed). AreCompared all new a.extent.index x.extent.index) (sym (sb d)) here))

no-second : (a b : Bool) → b ≡ false → (a && b) ≡ false
no-second true b h = h
no-second false b h = refl

below-or-not : (k i : ℕ) → (k < i) ⊎ (i ≤ k)
below-or-not k zero = inr (omega arith)
below-or-not zero (suc i) = inl (omega arith)
below-or-not (suc k) (suc i) = one-up (below-or-not k i)
  where
    one-up : (k < i) ⊎ (i ≤ k) → (suc k < suc i) ⊎ (suc i ≤ suc k)
    one-up (inl h) = inl (omega arith)
    one-up (inr h) = inr (omega arith)

not-le : (m n : ℕ) → nat_le m n ≡ false → n < m
not-le m n h = grind (arith, nat_tests)

-- a box of the same column with a greater key than the limit begins behind the high end
far-behind : (f g : Filed) → g ≡ filed_at g.column g.extent → f.column ≡ g.column → limit_of f < g.key → int_le g.extent.along.low f.extent.along.high ≡ false
far-behind f g is same over =
    let key : g.key ≡ key_of g.column g.extent.along.low = ap (λ (x : Filed). x.key) is in
    let begins : f.column * 4294967296 ≡ g.column * 4294967296 = ap (λ (n : ℕ). n * 4294967296) same in
    let lt : above_least f.extent.along.high < above_least g.extent.along.low = behind (f.column * 4294967296) (g.column * 4294967296) (above_least f.extent.along.high) (above_least g.extent.along.low) g.key begins key over in
    higher f.extent.along.high g.extent.along.low lt
  where
    behind : (k l a b key : ℕ) → k ≡ l → key ≡ l + b → k + a < key → a < b
    behind k l a b key e g h = omega arith

less-by : (k l m n : ℕ) → m < k → m ≡ n → k ≡ l → n < l
less-by k l m n lt low key = omega arith

later-key : (k l m : ℕ) → k < l → l ≤ m → k < m
later-key k l m lt le = omega arith

-- where the walk stops, all boxes behind in the column are apart
pub rest-compared : (lies : Bool) (all : List Marked) (meetings : List Meeting) (fs : List Filed) (r s : ℕ) (e : Filed) (limit : ℕ) → r < length fs → s < length fs → AreRising fs → All (IsFileOf lies all) fs → limit ≡ limit_of (get_or fs r e) → nat_le (get_or fs s e).key limit ≡ false → ComparedUpTo all meetings fs r s → ComparedUpTo all meetings fs r (length fs)
rest-compared lies all meetings fs r s e limit rin sin rising are is over so_far t d later below same = pick (below-or-not t s)
  where
    pick : (t < s) ⊎ (s ≤ t) → AreCompared all meetings (get_or fs r d).extent.index (get_or fs t d).extent.index
    pick (inl h) = so_far t d later h same
    pick (inr h) =
        let f = get_or fs r d in
        let g = get_or fs t d in
        let low : limit ≡ limit_of f = is ∙ ap (λ (x : Filed). limit_of x) (any-default fs r e d rin) in
        let key : (get_or fs s e).key ≡ (get_or fs s d).key = ap (λ (x : Filed). x.key) (any-default fs s e d sin) in
        let here : limit_of f < (get_or fs s d).key = less-by (get_or fs s e).key (get_or fs s d).key limit (limit_of f) (not-le (get_or fs s e).key limit over) low key in
        let behind : limit_of f < g.key = later-key (limit_of f) (get_or fs s d).key g.key here (rising s t d h below) in
        let far = far-behind f g (are t d below).is same behind in
        along-compared lies all meetings f.extent g.extent (are r d rin).extent (are t d below).extent
        (no-second (int_le f.extent.along.low g.extent.along.high) (int_le g.extent.along.low f.extent.along.high) far)

pub all-behind : (all : List Marked) (meetings : List Meeting) (fs : List Filed) (r s : ℕ) → length fs ≤ s → ComparedUpTo all meetings fs r s → ComparedUpTo all meetings fs r (length fs)
all-behind all meetings fs r s over so_far t d later below same = so_far t d later (omega arith) same

pub more-below : (all : List Marked) (old new : List Meeting) (fs : List Filed) (r : ℕ) → Keeps old new → ComparedBelow all old fs r → ComparedUpTo all new fs r (length fs) → ComparedBelow all new fs (r + 1)
more-below all old new fs r kept so_far here q lt = pick (below-or-last q r lt)
  where
    pick : (q < r) ⊎ (q ≡ r) → ComparedUpTo all new fs q (length fs)
    pick (inl h) = λ t d later below same. still-compared all old new (get_or fs q d).extent.index (get_or fs t d).extent.index kept (so_far q h t d later below same)
    pick (inr h) = subst (λ (k : ℕ). ComparedUpTo all new fs k (length fs)) (sym h) here

pub all-below : (all : List Marked) (meetings : List Meeting) (fs : List Filed) (r : ℕ) → length fs ≤ r → ComparedBelow all meetings fs r → ComparedBelow all meetings fs (length fs)
all-below all meetings fs r over so_far q lt = so_far q (omega arith)

-- the boxes of all edges, each filed in the columns that it touches

pub one-filed : (lies : Bool) (bits : ℕ) (all : List Marked) (near : List Bool) (old new : List Filed) (index : ℕ) → KeepsFiles old new → ((i : ℕ) → i < index → get_or near i false ≡ true → IsFiled bits (extent_of lies i (get_or all i nothing).edge) old) → (get_or near index false ≡ true → IsFiled bits (extent_of lies index (get_or all index nothing).edge) new) → (i : ℕ) → i < index + 1 → get_or near i false ≡ true → IsFiled bits (extent_of lies i (get_or all i nothing).edge) new
one-filed lies bits all near old new index kept so_far here i lt is = pick (below-or-last i index lt)
  where
    pick : (i < index) ⊎ (i ≡ index) → IsFiled bits (extent_of lies i (get_or all i nothing).edge) new
    pick (inl h) = λ c after before. kept (filed_at c (extent_of lies i (get_or all i nothing).edge)) (so_far i h is c after before)
    pick (inr h) = subst (λ (k : ℕ). get_or near k false ≡ true → IsFiled bits (extent_of lies k (get_or all k nothing).edge) new) (sym h) here is

pub one-column : (x : Extent) (old new : List Filed) (first column : ℕ) → KeepsFiles old new → ((c : ℕ) → first ≤ c → c < column → Contains old (filed_at c x)) → Contains new (filed_at column x) → (c : ℕ) → first ≤ c → c < column + 1 → Contains new (filed_at c x)
one-column x old new first column kept so_far here c after lt = pick (below-or-last c column lt)
  where
    pick : (c < column) ⊎ (c ≡ column) → Contains new (filed_at c x)
    pick (inl h) = kept (filed_at c x) (so_far c after h)
    pick (inr h) = subst (λ (k : ℕ). Contains new (filed_at k x)) (sym h) here

pub in-front : {X : Type 0} (f : X) (xs ys : List X) → In f xs → In f (xs ++ ys)
in-front f [] ys h = elim h [ ]
in-front f (x ∷ xs) ys (inl is) = inl is
in-front f (x ∷ xs) ys (inr h) = inr (in-front f xs ys h)

pub in-last : {X : Type 0} (f : X) (xs : List X) → In f (xs ++ f ∷ [])
in-last f [] = inl refl
in-last f (x ∷ xs) = inr (in-last f xs)

pub pushed-kept : (old new : List Filed) (f : Filed) → new ≡ old ++ f ∷ [] → KeepsFiles old new
pushed-kept old new f is g h = subst (λ (fs : List Filed). Contains fs g) (sym is) (contains-in g (old ++ f ∷ []) (in-front g old (f ∷ []) (in-contained g old h)))

pub pushed-last : (old new : List Filed) (f : Filed) → new ≡ old ++ f ∷ [] → Contains new f
pushed-last old new f is = subst (λ (fs : List Filed). Contains fs f) (sym is) (contains-in f (old ++ f ∷ []) (in-last f old))

pub pushed-are : (lies : Bool) (all : List Marked) (old new : List Filed) (f : Filed) → new ≡ old ++ f ∷ [] → IsFileOf lies all f → All (IsFileOf lies all) old → All (IsFileOf lies all) new
pushed-are lies all old new f is h are =
    subst (λ (fs : List Filed). All (IsFileOf lies all) fs) (sym is)
    (All-append (IsFileOf lies all) old (f ∷ []) are (All-cons (IsFileOf lies all) f [] h (All-nil (IsFileOf lies all))))

pub moved-filed : (lies : Bool) (bits : ℕ) (all : List Marked) (near : List Bool) (old new : List Filed) → IsPermutation old new → AreFiled lies bits all near old → AreFiled lies bits all near new
moved-filed lies bits all near old new moved h = record {
  are = All-permutation (IsFileOf lies all) old new moved h.are;
  each = λ i below is c after before. Contains-permutation old new (filed_at c (extent_of lies i (get_or all i nothing).edge)) moved (h.each i below is c after before);
}

order : (p q : ℕ) → (p < q) ⊎ ((q < p) ⊎ (p ≡ q))
order zero zero = inr (inr refl)
order zero (suc q) = inl (omega arith)
order (suc p) zero = inr (inl (omega arith))
order (suc p) (suc q) = one-up (order p q)
  where
    one-up : (p < q) ⊎ ((q < p) ⊎ (p ≡ q)) → (suc p < suc q) ⊎ ((suc q < suc p) ⊎ (suc p ≡ suc q))
    one-up (inl h) = inl (omega arith)
    one-up (inr (inl h)) = inr (inl (omega arith))
    one-up (inr (inr h)) = inr (inr (ap suc h))

by-order : (all : List Marked) (meetings : List Meeting) (fs : List Filed) (d : Filed) (i j p q : ℕ) → p < length fs → q < length fs → (get_or fs p d).extent.index ≡ i → (get_or fs q d).extent.index ≡ j → (get_or fs p d).column ≡ (get_or fs q d).column → ComparedBelow all meetings fs (length fs) → i ≢ j → (p < q) ⊎ ((q < p) ⊎ (p ≡ q)) → IsListed all meetings i j
by-order all meetings fs d i j p q pin qin pis qis same all' other (inl h) =
    subst (λ (k : ℕ). IsListed all meetings k j) pis (subst (λ (k : ℕ). IsListed all meetings (get_or fs p d).extent.index k) qis (all' p pin q d h qin same).forth)
by-order all meetings fs d i j p q pin qin pis qis same all' other (inr (inl h)) =
    subst (λ (k : ℕ). IsListed all meetings k j) pis (subst (λ (k : ℕ). IsListed all meetings (get_or fs p d).extent.index k) qis (all' q qin p d h pin (sym same)).back)
by-order all meetings fs d i j p q pin qin pis qis same all' other (inr (inr h)) =
    absurd (other (sym pis ∙ (ap (λ (k : ℕ). (get_or fs k d).extent.index) h ∙ qis)))

in-column : (all : List Marked) (meetings : List Meeting) (fs : List Filed) (c : ℕ) (x y : Extent) → Contains fs (filed_at c x) → Contains fs (filed_at c y) → ComparedBelow all meetings fs (length fs) → x.index ≢ y.index → IsListed all meetings x.index y.index
in-column all meetings fs c x y p q all' other =
    let d = filed_at c x in
    let pis : get_or fs p.0 d ≡ filed_at c x = p.2 in
    let qis : get_or fs q.0 d ≡ filed_at c y = any-default fs q.0 d (filed_at c y) q.1 ∙ q.2 in
    by-order all meetings fs d x.index y.index p.0 q.0 p.1 q.1
    (ap (λ (f : Filed). f.extent.index) pis) (ap (λ (f : Filed). f.extent.index) qis)
    (ap (λ (f : Filed). f.column) pis ∙ sym (ap (λ (f : Filed). f.column) qis)) all' other (order p.0 q.0)

both-filed : (lies : Bool) (bits : ℕ) (all : List Marked) (meetings : List Meeting) (fs : List Filed) (i j : ℕ) (b : Bool) → IsFiled bits (extent_of lies i (get_or all i nothing).edge) fs → IsFiled bits (extent_of lies j (get_or all j nothing).edge) fs → ComparedBelow all meetings fs (length fs) → i < length all → j < length all → i ≢ j → touches (extent_of lies i (get_or all i nothing).edge).across (extent_of lies j (get_or all j nothing).edge).across ≡ b → IsListed all meetings i j
both-filed lies bits all meetings fs i j true first second all' iin jin other h =
    let e = (get_or all i nothing).edge in
    let f = (get_or all j nothing).edge in
    let c = common bits lies i j e f h in
    in-column all meetings fs c.at (extent_of lies i e) (extent_of lies j f) (first c.at c.after_first c.before_first) (second c.at c.after_second c.before_second) all' other
both-filed lies bits all meetings fs i j false first second all' iin jin other h =
    (across-compared lies all meetings (extent_of lies i (get_or all i nothing).edge) (extent_of lies j (get_or all j nothing).edge) (record { within = iin; is = refl }) (record { within = jin; is = refl }) h).forth

-- an edge that is far from all new ones

none-apart : (e f : Edge) (i : ℕ) (meetings : List Meeting) → AreApart e f → AreAt e i (meeting_of e f) meetings
none-apart e f i meetings (inl beside) = none-at e f i meetings (meetings-beside e f beside)
none-apart e f i meetings (inr above) = none-at e f i meetings (meetings-apart e f above)

apart-turned : (e f : Edge) → AreApart e f → AreApart f e
apart-turned e f (inl beside) = inl (touches-turned (width_of e) (width_of f) beside)
apart-turned e f (inr above) = inr (touches-turned (height_of e) (height_of f) above)

far-listed : (all : List Marked) (news : List Bool) (meetings : List Meeting) (i j : ℕ) (b : Bool) → AreSettled all news → IsFar all news i → i < length all → j < length all → get_or news j false ≡ b → IsListed all meetings i j
far-listed all news meetings i j true settled far iin jin is = none-apart (get_or all i nothing).edge (get_or all j nothing).edge i meetings (far.apart j jin is)
far-listed all news meetings i j false settled far iin jin is = λ p h. inr (settled.at_ends i j iin jin far.old is p h)

far-listed-back : (all : List Marked) (news : List Bool) (meetings : List Meeting) (i j : ℕ) (b : Bool) → AreSettled all news → IsFar all news j → i < length all → j < length all → get_or news i false ≡ b → IsListed all meetings i j
far-listed-back all news meetings i j true settled far iin jin is =
    let e = (get_or all i nothing).edge in
    let f = (get_or all j nothing).edge in
    none-apart e f i meetings (apart-turned f e (far.apart i iin is))
far-listed-back all news meetings i j false settled far iin jin is = λ p h. inr (settled.at_ends i j iin jin is far.old p h)

listed-by : (lies : Bool) (bits : ℕ) (all : List Marked) (news near : List Bool) (meetings : List Meeting) (fs : List Filed) (i j : ℕ) (a b : Bool) → AreSettled all news → AreNear all news near → AreFiled lies bits all near fs → ComparedBelow all meetings fs (length fs) → i < length all → j < length all → i ≢ j → get_or near i false ≡ a → get_or near j false ≡ b → IsListed all meetings i j
listed-by lies bits all news near meetings fs i j true true settled told files all' iin jin other isa isb =
    both-filed lies bits all meetings fs i j (touches (extent_of lies i (get_or all i nothing).edge).across (extent_of lies j (get_or all j nothing).edge).across) (files.each i iin isa) (files.each j jin isb) all' iin jin other refl
listed-by lies bits all news near meetings fs i j false b settled told files all' iin jin other isa isb =
    far-listed all news meetings i j (get_or news j false) settled (told.far i iin isa) iin jin refl
listed-by lies bits all news near meetings fs i j true false settled told files all' iin jin other isa isb =
    far-listed-back all news meetings i j (get_or news i false) settled (told.far j jin isb) iin jin refl

-- with all boxes compared that are near new edges, all edges are
pub are-listed : (lies : Bool) (bits : ℕ) (all : List Marked) (news near : List Bool) (meetings : List Meeting) (fs : List Filed) → AreSettled all news → AreNear all news near → AreFiled lies bits all near fs → ComparedBelow all meetings fs (length fs) → AreListed all meetings
are-listed lies bits all news near meetings fs settled told files all' i j iin jin other =
    listed-by lies bits all news near meetings fs i j (get_or near i false) (get_or near j false) settled told files all' iin jin other refl refl

-- in another order they are the same meetings
pub moved-listed : (all : List Marked) (old new : List Meeting) → IsPermutation old new → AreListed all old → AreListed all new
moved-listed all old new moved h i j iin jin other = still-listed all old new i j (λ m there. Contains-permutation old new m moved there) (h i j iin jin other)
