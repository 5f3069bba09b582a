-- Steps of the order, with a mark for each piece that is gone.
use Rattle.std.proofs.Common.{◌≡◌, ◌<◌, ◌≤◌, ◌+◌, ◌-◌, ◌==◌, ℕ, zero, suc, Bool, true, false, cond, not, ◌||◌, List, [], ◌∷◌, ◌++◌, length, Option, Some, None, refl, sym, ap, ◌∙◌, subst, arith, get_or, set, replicate}
use Rattle.std.proofs.Common.{◌≢◌}
use Rattle.std.proofs.lemmas.Bool.Decides.{nat_tests}
use Rattle.std.proofs.lemmas.List.{get_or-set_other, append_assoc, append-nil, length_push}
use Rattle.std.proofs.lemmas.Grind.{get_or-set_at}
use Rattle.slice_base.specs.declared.points.Pt.{Pt}
use Rattle.settings_core.specs.declared.resolved.Seam.{Seam}
use Rattle.settings_core.specs.declared.resolved.Seam.TheVariants.{Shortest, Back}
use Rattle.path_order.specs.declared.pieces.Piece.{Piece}
use Rattle.path_order.specs.declared.pieces.Visit.{Visit}
use Rattle.path_order.specs.declared.starts.Start.{Start}
use Rattle.path_order.specs.declared.choices.Choice.{Choice}
use Rattle.path_order.specs.Inner.Remaining.{Known, is_gone, remaining, considered, nearest_left}
use Rattle.path_order.specs.Starts.{starts_at, further_back, is_further_back, furthest_back, one_or_none, back_of, starts_of, all_starts}
use Rattle.path_order.specs.Order.{choice_from, nearer, is_before, nearest, others, visit_of, stands_after, visits_in, order_of}

-- ---- the nearest of those that remain

nearest_by : (ms : List Bool) (at : Pt) (best : Option Choice) (s : Start) (rest : List Start) (b : Bool) → nearest at (cond b best (nearer best (choice_from at s))) rest ≡ nearest at best (cond (not b) (s ∷ rest) rest)
nearest_by ms at best s rest true = refl
nearest_by ms at best s rest false = refl

pub nearest_left-is : (ms : List Bool) (at : Pt) (best : Option Choice) (ss : List Start) → nearest_left ms at best ss ≡ nearest at best (remaining ms ss)
nearest_left-is ms at best [] = refl
nearest_left-is ms at best (s ∷ ss) =
    nearest_left-is ms at (considered ms at best s) ss ∙ nearest_by ms at best s (remaining ms ss) (is_gone ms s.piece)

-- ---- a piece that goes

gone_if : (ms : List Bool) (p q : ℕ) (t : Bool) → (q == p) ≡ t → p < length ms → is_gone (set ms p true) q ≡ cond t true (is_gone ms q)
gone_if ms p q true is h = let e : q ≡ p = grind (arith, nat_tests) in get_or-set_at ms p q true false e h
gone_if ms p q false is h = let e : q ≢ p = grind (arith, nat_tests) in get_or-set_other ms p q true false e

kept_if : (s : Start) (rest now : List Start) (p : ℕ) (b t : Bool) → (s.piece == p) ≡ t → others p rest ≡ now → others p (cond (not b) (s ∷ rest) rest) ≡ cond (not (cond t true b)) (s ∷ now) now
kept_if s rest now p true true is h = h
kept_if s rest now p true false is h = h
kept_if s rest now p false true is h = rw is h
kept_if s rest now p false false is h = rw is (ap (λ (ss : List Start). s ∷ ss) h)

pub others-remaining : (ms : List Bool) (p : ℕ) (ss : List Start) → p < length ms → others p (remaining ms ss) ≡ remaining (set ms p true) ss
others-remaining ms p [] h = refl
others-remaining ms p (s ∷ ss) h =
    kept_if s (remaining ms ss) (remaining (set ms p true) ss) p (is_gone ms s.piece) (s.piece == p) refl (others-remaining ms p ss h)
    ∙ ap (λ b. cond (not b) (s ∷ remaining (set ms p true) ss) (remaining (set ms p true) ss)) (sym (gone_if ms p s.piece (s.piece == p) refl h))

-- ---- starts of pieces that there are

-- the start that was found is one of a piece that there is
abbrev pub KnownBest : ℕ → Option Choice → Type 0
KnownBest n None = Unit {0}
KnownBest n (Some c) = c.piece < n

abbrev KnownBack : ℕ → Option Start → Type 0
KnownBack n None = Unit {0}
KnownBack n (Some s) = s.piece < n

best_if : (n : ℕ) (c best : Choice) (b : Bool) → c.piece < n → best.piece < n → KnownBest n (cond b (Some c) (Some best))
best_if n c best true g h = g
best_if n c best false g h = h

best_nearer : (n : ℕ) (best : Option Choice) (c : Choice) → KnownBest n best → c.piece < n → KnownBest n (nearer best c)
best_nearer n None c h g = g
best_nearer n (Some best) c h g = best_if n c best (is_before c best) g h

pub nearest-known : (n : ℕ) (at : Pt) (best : Option Choice) (ss : List Start) → KnownBest n best → Known n ss → KnownBest n (nearest at best ss)
nearest-known n at best [] h k = h
nearest-known n at best (s ∷ ss) h k = nearest-known n at (nearer best (choice_from at s)) ss (best_nearer n best (choice_from at s) h k.0) k.1

known_if : (n : ℕ) (s : Start) (ss : List Start) (b : Bool) → s.piece < n → Known n ss → Known n (cond b (s ∷ ss) ss)
known_if n s ss true g h = (g, h)
known_if n s ss false g h = h

pub remaining-known : (n : ℕ) (ms : List Bool) (ss : List Start) → Known n ss → Known n (remaining ms ss)
remaining-known n ms [] h = tt
remaining-known n ms (s ∷ ss) h = known_if n s (remaining ms ss) (not (is_gone ms s.piece)) h.0 (remaining-known n ms ss h.1)

known_append : (n : ℕ) (ss ts : List Start) → Known n ss → Known n ts → Known n (ss ++ ts)
known_append n [] ts g h = h
known_append n (s ∷ ss) ts g h = (g.0, known_append n ss ts g.1 h)

known_points : (n piece i : ℕ) (ps : List Pt) → piece < n → Known n (starts_at piece i ps)
known_points n piece i [] h = tt
known_points n piece i (p ∷ ps) h = (h, known_points n piece (i + 1) ps h)

back_if : (n : ℕ) (s best : Start) (b : Bool) → s.piece < n → best.piece < n → KnownBack n (cond b (Some s) (Some best))
back_if n s best true g h = g
back_if n s best false g h = h

further_known : (n : ℕ) (best : Option Start) (s : Start) → KnownBack n best → s.piece < n → KnownBack n (further_back best s)
further_known n None s h g = g
further_known n (Some best) s h g = back_if n s best (is_further_back s.at best.at) g h

furthest_known : (n : ℕ) (best : Option Start) (ss : List Start) → KnownBack n best → Known n ss → KnownBack n (furthest_back best ss)
furthest_known n best [] h k = h
furthest_known n best (s ∷ ss) h k = furthest_known n (further_back best s) ss (further_known n best s h k.0) k.1

one_known : (n : ℕ) (o : Option Start) → KnownBack n o → Known n (one_or_none o)
one_known n None h = tt
one_known n (Some s) h = (h, tt)

either_known : (n : ℕ) (b : Bool) (ss ts : List Start) → Known n ss → Known n ts → Known n (cond b ss ts)
either_known n true ss ts g h = g
either_known n false ss ts g h = h

starts_known : (seam : Seam) (n piece : ℕ) (p : Piece) → piece < n → Known n (starts_of seam piece p)
starts_known Shortest n piece p h = known_points n piece 0 p.points h
starts_known Back n piece p h =
    let each = known_points n piece 0 p.points h in
    either_known n p.closed (back_of (starts_at piece 0 p.points)) (starts_at piece 0 p.points) (one_known n (furthest_back None (starts_at piece 0 p.points)) (furthest_known n None (starts_at piece 0 p.points) tt each)) each

pub all_starts-known : (seam : Seam) (n i : ℕ) (ps : List Piece) → i + length ps ≤ n → Known n (all_starts seam i ps)
all_starts-known seam n i [] h = tt
all_starts-known seam n i (p ∷ ps) h =
    known_append n (starts_of seam i p) (all_starts seam (i + 1) ps) (starts_known seam n i p (omega arith)) (all_starts-known seam n (i + 1) ps (omega arith))

-- ---- visits

keep_all : (n : ℕ) (q : ℕ) → is_gone (replicate n false) q ≡ false
keep_all zero q = refl
keep_all (suc n) zero = refl
keep_all (suc n) (suc q) = keep_all n q

pub remaining-all : (n : ℕ) (ss : List Start) → remaining (replicate n false) ss ≡ ss
remaining-all n [] = refl
remaining-all n (s ∷ ss) = rw (keep_all n s.piece) (ap (λ (ts : List Start). s ∷ ts) (remaining-all n ss))

pub visits_in-some : (turns : ℕ) (pieces : List Piece) (at : Pt) (ss : List Start) (c : Choice) → nearest at None ss ≡ Some c → visits_in (suc turns) pieces at ss ≡ visit_of c ∷ visits_in turns pieces (stands_after pieces at c) (others c.piece ss)
unfolding visits_in
visits_in-some turns pieces at ss c h = rw h

pub visits_in-none : (turns : ℕ) (pieces : List Piece) (at : Pt) (ss : List Start) → nearest at None ss ≡ None → visits_in turns pieces at ss ≡ []
unfolding visits_in
visits_in-none zero pieces at ss h = refl
visits_in-none (suc turns) pieces at ss h = rw h

pub visits_in-end : (pieces : List Piece) (at : Pt) (ss : List Start) → visits_in 0 pieces at ss ≡ []
unfolding visits_in
visits_in-end pieces at ss = refl

-- a visit more
pub order_more : (pieces : List Piece) (at : Pt) (ms : List Bool) (ss : List Start) (done whole : List Visit) (turns left : ℕ) (c : Choice) → turns ≡ suc left → length ms ≡ length pieces → Known (length pieces) ss → nearest_left ms at None ss ≡ Some c → done ++ visits_in turns pieces at (remaining ms ss) ≡ whole → (done ++ visit_of c ∷ []) ++ visits_in left pieces (stands_after pieces at c) (remaining (set ms c.piece true) ss) ≡ whole
order_more pieces at ms ss done whole turns left c one same known found h =
    let is : nearest at None (remaining ms ss) ≡ Some c = sym (nearest_left-is ms at None ss) ∙ found in
    let below : c.piece < length pieces = subst (λ (o : Option Choice). KnownBest (length pieces) o) is (nearest-known (length pieces) at None (remaining ms ss) tt (remaining-known (length pieces) ms ss known)) in
    let rest = visits_in-some left pieces at (remaining ms ss) c is in
    let gone = others-remaining ms c.piece ss (omega arith) in
    append_assoc done (visit_of c ∷ []) (visits_in left pieces (stands_after pieces at c) (remaining (set ms c.piece true) ss))
    ∙ ap (λ (ts : List Start). done ++ visit_of c ∷ visits_in left pieces (stands_after pieces at c) ts) (sym gone)
    ∙ ap (λ (vs : List Visit). done ++ vs) (sym rest)
    ∙ ap (λ n. done ++ visits_in n pieces at (remaining ms ss)) (sym one)
    ∙ h

-- the piece that was found is one that there is
pub found_below : (pieces : List Piece) (at : Pt) (ms : List Bool) (ss : List Start) (c : Choice) → Known (length pieces) ss → nearest_left ms at None ss ≡ Some c → c.piece < length pieces
found_below pieces at ms ss c known found =
    let is : nearest at None (remaining ms ss) ≡ Some c = sym (nearest_left-is ms at None ss) ∙ found in
    subst (λ (o : Option Choice). KnownBest (length pieces) o) is (nearest-known (length pieces) at None (remaining ms ss) tt (remaining-known (length pieces) ms ss known))

-- nothing is left
pub order_none : (pieces : List Piece) (at : Pt) (ms : List Bool) (ss : List Start) (done whole : List Visit) (turns : ℕ) → nearest_left ms at None ss ≡ None → done ++ visits_in turns pieces at (remaining ms ss) ≡ whole → done ≡ whole
order_none pieces at ms ss done whole turns found h =
    let is : nearest at None (remaining ms ss) ≡ None = sym (nearest_left-is ms at None ss) ∙ found in
    sym (append-nil done) ∙ ap (λ (vs : List Visit). done ++ vs) (sym (visits_in-none turns pieces at (remaining ms ss) is)) ∙ h

-- before the first visit
pub order_begin : (pieces : List Piece) (from : Pt) (seam : Seam) (done : List Visit) (ms : List Bool) (ss : List Start) → done ≡ [] → ms ≡ replicate (length pieces) false → ss ≡ all_starts seam 0 pieces → done ++ visits_in (length pieces - length done) pieces from (remaining ms ss) ≡ order_of pieces from seam
order_begin pieces from seam done ms ss none unmarked starts =
    let n : length pieces - 0 ≡ length pieces = omega arith in
    ap (λ (vs : List Visit). vs ++ visits_in (length pieces - length vs) pieces from (remaining ms ss)) none
    ∙ ap (λ (k : ℕ). visits_in k pieces from (remaining ms ss)) n
    ∙ ap (λ (bs : List Bool). visits_in (length pieces) pieces from (remaining bs ss)) unmarked
    ∙ ap (visits_in (length pieces) pieces from) (remaining-all (length pieces) ss ∙ starts)

-- what remains stays as it is where those that are gone are left out
keep_twice : (ms : List Bool) (s : Start) (rest now : List Start) (b : Bool) → is_gone ms s.piece ≡ b → remaining ms rest ≡ now → remaining ms (cond (not b) (s ∷ rest) rest) ≡ cond (not b) (s ∷ now) now
keep_twice ms s rest now true is h = h
keep_twice ms s rest now false is h = rw is (ap (λ (ss : List Start). s ∷ ss) h)

pub remaining-twice : (ms : List Bool) (ss : List Start) → remaining ms (remaining ms ss) ≡ remaining ms ss
remaining-twice ms [] = refl
remaining-twice ms (s ∷ ss) = keep_twice ms s (remaining ms ss) (remaining ms ss) (is_gone ms s.piece) refl (remaining-twice ms ss)

-- one visit more, by what changed
pub order_next : (pieces : List Piece) (at after : Pt) (ms marked : List Bool) (old new : List Start) (done more whole : List Visit) (c : Choice) → length done < length pieces → length ms ≡ length pieces → Known (length pieces) old → nearest_left ms at None old ≡ Some c → more ≡ done ++ visit_of c ∷ [] → marked ≡ set ms c.piece true → after ≡ stands_after pieces at c → remaining marked new ≡ remaining marked old → done ++ visits_in (length pieces - length done) pieces at (remaining ms old) ≡ whole → more ++ visits_in (length pieces - length more) pieces after (remaining marked new) ≡ whole
order_next pieces at after ms marked old new done more whole c below same known found pushed mark stands kept h =
    let n = length pieces in
    let count : length more ≡ length done + 1 = ap length pushed ∙ length_push done (visit_of c) in
    let one : n - length done ≡ suc (n - length more) = omega arith in
    ap (λ (vs : List Visit). vs ++ visits_in (n - length more) pieces after (remaining marked new)) pushed
    ∙ ap (λ (p : Pt). (done ++ visit_of c ∷ []) ++ visits_in (n - length more) pieces p (remaining marked new)) stands
    ∙ ap (λ (ss : List Start). (done ++ visit_of c ∷ []) ++ visits_in (n - length more) pieces (stands_after pieces at c) ss) (kept ∙ ap (λ (bs : List Bool). remaining bs old) mark)
    ∙ order_more pieces at ms old done whole (n - length done) (n - length more) c one same known found h

-- all pieces are visited
pub order_end : (pieces : List Piece) (at : Pt) (ss : List Start) (done whole : List Visit) → length pieces ≤ length done → done ++ visits_in (length pieces - length done) pieces at ss ≡ whole → done ≡ whole
order_end pieces at ss done whole all h =
    let none : length pieces - length done ≡ 0 = omega arith in
    sym (append-nil done) ∙ ap (λ (vs : List Visit). done ++ vs) (sym (visits_in-end pieces at ss)) ∙ ap (λ (n : ℕ). done ++ visits_in n pieces at ss) (sym none) ∙ h
