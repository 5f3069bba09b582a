-- The nearest start: what is found, and what it comes before.
use Rattle.std.proofs.Common.{◌≡◌, ◌<◌, ◌==◌, ℕ, zero, suc, Bool, true, false, cond, ◌&&◌, ◌||◌, List, [], ◌∷◌, length, get_or, Option, Some, None, ◌⊎◌, inl, inr, refl, sym, ap, ◌∙◌, subst, arith}
use Rattle.std.specs.Prelude.{nat_lt}
use Rattle.std.proofs.lemmas.Bool.Decides.{nat_tests}
use Rattle.slice_base.specs.declared.points.Pt.{Pt}
use Rattle.path_order.specs.declared.starts.Start.{Start}
use Rattle.path_order.specs.declared.choices.Choice.{Choice}
use Rattle.path_order.specs.Inner.Remaining.{no_start, is_gone, considered, nearest_left}
use Rattle.path_order.specs.Order.{choice_from, is_before, nearer}
use Rattle.path_order.specs.Inner.Squares.{IsFound, Precedes, Beats}

-- ---- the order of choices

abbrev before : ℕ → ℕ → ℕ → ℕ → ℕ → ℕ → Bool
before a b c d e f = nat_lt a d || (a == d && (nat_lt b e || (b == e && nat_lt c f)))

itself : (a b c : ℕ) → before a b c a b c ≡ false
itself a b c = grind (arith, nat_tests)

neither-first : (a b c d e f : ℕ) → before a b c d e f ≡ false → before d e f a b c ≡ false → a ≡ d
neither-first a b c d e f g h = grind (arith, nat_tests)

neither-second : (a b c d e f : ℕ) → before a b c d e f ≡ false → before d e f a b c ≡ false → b ≡ e
neither-second a b c d e f g h = grind (arith, nat_tests)

neither-third : (a b c d e f : ℕ) → before a b c d e f ≡ false → before d e f a b c ≡ false → c ≡ f
neither-third a b c d e f g h = grind (arith, nat_tests)

through : (a b c d e f g h i : ℕ) → before d e f g h i ≡ true → before a b c g h i ≡ false → before a b c d e f ≡ false
through a b c d e f g h i lt not = grind (arith, nat_tests)

further : (a b c d e f : ℕ) → d < a → before a b c d e f ≡ false
further a b c d e f lt = grind (arith, nat_tests)

pub same_choice : (c d : Choice) → is_before c d ≡ false → is_before d c ≡ false → c ≡ d
same_choice c d g h =
    let s = neither-first c.square c.piece c.start d.square d.piece d.start g h in
    let p = neither-second c.square c.piece c.start d.square d.piece d.start g h in
    let t = neither-third c.square c.piece c.start d.square d.piece d.start g h in
    ap (λ (n : ℕ). let r : Choice = record { square = n; piece = c.piece; start = c.start } in r) s
    ∙ ap (λ (n : ℕ). let r : Choice = record { square = d.square; piece = n; start = c.start } in r) p
    ∙ ap (λ (n : ℕ). let r : Choice = record { square = d.square; piece = d.piece; start = n } in r) t

not_before_itself : (c : Choice) → is_before c c ≡ false
not_before_itself c = itself c.square c.piece c.start

-- what is further away doesn't come before
pub further-not_before : (c d : Choice) → d.square < c.square → is_before c d ≡ false
further-not_before c d lt = further c.square c.piece c.start d.square d.piece d.start lt

-- ---- one start more

found_if : (gone : List Bool) (at : Pt) (ss : List Start) (c d : Choice) (b : Bool) → IsFound gone at ss (Some c) → IsFound gone at ss (Some d) → IsFound gone at ss (cond b (Some c) (Some d))
found_if gone at ss c d true g h = g
found_if gone at ss c d false g h = h

found_nearer : (gone : List Bool) (at : Pt) (ss : List Start) (best : Option Choice) (c : Choice) → IsFound gone at ss best → IsFound gone at ss (Some c) → IsFound gone at ss (nearer best c)
found_nearer gone at ss None c h g = g
found_nearer gone at ss (Some d) c h g = found_if gone at ss c d (is_before c d) g h

found_by : (gone : List Bool) (at : Pt) (ss : List Start) (best : Option Choice) (k : ℕ) (b : Bool) → is_gone gone (get_or ss k no_start).piece ≡ b → k < length ss → IsFound gone at ss best → IsFound gone at ss (cond b best (nearer best (choice_from at (get_or ss k no_start))))
found_by gone at ss best k true is below h = h
found_by gone at ss best k false is below h = found_nearer gone at ss best (choice_from at (get_or ss k no_start)) h (k, below, is, refl)

pub considered-found : (gone : List Bool) (at : Pt) (ss : List Start) (best : Option Choice) (k : ℕ) → k < length ss → IsFound gone at ss best → IsFound gone at ss (considered gone at best (get_or ss k no_start))
considered-found gone at ss best k below h = found_by gone at ss best k (is_gone gone (get_or ss k no_start).piece) refl below h

precedes_if : (at : Pt) (s : Start) (c d : Choice) (b : Bool) → is_before c d ≡ b → is_before (choice_from at s) c ≡ false → (b ≡ false → is_before (choice_from at s) d ≡ false) → Precedes at (cond b (Some c) (Some d)) s
precedes_if at s c d true is g h = g
precedes_if at s c d false is g h = h refl

precedes_new : (at : Pt) (s : Start) (best : Option Choice) → Precedes at (nearer best (choice_from at s)) s
precedes_new at s None = not_before_itself (choice_from at s)
precedes_new at s (Some d) = precedes_if at s (choice_from at s) d (is_before (choice_from at s) d) refl (not_before_itself (choice_from at s)) (λ h. h)

beats_by : (gone : List Bool) (at : Pt) (best : Option Choice) (s : Start) (b : Bool) → is_gone gone s.piece ≡ b → Beats gone at (cond b best (nearer best (choice_from at s))) s
beats_by gone at best s true is = inl is
beats_by gone at best s false is = inr (precedes_new at s best)

pub considered-beats : (gone : List Bool) (at : Pt) (best : Option Choice) (s : Start) → Beats gone at (considered gone at best s) s
considered-beats gone at best s = beats_by gone at best s (is_gone gone s.piece) refl

through_choice : (t c d : Choice) → is_before c d ≡ true → is_before t d ≡ false → is_before t c ≡ false
through_choice t c d lt not = through t.square t.piece t.start c.square c.piece c.start d.square d.piece d.start lt not

precedes_still_if : (at : Pt) (c d : Choice) (t : Start) (b : Bool) → is_before c d ≡ b → is_before (choice_from at t) d ≡ false → Precedes at (cond b (Some c) (Some d)) t
precedes_still_if at c d t true is h = through_choice (choice_from at t) c d is h
precedes_still_if at c d t false is h = h

precedes_still : (at : Pt) (best : Option Choice) (c : Choice) (t : Start) → Precedes at best t → Precedes at (nearer best c) t
precedes_still at None c t h = absurd h
precedes_still at (Some d) c t h = precedes_still_if at c d t (is_before c d) refl h

still_by : (gone : List Bool) (at : Pt) (best : Option Choice) (s t : Start) (b : Bool) → Beats gone at best t → Beats gone at (cond b best (nearer best (choice_from at s))) t
still_by gone at best s t b (inl is) = inl is
still_by gone at best s t true (inr h) = inr h
still_by gone at best s t false (inr h) = inr (precedes_still at best (choice_from at s) t h)

pub considered-keeps : (gone : List Bool) (at : Pt) (best : Option Choice) (s t : Start) → Beats gone at best t → Beats gone at (considered gone at best s) t
considered-keeps gone at best s t h = still_by gone at best s t (is_gone gone s.piece) h

-- ---- over all

-- the choice is one of these starts, of a piece that isn't gone
abbrev FoundIn : List Bool → Pt → List Start → Choice → Type 0
FoundIn gone at [] c = ⊥
FoundIn gone at (s ∷ ss) c = ((is_gone gone s.piece ≡ false) × (c ≡ choice_from at s)) ⊎ FoundIn gone at ss c

abbrev AllBeaten : List Bool → Pt → Option Choice → List Start → Type 0
AllBeaten gone at best [] = Unit {0}
AllBeaten gone at best (s ∷ ss) = Beats gone at best s × AllBeaten gone at best ss

in-from : (gone : List Bool) (at : Pt) (ss : List Start) (c : Choice) (k : ℕ) → k < length ss → is_gone gone (get_or ss k no_start).piece ≡ false → c ≡ choice_from at (get_or ss k no_start) → FoundIn gone at ss c
in-from gone at [] c k below is same = absurd (omega arith)
in-from gone at (s ∷ ss) c zero below is same = inl (is, same)
in-from gone at (s ∷ ss) c (suc k) below is same = inr (in-from gone at ss c k (omega arith) is same)

all-from : (gone : List Bool) (at : Pt) (best : Option Choice) (ss : List Start) → ((k : ℕ) → k < length ss → Beats gone at best (get_or ss k no_start)) → AllBeaten gone at best ss
all-from gone at best [] f = tt
all-from gone at best (s ∷ ss) f = (f zero (omega arith), all-from gone at best ss (λ k below. f (suc k) (omega arith)))

left-keeps : (gone : List Bool) (at : Pt) (best : Option Choice) (ss : List Start) (t : Start) → Beats gone at best t → Beats gone at (nearest_left gone at best ss) t
left-keeps gone at best [] t h = h
left-keeps gone at best (s ∷ ss) t h = left-keeps gone at (considered gone at best s) ss t (considered-keeps gone at best s t h)

left-beats : (gone : List Bool) (at : Pt) (best : Option Choice) (ss : List Start) → AllBeaten gone at (nearest_left gone at best ss) ss
left-beats gone at best [] = tt
left-beats gone at best (s ∷ ss) = (left-keeps gone at (considered gone at best s) ss s (considered-beats gone at best s), left-beats gone at (considered gone at best s) ss)

-- what is found is what was there before, or one of these starts
abbrev Old : List Bool → Pt → Option Choice → List Start → Option Choice → Type 0
Old gone at best ss r = (r ≡ best) ⊎ ((c : Choice) × (r ≡ Some c) × FoundIn gone at ss c)

old_if : (gone : List Bool) (at : Pt) (c d : Choice) (s : Start) (b : Bool) → is_gone gone s.piece ≡ false → c ≡ choice_from at s → Old gone at (Some d) (s ∷ []) (cond b (Some c) (Some d))
old_if gone at c d s true is same = inr (c, refl, inl (is, same))
old_if gone at c d s false is same = inl refl

old_nearer : (gone : List Bool) (at : Pt) (best : Option Choice) (s : Start) → is_gone gone s.piece ≡ false → Old gone at best (s ∷ []) (nearer best (choice_from at s))
old_nearer gone at None s is = inr (choice_from at s, refl, inl (is, refl))
old_nearer gone at (Some d) s is = old_if gone at (choice_from at s) d s (is_before (choice_from at s) d) is refl

old_by : (gone : List Bool) (at : Pt) (best : Option Choice) (s : Start) (b : Bool) → is_gone gone s.piece ≡ b → Old gone at best (s ∷ []) (cond b best (nearer best (choice_from at s)))
old_by gone at best s true is = inl refl
old_by gone at best s false is = old_nearer gone at best s is

one-more : (gone : List Bool) (at : Pt) (s : Start) (ss : List Start) (c : Choice) → FoundIn gone at (s ∷ []) c → FoundIn gone at (s ∷ ss) c
one-more gone at s ss c (inl h) = inl h
one-more gone at s ss c (inr h) = absurd h

old_next : (gone : List Bool) (at : Pt) (best next r : Option Choice) (s : Start) (ss : List Start) → Old gone at best (s ∷ []) next → Old gone at next ss r → Old gone at best (s ∷ ss) r
old_next gone at best next r s ss h (inr later) = inr (later.0, later.1, inr later.2)
old_next gone at best next r s ss (inl same) (inl is) = inl (is ∙ same)
old_next gone at best next r s ss (inr new) (inl is) = inr (new.0, is ∙ new.1, one-more gone at s ss new.0 new.2)

left-old : (gone : List Bool) (at : Pt) (best : Option Choice) (ss : List Start) → Old gone at best ss (nearest_left gone at best ss)
left-old gone at best [] = inl refl
left-old gone at best (s ∷ ss) =
    old_next gone at best (considered gone at best s) (nearest_left gone at (considered gone at best s) ss) s ss
    (old_by gone at best s (is_gone gone s.piece) refl) (left-old gone at (considered gone at best s) ss)

-- one that is beaten by what was found doesn't come before it
abbrev NotBefore : Choice → Option Choice → Type 0
NotBefore d None = ⊥
NotBefore d (Some c) = is_before d c ≡ false

not_before_here : (gone : List Bool) (at : Pt) (best : Option Choice) (s : Start) (d : Choice) → is_gone gone s.piece ≡ false → d ≡ choice_from at s → Beats gone at best s → NotBefore d best
not_before_here gone at best s d is same (inl gone_is) = absurd (let h : true ≡ false = sym gone_is ∙ is in cc)
not_before_here gone at None s d is same (inr h) = absurd h
not_before_here gone at (Some c) s d is same (inr h) = subst (λ (e : Choice). is_before e c ≡ false) (sym same) h

beaten : (gone : List Bool) (at : Pt) (best : Option Choice) (ss : List Start) (d : Choice) → FoundIn gone at ss d → AllBeaten gone at best ss → NotBefore d best
beaten gone at best [] d h all = absurd h
beaten gone at best (s ∷ ss) d (inl h) all = not_before_here gone at best s d h.0 h.1 all.0
beaten gone at best (s ∷ ss) d (inr h) all = beaten gone at best ss d h all.1

one_least : (gone : List Bool) (at : Pt) (ss : List Start) (best r : Option Choice) → IsFound gone at ss best → AllBeaten gone at best ss → Old gone at None ss r → AllBeaten gone at r ss → best ≡ r
one_least gone at ss None r found all (inl is) all' = sym is
one_least gone at ss None r found all (inr new) all' = absurd (beaten gone at None ss new.0 new.2 all)
one_least gone at ss (Some c) r found all (inl is) all' =
    absurd (subst (λ (o : Option Choice). NotBefore c o) is (beaten gone at r ss c (in-from gone at ss c found.0 found.1 found.2 found.3) all'))
one_least gone at ss (Some c) r found all (inr new) all' =
    let g : is_before new.0 c ≡ false = beaten gone at (Some c) ss new.0 new.2 all in
    let h : is_before c new.0 ≡ false = subst (λ (o : Option Choice). NotBefore c o) new.1 (beaten gone at r ss c (in-from gone at ss c found.0 found.1 found.2 found.3) all') in
    ap (λ (d : Choice). let o : Option Choice = Some d in o) (same_choice c new.0 h g) ∙ sym new.1

-- what was found among starts that don't come before it is the nearest of all
pub least-is : (gone : List Bool) (at : Pt) (ss : List Start) (best : Option Choice) → IsFound gone at ss best → ((k : ℕ) → k < length ss → Beats gone at best (get_or ss k no_start)) → best ≡ nearest_left gone at None ss
least-is gone at ss best found f =
    one_least gone at ss best (nearest_left gone at None ss) found (all-from gone at best ss f) (left-old gone at None ss) (left-beats gone at None ss)
