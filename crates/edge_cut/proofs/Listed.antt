-- Meeting points that are listed for their edges.
use Rattle.std.proofs.Common.{◌≡◌, ◌<◌, ℕ, List, [], ◌∷◌, ◌++◌, length, get_or, inl, inr, ◌⊎◌, sym, ap, subst}
use Rattle.std.specs.List.{Contains}
use Rattle.slice_base.specs.declared.points.Pt.{Pt}
use Rattle.slice_base.specs.declared.points.Edge.{Edge}
use Rattle.edge_cut.specs.declared.passes.Marked.{Marked}
use Rattle.edge_cut.specs.declared.meetings.Meeting.{Meeting}
use Rattle.edge_cut.specs.Meeting.{meeting_of}
use Rattle.edge_cut.specs.Ordered.{IsEnd, MeetsAt, MeetsAtEnds}
use Rattle.edge_cut.specs.Inner.Indices.{nothing}
use Rattle.edge_cut.specs.Inner.Meetings.{meeting_at, IsOneAt, Lists, ListsBoth, AreCompared, AreMeetings, Compares}
use Rattle.edge_cut.proofs.Ordered.{In, in-contained, contains-in}
use Rattle.edge_cut.proofs.Read.{in-right, in-either}
use Rattle.edge_cut.proofs.Compared.{any-default, in-front, in-last, keeps-then, still-at}

-- no point, and an end

pub lists-none : (e : Edge) (i : ℕ) (ms : List Meeting) → Lists e i [] ms ms
lists-none e i ms = record { kept = λ m h. h; each = λ p h. elim (in-contained p [] h) [ ]; only = λ m h. inl h }

pub lists-end : (e : Edge) (i : ℕ) (p : Pt) (ms : List Meeting) → IsEnd e p → Lists e i (p ∷ []) ms ms
lists-end e i p ms end = record { kept = λ m h. h; each = λ q h. this q (in-contained q (p ∷ []) h); only = λ m h. inl h }
  where
    this : (q : Pt) → In q (p ∷ []) → Contains ms (meeting_at i q) ⊎ IsEnd e q
    this q (inl is) = inr (subst (λ (r : Pt). IsEnd e r) is end)
    this q (inr h) = elim h [ ]

-- one point

pub lists-one : (e : Edge) (i : ℕ) (p : Pt) (old new : List Meeting) → new ≡ old ++ meeting_at i p ∷ [] → Lists e i (p ∷ []) old new
lists-one e i p old new is = record {
  kept = λ m h. taken m (in-front m old (n ∷ []) (in-contained m old h));
  each = λ q h. inl (this q (in-contained q (p ∷ []) h));
  only = λ m h. told m (in-either m old (n ∷ []) (in-contained m (old ++ n ∷ []) (subst (λ (ms : List Meeting). Contains ms m) is h)));
}
  where
    n : Meeting
    n = meeting_at i p

    taken : (m : Meeting) → In m (old ++ n ∷ []) → Contains new m
    taken m h = subst (λ (ms : List Meeting). Contains ms m) (sym is) (contains-in m (old ++ n ∷ []) h)

    this : (q : Pt) → In q (p ∷ []) → Contains new (meeting_at i q)
    this q (inl same) = subst (λ (r : Pt). Contains new (meeting_at i r)) same (taken n (in-last n old))
    this q (inr h) = elim h [ ]

    told : (m : Meeting) → In m old ⊎ In m (n ∷ []) → Contains old m ⊎ IsOneAt i (p ∷ []) m
    told m (inl h) = inl (contains-in m old h)
    told m (inr (inl same)) = inr (sym (ap (λ (k : Meeting). k.index) same), contains-in m.at (p ∷ []) (inl (ap (λ (k : Meeting). k.at) same)))
    told m (inr (inr h)) = elim h [ ]

-- some points, and then others

pub lists-then : (e : Edge) (i : ℕ) (ps qs : List Pt) (a b c : List Meeting) → Lists e i ps a b → Lists e i qs b c → Lists e i (ps ++ qs) a c
lists-then e i ps qs a b c g h = record {
  kept = keeps-then a b c g.kept h.kept;
  each = λ p there. either p (in-either p ps qs (in-contained p (ps ++ qs) there));
  only = λ m there. last m (h.only m there);
}
  where
    either : (p : Pt) → In p ps ⊎ In p qs → Contains c (meeting_at i p) ⊎ IsEnd e p
    either p (inl there) = still-at b c e i ps h.kept g.each p (contains-in p ps there)
    either p (inr there) = h.each p (contains-in p qs there)

    first : (m : Meeting) → Contains a m ⊎ IsOneAt i ps m → Contains a m ⊎ IsOneAt i (ps ++ qs) m
    first m (inl there) = inl there
    first m (inr one) = inr (one.0, contains-in m.at (ps ++ qs) (in-front m.at ps qs (in-contained m.at ps one.1)))

    last : (m : Meeting) → Contains b m ⊎ IsOneAt i qs m → Contains a m ⊎ IsOneAt i (ps ++ qs) m
    last m (inl there) = first m (g.only m there)
    last m (inr one) = inr (one.0, contains-in m.at (ps ++ qs) (in-right m.at ps qs (in-contained m.at qs one.1)))

-- for both edges

pub both-listed : (e f : Edge) (i j : ℕ) (a b c : List Meeting) → Lists e i (meeting_of e f) a b → Lists f j (meeting_of f e) b c → ListsBoth e f i j a c
both-listed e f i j a b c g h = record {
  kept = keeps-then a b c g.kept h.kept;
  forth = still-at b c e i (meeting_of e f) h.kept g.each;
  back = h.each;
  only = λ m there. last m (h.only m there);
}
  where
    first : (m : Meeting) → Contains a m ⊎ IsOneAt i (meeting_of e f) m → Contains a m ⊎ (IsOneAt i (meeting_of e f) m ⊎ IsOneAt j (meeting_of f e) m)
    first m (inl there) = inl there
    first m (inr one) = inr (inl one)

    last : (m : Meeting) → Contains b m ⊎ IsOneAt j (meeting_of f e) m → Contains a m ⊎ (IsOneAt i (meeting_of e f) m ⊎ IsOneAt j (meeting_of f e) m)
    last m (inl there) = first m (g.only m there)
    last m (inr one) = inr (inr one)

-- edges of a list

is-met : (all : List Marked) (i j k : ℕ) (p : Pt) → j < length all → k ≡ i → Contains (meeting_of (get_or all i nothing).edge (get_or all j nothing).edge) p → MeetsAt (get_or all k nothing).edge all p
is-met all i j k p jin same meets =
    let m = get_or all j nothing in
    subst (λ (n : ℕ). MeetsAt (get_or all n nothing).edge all p) (sym same)
    (record { met = m; listed = (j, jin, any-default all j m nothing jin); meets = meets })

pub compares-both : (all : List Marked) (i j : ℕ) (old new : List Meeting) → i < length all → j < length all → ListsBoth (get_or all i nothing).edge (get_or all j nothing).edge i j old new → Compares all i j old new
compares-both all i j old new iin jin h = record {
  kept = h.kept;
  compared = record { forth = h.forth; back = h.back };
  are = λ are m there. each are m (h.only m there);
}
  where
    e : Edge
    e = (get_or all i nothing).edge

    f : Edge
    f = (get_or all j nothing).edge

    each : AreMeetings all old → (m : Meeting) → Contains old m ⊎ (IsOneAt i (meeting_of e f) m ⊎ IsOneAt j (meeting_of f e) m) → MeetsAt (get_or all m.index nothing).edge all m.at
    each are m (inl there) = are m there
    each are m (inr (inl one)) = is-met all i j m.index m.at jin one.0 one.1
    each are m (inr (inr one)) = is-met all j i m.index m.at iin one.0 one.1

pub compared-ends : (all : List Marked) (i j : ℕ) (ms : List Meeting) → MeetsAtEnds (get_or all i nothing).edge (get_or all j nothing) → MeetsAtEnds (get_or all j nothing).edge (get_or all i nothing) → AreCompared all ms i j
compared-ends all i j ms forth back = record { forth = λ p h. inr (forth p h); back = λ p h. inr (back p h) }

pub compares-none : (all : List Marked) (i j : ℕ) (ms : List Meeting) → AreCompared all ms i j → Compares all i j ms ms
compares-none all i j ms compared = record { kept = λ m h. h; compared = compared; are = λ are. are }

pub none-are : (all : List Marked) → AreMeetings all []
none-are all m h = elim (in-contained m [] h) [ ]
