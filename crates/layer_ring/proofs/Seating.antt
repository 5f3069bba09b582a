-- The seats of a ring's workers, joined one after another.
use Rattle.std.proofs.Common.{◌≡◌, ℕ, zero, suc, ◌+◌, ◌<◌, Bool, true, false, cond, List, [], ◌∷◌, ◌++◌, length, get_or, refl, sym, ap, ◌∙◌, subst, arith, eq-eqb, ◌==◌}
use Rattle.std.proofs.lemmas.List.{append-nil}
use mathlib.Core.Logic.{dite}
use native.Mathlib.Decide.{ℕ_discrete}
use mathlib.Core.List.{IsPrefix}
use Rattle.turn_lock.specs.Events.{made_by, has_number}
use Rattle.turn_lock.specs.Turns.{Lock, Seated}
use Rattle.ring_core.specs.declared.event.Event.{Event}
use Rattle.ring_core.specs.declared.ring.RingName.{RingName}
use Rattle.ring_core.specs.Core.{who}
use Rattle.layer_ring.specs.Ends.{Ended}
use Rattle.layer_ring.specs.Inner.Seats.{SawEnd}
use Rattle.layer_ring.specs.Inner.Seats.{AtEnd, Joined, Gathered}
use Rattle.layer_ring.proofs.Moves.{prefix_trans}

cond_more : (b c d : Bool) → (c ≡ true → d ≡ true) → cond b true c ≡ true → cond b true d ≡ true
cond_more true c d f h = refl
cond_more false c d f h = f h

has_left : (xs ys : List ℕ) (n : ℕ) → has_number xs n ≡ true → has_number (xs ++ ys) n ≡ true
has_left [] ys n h = absurd (cc h)
has_left (x ∷ xs) ys n h = cond_more (x == n) (has_number xs n) (has_number (xs ++ ys) n) (has_left xs ys n) h

cond_right : (b d : Bool) → d ≡ true → cond b true d ≡ true
cond_right true d h = refl
cond_right false d h = h

has_right : (xs ys : List ℕ) (n : ℕ) → has_number ys n ≡ true → has_number (xs ++ ys) n ≡ true
has_right [] ys n h = h
has_right (x ∷ xs) ys n h = cond_right (x == n) (has_number (xs ++ ys) n) (has_right xs ys n h)

has_one : (n : ℕ) → has_number (n ∷ []) n ≡ true
has_one n = ap (λ b. cond b true false) (eq-eqb n n refl)

saw_more : (n v : ℕ) (xs ys : List Event) → SawEnd n v xs → IsPrefix xs ys → made_by who v ys ≡ made_by who v xs → SawEnd n v ys
saw_more n v xs ys s p same = record { seen = s.seen; before = prefix_trans s.seen xs ys s.before p; all_own = same ∙ s.all_own; ended = s.ended }

saw_itself : (n v : ℕ) (xs : List Event) → Ended n v xs → SawEnd n v xs
saw_itself n v xs e = record { seen = xs; before = ([], append-nil xs); all_own = refl; ended = e }

front : {A : Type 0} (R : ℕ → A → Type 0) (z : A) (zs : List A) → R 0 z → ((i : ℕ) (d : A) → i < length zs → R (suc i) (get_or zs i d)) → (i : ℕ) (d : A) → i < length (z ∷ zs) → R i (get_or (z ∷ zs) i d)
front R z zs a b zero d lt = a
front R z zs a b (suc i) d lt = b i d (omega (arith, lt))

part : {A : Type 0} (R : ℕ → A → Type 0) (zs : List A) (x : A) → ((i : ℕ) (d : A) → i < length (zs ++ x ∷ []) → R i (get_or (zs ++ x ∷ []) i d)) → R (length zs) x × ((i : ℕ) (d : A) → i < length zs → R i (get_or zs i d))
part R [] x h = (h 0 x (omega arith), λ i d lt. absurd (omega (arith, lt)))
part R (z ∷ zs) x h =
    let r = part (λ k. R (suc k)) zs x (λ i d lt. h (suc i) d (omega (arith, lt))) in
    (r.0, front R z zs (h 0 z (omega arith)) r.1)

-- the last element, and those before it
pub parts : {A : Type 0} (R : ℕ → A → Type 0) (ys zs : List A) (x : A) → ys ≡ zs ++ x ∷ [] → ((i : ℕ) (d : A) → i < length ys → R i (get_or ys i d)) → R (length zs) x × ((i : ℕ) (d : A) → i < length zs → R i (get_or zs i d))
parts R ys zs x is h = part R zs x (subst (λ us. (i : ℕ) (d : _) → i < length us → R i (get_or us i d)) is h)

length_on : {A : Type 0} (zs : List A) (x : A) → length (zs ++ x ∷ []) ≡ length zs + 1
length_on [] x = refl
length_on (z ∷ zs) x = let h = length_on zs x in omega (arith, h)

pub one_longer : {A : Type 0} (ys zs : List A) (x : A) → ys ≡ zs ++ x ∷ [] → length ys ≡ length zs + 1
one_longer ys zs x is = ap length is ∙ length_on zs x

module _ {N : Type 0} where
  joined_here : (lock : Lock) (n k : ℕ) (s : Seated (RingName N) Event) → AtEnd lock n k s → Joined n s.covers s.seen k
  joined_here lock n k s a = (subst (λ l. has_number l k ≡ true) (sym a.covers_is) (has_one k), saw_itself n k s.seen a.ended)

  pub gathered_start : (lock : Lock) (n k m : ℕ) (s : Seated (RingName N) Event) → AtEnd lock n 0 s → m ≡ k → Gathered n k m s.covers s.seen
  gathered_start lock n k m s a e = record { root = joined_here lock n 0 s a; others = λ v lt le. absurd (omega (arith, lt, le, e)) }

  abbrev pub Heard : Seated (RingName N) Event → List Event → Type 0
  Heard s seen = IsPrefix s.seen seen × ((v : ℕ) → has_number s.covers v ≡ true → made_by who v seen ≡ made_by who v s.seen)

  stay : (n v : ℕ) (s : Seated (RingName N) Event) (covers : List ℕ) (seen : List Event) → Joined n s.covers s.seen v → Heard s seen → (has_number s.covers v ≡ true → has_number covers v ≡ true) → Joined n covers seen v
  stay n v s covers seen j h more = (more j.0, saw_more n v s.seen seen j.1 h.0 (h.1 v j.0))

  pub gathered_more : (lock : Lock) (n k m : ℕ) (s t : Seated (RingName N) Event) (covers : List ℕ) (seen : List Event) → Gathered n (k + 1) m s.covers s.seen → AtEnd lock n (k + 1) t → covers ≡ s.covers ++ t.covers → Heard s seen → Heard t seen → Gathered n k m covers seen
  gathered_more lock n k m s t covers seen g a is one two =
      let left : (v : ℕ) → has_number s.covers v ≡ true → has_number covers v ≡ true = λ v h. subst (λ l. has_number l v ≡ true) (sym is) (has_left s.covers t.covers v h) in
      let right : (v : ℕ) → has_number t.covers v ≡ true → has_number covers v ≡ true = λ v h. subst (λ l. has_number l v ≡ true) (sym is) (has_right s.covers t.covers v h) in record {
        root = stay n 0 s covers seen g.root one (left 0);
        others = λ v lt le. dite (ℕ_discrete (k + 1) v)
            (λ e. subst (Joined n covers seen) e (stay n (k + 1) t covers seen (joined_here lock n (k + 1) t a) two (right (k + 1))))
            (λ ne. stay n v s covers seen (g.others v (omega (arith, lt, ne)) le) one (left v));
      }

-- all are together
pub gathered_all : (n m : ℕ) (covers : List ℕ) (seen : List Event) → Gathered n 0 m covers seen → (v : ℕ) → v < m + 1 → Joined n covers seen v
gathered_all n m covers seen g zero lt = g.root
gathered_all n m covers seen g (suc v) lt = g.others (suc v) (omega arith) (omega (arith, lt))

pub gathered_has : (n m : ℕ) (covers : List ℕ) (seen : List Event) (v : ℕ) → Gathered n 0 m covers seen → v < m + 1 → has_number covers v ≡ true
gathered_has n m covers seen v g lt = (gathered_all n m covers seen g v lt).0

pub gathered_saw : (n m : ℕ) (covers : List ℕ) (seen : List Event) (v : ℕ) → Gathered n 0 m covers seen → v < m + 1 → SawEnd n v seen
gathered_saw n m covers seen v g lt = (gathered_all n m covers seen g v lt).1
