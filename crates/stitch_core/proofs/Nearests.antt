-- The first gap of a kind, found one slot after another, and once a gap is closed.
use Rattle.std.proofs.Common.{ℕ, inl, inr, ⊎_elim, ◌⊎◌, ◌≡◌, ◌≢◌, ◌<◌, ◌≤◌, ◌+◌, Bool, true, false, cond, List, [], ◌∷◌, ◌++◌, length, get_or, set, Option, Some, None, refl, sym, ◌∙◌, ap, subst, arith}
use Rattle.std.specs.Prelude.{nat_lt, ◌==◌, ◌||◌, MatchOption}
use Rattle.std.proofs.Math.Seq.{get_or-append_seam}
use Rattle.std.proofs.lemmas.List.{get_or-set_other, get_or-set_same, get_or_append_left, get_or_default}
use Rattle.slice_base.specs.Shapes.{Loops}
use Rattle.slice_base.specs.Plane.{square_of}
use Rattle.stitch_core.specs.declared.gaps.Gap.{Gap}
use Rattle.stitch_core.specs.Gaps.{start_of, end_of}
use Rattle.stitch_core.specs.Next.{IsGap, IsNotAfter, IsNext}
use Rattle.stitch_core.specs.Inner.Slots.{HasNoGap, closed}
use Rattle.stitch_core.specs.Inner.Nearest.{IsFirst, IsNearest, AreNearest, IsRenewed, earlier_of, leads_to, is_stale_of}
use Rattle.stitch_core.proofs.Slots.{within_slots}
use Rattle.stitch_core.proofs.Joined.{apart_if, gap-before, gap-stays}

not_after-itself : (g : Gap) → IsNotAfter g g
not_after-itself g = record { width = omega arith; ends = λ e. omega arith; starts = λ e f. omega arith }

not_after-wider : (g h : Gap) → g.squared < h.squared → IsNotAfter g h
not_after-wider g h less = record { width = omega arith; ends = λ e. absurd (omega arith); starts = λ e f. absurd (omega arith) }

lt_if : (m n : ℕ) → nat_lt m n ≡ true → m < n
lt_if m n h = grind arith

ge_if : (m n : ℕ) → nat_lt m n ≡ false → n ≤ m
ge_if m n h = grind arith

-- of two kinds, the first of which goes first where gaps are equal, the lesser of the first gaps is the first of both
first-both : (P Q R : Gap → Type 0) → (slots : Loops) → (a b : Option Gap)
    → ((g h : Gap) → P g → Q h → g.squared ≤ h.squared → IsNotAfter g h) → ((g : Gap) → R g → P g ⊎ Q g) → ((g : Gap) → P g → R g) → ((g : Gap) → Q g → R g)
    → IsFirst P slots a → IsFirst Q slots b → IsFirst R slots (earlier_of a b)
first-both P Q R slots None None before parts pr qr ha hb = λ g gap r. ⊎_elim (λ (p : P g). ha g gap p) (λ (q : Q g). hb g gap q) (parts g r)
first-both P Q R slots (Some f) None before parts pr qr ha hb =
    record { is_gap = ha.is_gap; kind = pr f ha.kind; first = λ g gap r. ⊎_elim (λ (p : P g). ha.first g gap p) (λ (q : Q g). absurd (hb g gap q)) (parts g r) }
first-both P Q R slots None (Some g) before parts pr qr ha hb =
    record { is_gap = hb.is_gap; kind = qr g hb.kind; first = λ h gap r. ⊎_elim (λ (p : P h). absurd (ha h gap p)) (λ (q : Q h). hb.first h gap q) (parts h r) }
first-both P Q R slots (Some f) (Some g) before parts pr qr ha hb = by_test (nat_lt g.squared f.squared) refl
  where
    by_test : (t : Bool) → nat_lt g.squared f.squared ≡ t → IsFirst R slots (cond t (Some g) (Some f))
    by_test true e =
        let less = lt_if g.squared f.squared e in
        record {
          is_gap = hb.is_gap;
          kind = qr g hb.kind;
          first = λ h gap r. ⊎_elim (λ (p : P h). not_after-wider g h (let w = (ha.first h gap p).width in omega arith)) (λ (q : Q h). hb.first h gap q) (parts h r);
        }
    by_test false e =
        let le = ge_if g.squared f.squared e in
        record {
          is_gap = ha.is_gap;
          kind = pr f ha.kind;
          first = λ h gap r. ⊎_elim (λ (p : P h). ha.first h gap p) (λ (q : Q h). before f h ha.kind q (let w = (hb.first h gap q).width in omega arith)) (parts h r);
        }

same_width : (slots : Loops) → (g h : Gap) → IsGap slots g → IsGap slots h → g.from ≡ h.from → g.to ≡ h.to → g.squared ≡ h.squared
same_width slots g h a b from to =
    a.wide ∙ (ap (λ (i : ℕ). square_of (end_of (get_or slots i [])) (start_of (get_or slots g.to []))) from ∙ (ap (λ (j : ℕ). square_of (end_of (get_or slots h.from [])) (start_of (get_or slots j []))) to ∙ sym b.wide))

-- ---- one slot after another

-- from the slot, to those before this one
abbrev pub FromBefore : ℕ → ℕ → Gap → Type 0
FromBefore from to g = (g.from ≡ from) × (g.to < to)

abbrev pub FromTo : ℕ → ℕ → Gap → Type 0
FromTo from to g = (g.from ≡ from) × (g.to ≡ to)

pub first-none : (slots : Loops) → (from : ℕ) → IsFirst (FromBefore from 0) slots None
first-none slots from g gap at = absurd (omega (arith, at.1))

between-first : (slots : Loops) → (from to : ℕ) → (o : Option Gap) → MatchOption o (HasNoGap slots from to) (λ g. IsGap slots g × (g.from ≡ from) × (g.to ≡ to)) → IsFirst (FromTo from to) slots o
between-first slots from to None h = λ g gap at. h g at.0 at.1 gap
between-first slots from to (Some f) h = record {
  is_gap = h.0;
  kind = (h.1, h.2);
  first = λ g gap at.
      let w = same_width slots f g h.0 gap (h.1 ∙ sym at.0) (h.2 ∙ sym at.1) in
      record { width = omega (arith, w); ends = λ e. omega (arith, h.1, at.0); starts = λ e k. omega (arith, h.2, at.1) };
}

pub first-more : (slots : Loops) → (from to : ℕ) → (best o : Option Gap) → MatchOption o (HasNoGap slots from to) (λ g. IsGap slots g × (g.from ≡ from) × (g.to ≡ to)) → IsFirst (FromBefore from to) slots best → IsFirst (FromBefore from (to + 1)) slots (earlier_of best o)
first-more slots from to best o one so_far =
    first-both (FromBefore from to) (FromTo from to) (FromBefore from (to + 1)) slots best o
    (λ g h p q le. record { width = le; ends = λ e. omega (arith, p.0, q.0); starts = λ e k. omega (arith, p.1, q.1) })
    (λ g r. by_test g r (nat_lt g.to to) refl)
    (λ g p. (p.0, omega (arith, p.1)))
    (λ g q. (q.0, omega (arith, q.1)))
    so_far (between-first slots from to o one)
  where
    by_test : (g : Gap) → FromBefore from (to + 1) g → (t : Bool) → nat_lt g.to to ≡ t → FromBefore from to g ⊎ FromTo from to g
    by_test g r true e = inl (r.0, lt_if g.to to e)
    by_test g r false e = let le = ge_if g.to to e in inr (r.0, omega (arith, r.1, le))

pub first-whole : (slots : Loops) → (from to : ℕ) → (best : Option Gap) → length slots ≤ to → IsFirst (FromBefore from to) slots best → IsNearest slots from best
first-whole slots from to None past h = λ g gap at. h g gap (at, let l = within_slots slots g.to gap.starts in omega (arith, l))
first-whole slots from to (Some f) past h = record {
  is_gap = h.is_gap;
  kind = h.kind.0;
  first = λ g gap at. h.first g gap (at, let l = within_slots slots g.to gap.starts in omega (arith, l));
}

-- ---- the first of all

abbrev pub Before : ℕ → Gap → Type 0
Before from g = g.from < from

pub all-none : (slots : Loops) → IsFirst (Before 0) slots None
all-none slots g gap at = absurd (omega (arith, at))

pub all-more : (slots : Loops) → (from : ℕ) → (best o : Option Gap) → IsNearest slots from o → IsFirst (Before from) slots best → IsFirst (Before (from + 1)) slots (earlier_of best o)
all-more slots from best o one so_far =
    first-both (Before from) (λ g. g.from ≡ from) (Before (from + 1)) slots best o
    (λ g h p q le. record { width = le; ends = λ e. omega (arith, p, q); starts = λ e k. absurd (omega (arith, p, q, k)) })
    (λ g r. by_test g r (nat_lt g.from from) refl)
    (λ g p. omega (arith, p))
    (λ g q. omega (arith, q))
    so_far one
  where
    by_test : (g : Gap) → Before (from + 1) g → (t : Bool) → nat_lt g.from from ≡ t → Before from g ⊎ (g.from ≡ from)
    by_test g r true e = inl (lt_if g.from from e)
    by_test g r false e = let le = ge_if g.from from e in inr (omega (arith, r, le))

-- one more of a list of nearest gaps
pub all-next : (slots : Loops) → (gaps : List (Option Gap)) → (from : ℕ) → (best d new : Option Gap) → new ≡ earlier_of best (get_or gaps from d) → from < length gaps → AreNearest slots gaps → IsFirst (Before from) slots best → IsFirst (Before (from + 1)) slots new
all-next slots gaps from best d new is below near so_far =
    let one : IsNearest slots from (get_or gaps from d) = subst (λ (o : Option Gap). IsNearest slots from o) (sym (get_or_default gaps from d None below)) (near.each from (omega (arith, below, near.same))) in
    subst (λ (o : Option Gap). IsFirst (Before (from + 1)) slots o) (sym is) (all-more slots from best (get_or gaps from d) one so_far)

pub all-whole : (slots : Loops) → (from : ℕ) → (best : Option Gap) → length slots ≤ from → IsFirst (Before from) slots best → MatchOption best ((g : Gap) → IsGap slots g → ⊥) (λ g. IsNext slots g)
all-whole slots from None past h = λ g gap. h g gap (let l = within_slots slots g.from gap.ends in omega (arith, l))
all-whole slots from (Some f) past h = record { is_gap = h.is_gap; first = λ g gap. h.first g gap (let l = within_slots slots g.from gap.ends in omega (arith, l)) }

-- ---- a list of nearest gaps

pub pushed-nearest : (slots : Loops) → (gaps new : List (Option Gap)) → (from : ℕ) → (o : Option Gap) → new ≡ gaps ++ o ∷ [] → length gaps ≡ from → IsNearest slots from o
    → ((k : ℕ) → k < from → IsNearest slots k (get_or gaps k None)) → (k : ℕ) → k < from + 1 → IsNearest slots k (get_or new k None)
pushed-nearest slots gaps new from o is len one so_far k below = by_test (nat_lt k from) refl
  where
    by_test : (t : Bool) → nat_lt k from ≡ t → IsNearest slots k (get_or new k None)
    by_test true e =
        let l = lt_if k from e in
        let at : get_or new k None ≡ get_or gaps k None = ap (λ (gs : List (Option Gap)). get_or gs k None) is ∙ get_or_append_left gaps (o ∷ []) None k (omega (arith, l, len)) in
        subst (λ (x : Option Gap). IsNearest slots k x) (sym at) (so_far k l)
    by_test false e =
        let l = ge_if k from e in
        let same : k ≡ from = omega (arith, l, below) in
        let at : get_or new from None ≡ o = ap (λ (gs : List (Option Gap)). get_or gs from None) is ∙ subst (λ (j : ℕ). get_or (gaps ++ o ∷ []) j None ≡ o) len (get_or-append_seam gaps o [] None) in
        subst (λ (j : ℕ). IsNearest slots j (get_or new j None)) (sym same) (subst (λ (x : Option Gap). IsNearest slots from x) (sym at) one)

-- ---- once a gap is closed

parts : (a b c : Bool) → (a || b || c) ≡ false → (a ≡ false) × (b ≡ false) × (c ≡ false)
parts true b c h = absurd (cc)
parts false true c h = absurd (cc)
parts false false true h = absurd (cc)
parts false false false h = (refl, refl, refl)

stays-nearest : (slots : Loops) → (g : Gap) → (from : ℕ) → (o : Option Gap) → IsGap slots g → from ≢ g.from → from ≢ g.to → leads_to o g.to ≡ false → IsNearest slots from o → IsNearest (closed g slots) from o
stays-nearest slots g from None gap other apart leads h = λ k now at. h k (gap-before slots g k gap now (λ e. other (sym at ∙ e))).0 at
stays-nearest slots g from (Some f) gap other apart leads h = record {
  is_gap = gap-stays slots g f gap h.is_gap (λ e. other (sym h.kind ∙ e)) (λ e. apart (sym h.kind ∙ e)) (apart_if f.to g.to leads);
  kind = h.kind;
  first = λ k now at. h.first k (gap-before slots g k gap now (λ e. other (sym at ∙ e))).0 at;
}

pub nearest-again : (slots now : Loops) → (g : Gap) → (old new : List (Option Gap)) → now ≡ closed g slots → length now ≡ length slots → IsGap slots g → AreNearest slots old → length new ≡ length old
    → ((k : ℕ) → k < length old → IsRenewed now g k (get_or old k None) (get_or new k None)) → AreNearest now new
nearest-again slots now g old new is len gap before same renewed = record {
  same = omega (arith, same, before.same, len);
  each = λ from below. by_test from below (is_stale_of g from (get_or old from None)) refl;
}
  where
    by_test : (from : ℕ) → from < length now → (t : Bool) → is_stale_of g from (get_or old from None) ≡ t → IsNearest now from (get_or new from None)
    by_test from below true e = (renewed from (omega (arith, below, before.same, len))).anew e
    by_test from below false e =
        let p = parts (from == g.from) (from == g.to) (leads_to (get_or old from None) g.to) e in
        let h = stays-nearest slots g from (get_or old from None) gap (apart_if from g.from p.0) (apart_if from g.to p.1) p.2 (before.each from (omega (arith, below, len))) in
        let stays = (renewed from (omega (arith, below, before.same, len))).stays e in
        subst (λ (cs : Loops). IsNearest cs from (get_or new from None)) (sym is) (subst (λ (o : Option Gap). IsNearest (closed g slots) from o) (sym stays) h)

-- one more slot is looked at
pub renewed-more : (slots : Loops) → (g : Gap) → (old gaps new : List (Option Gap)) → (from : ℕ) → (o n : Option Gap) → new ≡ set gaps from n → from < length gaps → o ≡ get_or old from None → IsRenewed slots g from o n
    → ((k : ℕ) → k < from → IsRenewed slots g k (get_or old k None) (get_or gaps k None)) → (k : ℕ) → k < from + 1 → IsRenewed slots g k (get_or old k None) (get_or new k None)
renewed-more slots g old gaps new from o n is below at one so_far k within = by_test (nat_lt k from) refl
  where
    by_test : (t : Bool) → nat_lt k from ≡ t → IsRenewed slots g k (get_or old k None) (get_or new k None)
    by_test true e =
        let l = lt_if k from e in
        let other : k ≢ from = λ h. absurd (omega (arith, l, h)) in
        let kept : get_or new k None ≡ get_or gaps k None = ap (λ (gs : List (Option Gap)). get_or gs k None) is ∙ get_or-set_other gaps from k n None other in
        subst (λ (x : Option Gap). IsRenewed slots g k (get_or old k None) x) (sym kept) (so_far k l)
    by_test false e =
        let l = ge_if k from e in
        let same : k ≡ from = omega (arith, l, within) in
        let put : get_or new from None ≡ n = ap (λ (gs : List (Option Gap)). get_or gs from None) is ∙ get_or-set_same gaps from n None below in
        subst (λ (j : ℕ). IsRenewed slots g j (get_or old j None) (get_or new j None)) (sym same)
        (subst (λ (x : Option Gap). IsRenewed slots g from (get_or old from None) x) (sym put) (subst (λ (x : Option Gap). IsRenewed slots g from x n) at one))
