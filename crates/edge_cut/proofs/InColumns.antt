-- Columns of a width, numbered from the least coordinate on, and the keys that order by them.
use Rattle.std.proofs.Common.{◌≡◌, ◌<◌, ◌≤◌, ◌*◌, ◌/◌, ◌^◌, ◌%◌, ◌+◌, ℕ, zero, suc, ℤ, cond, ◌≤ℤ◌, Bool, true, false, ◌&&◌, inl, inr, ◌⊎◌, arith, refl}
use Rattle.std.specs.Prelude.{int_le}
use Rattle.std.proofs.Math.Nat.{div-mul-le_self, div-zero}
use Rattle.std.proofs.lemmas.Nat.{le-div}
use Rattle.std.proofs.lemmas.Int.{ints}
use Rattle.slice_base.specs.declared.points.Edge.{Edge}
use Rattle.clip_bands.specs.declared.bands.Span.{Span}
use Rattle.clip_bands.specs.Indices.{touches}
use Rattle.edge_cut.specs.Inner.Columns.{extent_of, above_least, column_of}

pub above-rises : (x y : ℤ) → x ≤ℤ y → above_least x ≤ above_least y
above-rises x y h = grind (arith, ints)

le-then : (x y z : ℕ) → x ≤ y → y ≤ z → x ≤ z
le-then x y z g h = omega arith

pub le-next : (k n : ℕ) → k ≤ n → k < n + 1
le-next k n h = omega arith

le-self : (n : ℕ) → n ≤ n
le-self n = omega arith

div-rises : (a b w : ℕ) → a ≤ b → a / w ≤ b / w
div-rises a b zero le = omega (arith, div-zero a)
div-rises a b (suc w) le = le-div (a / suc w) b (suc w) (omega arith) (le-then (a / suc w * suc w) a b (div-mul-le_self a (suc w)) le)

pub column-rises : (w : ℕ) (x y : ℤ) → x ≤ℤ y → column_of w x ≤ column_of w y
column-rises w x y h = div-rises (above_least x) (above_least y) (2 ^ (w % 64)) (above-rises x y h)

le-of : (x y : ℤ) → int_le x y ≡ true → x ≤ℤ y
le-of x y h = grind (arith, ints)

-- what lies higher above the least is greater
pub higher : (x y : ℤ) → above_least x < above_least y → int_le y x ≡ false
higher x y lt = pick (int_le y x) refl
  where
    pick : (b : Bool) → int_le y x ≡ b → int_le y x ≡ false
    pick true is = let h = above-rises y x (le-of y x is) in absurd (omega arith)
    pick false is = is

span-rises : (a b : ℤ) (s : Bool) → int_le a b ≡ s → (let t : Span = cond s (record { low = a; high = b }) (record { low = b; high = a }) in t.low ≤ℤ t.high)
span-rises a b true h = le-of a b h
span-rises a b false h = grind (arith, ints)

across-rises : (lies : Bool) (i : ℕ) (e : Edge) → (extent_of lies i e).across.low ≤ℤ (extent_of lies i e).across.high
across-rises true i e = span-rises e.from.y e.to.y (int_le e.from.y e.to.y) refl
across-rises false i e = span-rises e.from.x e.to.x (int_le e.from.x e.to.x) refl

-- a column that both touch
pub record Common (w : ℕ) (s t : Span) : Type 0 where
  pub at : ℕ
  pub after_first : column_of w s.low ≤ at
  pub before_first : at ≤ column_of w s.high
  pub after_second : column_of w t.low ≤ at
  pub before_second : at ≤ column_of w t.high

le-or : (a b : ℕ) → (a ≤ b) ⊎ (b ≤ a)
le-or zero b = inl (omega arith)
le-or (suc a) zero = inr (omega arith)
le-or (suc a) (suc b) = one-up (le-or a b)
  where
    one-up : (a ≤ b) ⊎ (b ≤ a) → (suc a ≤ suc b) ⊎ (suc b ≤ suc a)
    one-up (inl h) = inl (omega arith)
    one-up (inr h) = inr (omega arith)

common-of : (w : ℕ) (s t : Span) → s.low ≤ℤ s.high → t.low ≤ℤ t.high → s.low ≤ℤ t.high → t.low ≤ℤ s.high → (column_of w s.low ≤ column_of w t.low) ⊎ (column_of w t.low ≤ column_of w s.low) → Common w s t
common-of w s t sr tr st ts (inl le) = record {
  at = column_of w t.low;
  after_first = le;
  before_first = column-rises w t.low s.high ts;
  after_second = le-self (column_of w t.low);
  before_second = column-rises w t.low t.high tr;
}
common-of w s t sr tr st ts (inr le) = record {
  at = column_of w s.low;
  after_first = le-self (column_of w s.low);
  before_first = column-rises w s.low s.high sr;
  after_second = le;
  before_second = column-rises w s.low t.high st;
}

first-true : (a b : Bool) → (a && b) ≡ true → a ≡ true
first-true true b h = refl
first-true false b h = absurd (cc)

second-true : (a b : Bool) → (a && b) ≡ true → b ≡ true
second-true true b h = h
second-true false b h = absurd (cc)

pub common : (w : ℕ) (lies : Bool) (i j : ℕ) (e f : Edge) → touches (extent_of lies i e).across (extent_of lies j f).across ≡ true → Common w (extent_of lies i e).across (extent_of lies j f).across
common w lies i j e f h =
    let s = (extent_of lies i e).across in
    let t = (extent_of lies j f).across in
    common-of w s t (across-rises lies i e) (across-rises lies j f)
    (le-of s.low t.high (first-true (int_le s.low t.high) (int_le t.low s.high) h))
    (le-of t.low s.high (second-true (int_le s.low t.high) (int_le t.low s.high) h))
    (le-or (column_of w s.low) (column_of w t.low))
