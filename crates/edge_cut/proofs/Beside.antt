-- Edges that stand beside or above each other don't meet.
use Rattle.std.proofs.Common.{◌≡◌, ◌≤ℤ◌, ◌<ℤ◌, Bool, true, false, cond, [], inl, inr, ◌⊎◌, arith, refl}
use Rattle.std.specs.Prelude.{int_le}
use Rattle.std.proofs.lemmas.Int.{ints}
use Rattle.slice_base.specs.declared.points.Edge.{Edge}
use Rattle.clip_bands.specs.declared.bands.Span.{Span}
use Rattle.clip_bands.specs.Indices.{touches}
use Rattle.edge_cut.specs.Meeting.{meeting_of}
use Rattle.edge_cut.specs.Inner.Heights.{height_of, width_of}
use Rattle.edge_cut.proofs.Apart.{meetings-below, meetings-above, meetings-left, meetings-right}

-- the edge lies between the ends of the span
pub record Between (e : Edge) (s : Span) : Type 0 where
  pub from_low : s.low ≤ℤ e.from.x
  pub to_low : s.low ≤ℤ e.to.x
  pub from_high : e.from.x ≤ℤ s.high
  pub to_high : e.to.x ≤ℤ s.high

between-if : (e : Edge) (t : Bool) → int_le e.from.x e.to.x ≡ t → Between e (cond t (record { low = e.from.x; high = e.to.x }) (record { low = e.to.x; high = e.from.x }))
between-if e true is = record { from_low = omega (arith, ints); to_low = grind (arith, ints); from_high = grind (arith, ints); to_high = omega (arith, ints) }
between-if e false is = record { from_low = grind (arith, ints); to_low = omega (arith, ints); from_high = omega (arith, ints); to_high = grind (arith, ints) }

between-width : (e : Edge) → Between e (width_of e)
between-width e = between-if e (int_le e.from.x e.to.x) refl

by-test : (s t : Span) (b : Bool) → int_le t.low s.high ≡ b → touches s t ≡ false → (s.high <ℤ t.low) ⊎ (t.high <ℤ s.low)
by-test s t false is h = inl (grind (arith, ints))
by-test s t true is h = inr (grind (arith, ints))

none-beside : (e f : Edge) (s t : Span) → Between e s → Between f t → (s.high <ℤ t.low) ⊎ (t.high <ℤ s.low) → meeting_of e f ≡ []
none-beside e f s t g h (inl left) = meetings-left e f s.high (record {
  from_at = g.from_high;
  to_at = g.to_high;
  from_right = let a = h.from_low in omega (arith, ints);
  to_right = let a = h.to_low in omega (arith, ints);
})
none-beside e f s t g h (inr right) = meetings-right e f t.high (record {
  from_right = let a = g.from_low in omega (arith, ints);
  to_right = let a = g.to_low in omega (arith, ints);
  from_at = h.from_high;
  to_at = h.to_high;
})

-- edges that stand beside each other don't meet
pub meetings-beside : (e f : Edge) → touches (width_of e) (width_of f) ≡ false → meeting_of e f ≡ []
meetings-beside e f h = none-beside e f (width_of e) (width_of f) (between-width e) (between-width f) (by-test (width_of e) (width_of f) (int_le (width_of f).low (width_of e).high) refl h)

-- the heights of the edge lie within the span
pub record Within (e : Edge) (s : Span) : Type 0 where
  pub from_low : s.low ≤ℤ e.from.y
  pub to_low : s.low ≤ℤ e.to.y
  pub from_high : e.from.y ≤ℤ s.high
  pub to_high : e.to.y ≤ℤ s.high

within-if : (e : Edge) (t : Bool) → int_le e.from.y e.to.y ≡ t → Within e (cond t (record { low = e.from.y; high = e.to.y }) (record { low = e.to.y; high = e.from.y }))
within-if e true is = record { from_low = omega (arith, ints); to_low = grind (arith, ints); from_high = grind (arith, ints); to_high = omega (arith, ints) }
within-if e false is = record { from_low = grind (arith, ints); to_low = omega (arith, ints); from_high = omega (arith, ints); to_high = grind (arith, ints) }

within-height : (e : Edge) → Within e (height_of e)
within-height e = within-if e (int_le e.from.y e.to.y) refl

none-apart : (e f : Edge) (s t : Span) → Within e s → Within f t → (s.high <ℤ t.low) ⊎ (t.high <ℤ s.low) → meeting_of e f ≡ []
none-apart e f s t g h (inl below) = meetings-below e f s.high (record {
  from_at = g.from_high;
  to_at = g.to_high;
  from_above = let a = h.from_low in omega (arith, ints);
  to_above = let a = h.to_low in omega (arith, ints);
})
none-apart e f s t g h (inr above) = meetings-above e f t.high (record {
  from_above = let a = g.from_low in omega (arith, ints);
  to_above = let a = g.to_low in omega (arith, ints);
  from_at = h.from_high;
  to_at = h.to_high;
})

-- edges apart in height don't meet
pub meetings-apart : (e f : Edge) → touches (height_of e) (height_of f) ≡ false → meeting_of e f ≡ []
meetings-apart e f h = none-apart e f (height_of e) (height_of f) (within-height e) (within-height f) (by-test (height_of e) (height_of f) (int_le (height_of f).low (height_of e).high) refl h)
