-- Spans, height by height.
use Rattle.std.proofs.Common.{◌≡◌, ℤ, FitsSigned, to_z, of_z, w32, refl}
use Rattle.std.proofs.lemmas.Int.{to_z-of_z}
use Rattle.cross_section.specs.declared.shelves.Span.{Span}

-- two heights that fit make the span of which they are
pub span-is : (s : Span) (low high : ℤ) → FitsSigned w32 low → FitsSigned w32 high → low ≡ s.low → high ≡ s.high → ◌≡◌ {A = Span} (record { low = to_z w32 (of_z w32 low); high = to_z w32 (of_z w32 high) }) s
span-is s low high fl fh el eh = rw (to_z-of_z w32 low fl, to_z-of_z w32 high fh, el, eh) refl
