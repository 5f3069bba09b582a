-- Generated plates.
use Rattle.std.proofs.Common.{◌≡◌, ◌⊎◌, inl, inr, Result, Err, sym, ap, ◌∙◌, subst}
use Rattle.answers.specs.declared.refusal.Refusal.{Refusal}
use Rattle.answers.specs.declared.refusal.Refusal.TheVariants as refusal
use Rattle.plate_input.specs.declared.faults.PlateFault.{PlateFault}
use Rattle.plate_input.specs.declared.faults.PlateFault.TheVariants as fault
use Rattle.plate_input.specs.Values.{PlateValue}
use Rattle.plate_input.specs.Refusals.{refusal_of}
use Rattle.slice_engine.specs.Jobs.{HasNoPlate}

same_fault : (f g : PlateFault) → ◌≡◌ {A = Result PlateValue PlateFault} (Err f) (Err g) → f ≡ g
same_fault f g e = cc

-- a plate that isn't made is refused, unless memory ran out
pub not_made : (Makes : Result PlateValue PlateFault → Type 0) (result : Result PlateValue PlateFault) (f : PlateFault) (r : Refusal) → result ≡ Err f → r ≡ refusal_of f
    → (result ≡ Err fault.NoMemory) ⊎ Makes result → (r ≡ refusal.NoMemory) ⊎ HasNoPlate Makes r
not_made Makes result f r is named (inl e) = inl (named ∙ ap refusal_of (same_fault f fault.NoMemory (sym is ∙ e)))
not_made Makes result f r is named (inr made) = inr (record { cause = f; defined = subst Makes is made; named = named })
