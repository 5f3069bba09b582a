use Rattle.std.proofs.Common.{ℕ, ◌≡◌, ◌<◌, List, length, get_or, Some, Result, Err, refl, sym, ap, subst}
use Rattle.std.specs.Prelude.{◌≢◌, ◌↔◌}
use Rattle.std.proofs.lemmas.Option.{slice_get-get_or}
use Rattle.settings_core.specs.declared.fault.SettingFault.{SettingFault}
use Rattle.settings_core.specs.declared.fault.SettingFault.TheVariants.{BadValue, OutOfRange, UnknownExtruder, NoMemory}
use Rattle.settings_core.specs.declared.pairs.Pair.{Pair}
use Rattle.settings_core.specs.declared.resolved.Settings.{Settings}
use Rattle.settings_core.specs.Fault.{IsAmong}
use Rattle.settings_core.specs.Resolve.{fault_of}
use Rattle.plate_input.specs.Plate.{HasFaultyPair}
use Rattle.plate_input.proofs.settled.settle.Goals as goal

-- what resolving says of a fault
abbrev Resolved : List Pair → List ℕ → SettingFault → Type 0
Resolved pairs es g = (f : SettingFault) → f ≢ NoMemory → (◌≡◌ {A = Result Settings SettingFault} (Err g) (Err f)) ↔ (fault_of pairs es ≡ Some f)

defined : (pairs : List Pair) (es : List ℕ) (g f : SettingFault) → g ≡ f → f ≢ NoMemory → Resolved pairs es g → fault_of pairs es ≡ Some f
defined pairs es g f e other all = (all f other).0 (ap Err e)

bad_differs : (p : ℕ) → BadValue p ≢ NoMemory
bad_differs p e = cc

out_differs : (p : ℕ) → OutOfRange p ≢ NoMemory
out_differs p e = cc

unknown_differs : (m : ℕ) → UnknownExtruder m ≢ NoMemory
unknown_differs m e = cc

faulty_pair : (pairs : List Pair) (es : List ℕ) (kind : ℕ → SettingFault) (p : ℕ) (pair : Pair) (key : List ℕ) → fault_of pairs es ≡ Some (kind p) → p < length pairs → pair ≡ get_or pairs p pair → key ≡ pair.key → HasFaultyPair pairs es kind pair.scope key
faulty_pair pairs es kind p pair key e lt is same =
    record { index = p; pair = pair; at_fault = e; stands = rw (slice_get-get_or pairs p pair lt) (ap Some (sym is)); its_scope = refl; its_key = same }

pub returns-in_ok-key-in-Err-BadValue-clause-refused : goal.returns-in_ok-key-in-Err-BadValue-clause-refused
returns-in_ok-key-in-Err-BadValue-clause-refused c =
    let ps = c.args.pairs.now in
    let es = c.args.extruders.now in
    let p = c.in-Err-BadValue.pair in
    let e : fault_of ps es ≡ Some (BadValue p) = defined ps es c.in-Err-BadValue.field-0 (BadValue p) c.in-Err-BadValue.field-0-is (bad_differs p) c.in-Err-BadValue.ensures.fault in
    let lt : p < length ps = subst (IsAmong (length ps) (length es)) c.in-Err-BadValue.field-0-is c.in-Err-BadValue.ensures.among in
    faulty_pair ps es BadValue p c.pair_at-misread.result.now c.in_ok-key-in-Err-BadValue.key e lt c.pair_at-misread.ensures c.in_ok-key-in-Err-BadValue.ensures

pub returns-in_ok-key-in-Err-OutOfRange-clause-refused : goal.returns-in_ok-key-in-Err-OutOfRange-clause-refused
returns-in_ok-key-in-Err-OutOfRange-clause-refused c =
    let ps = c.args.pairs.now in
    let es = c.args.extruders.now in
    let p = c.in-Err-OutOfRange.pair in
    let e : fault_of ps es ≡ Some (OutOfRange p) = defined ps es c.in-Err-OutOfRange.field-0 (OutOfRange p) c.in-Err-OutOfRange.field-0-is (out_differs p) c.in-Err-OutOfRange.ensures.fault in
    let lt : p < length ps = subst (IsAmong (length ps) (length es)) c.in-Err-OutOfRange.field-0-is c.in-Err-OutOfRange.ensures.among in
    faulty_pair ps es OutOfRange p c.pair_at-outlier.result.now c.in_ok-key-in-Err-OutOfRange.key e lt c.pair_at-outlier.ensures c.in_ok-key-in-Err-OutOfRange.ensures

pub returns-in-Err-UnknownExtruder-clause-refused : goal.returns-in-Err-UnknownExtruder-clause-refused
returns-in-Err-UnknownExtruder-clause-refused c =
    let m = c.in-Err-UnknownExtruder.mesh in
    defined c.args.pairs.now c.args.extruders.now c.in-Err-UnknownExtruder.field-0 (UnknownExtruder m) c.in-Err-UnknownExtruder.field-0-is (unknown_differs m) c.in-Err-UnknownExtruder.ensures.fault
