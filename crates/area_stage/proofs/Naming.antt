-- A cut that fails ends the work, where the fault is what the definition answers.
use Rattle.std.proofs.Common.{◌≡◌, ◌<◌, ℕ, List, ◌∷◌, Result, Ok, Err, sym, ap, subst}
use Rattle.std.specs.Prelude.{MatchResult, IfOk}
use Rattle.slice_base.specs.Outcomes.{and_then, fold_ok, up_to}
use Rattle.slice_base.proofs.Outcomes.{and_then-err, fold_ok-err, up_to-err}
use Rattle.edge_cut.specs.declared.cutting.CutFault.{CutFault}
use Rattle.edge_cut.specs.declared.cutting.CutFault.TheVariants as cut
use Rattle.edge_cut.specs.Faults.{IsCutFault}
use Rattle.area_stage.specs.declared.faults.AreaFault.{AreaFault}
use Rattle.area_stage.specs.declared.faults.AreaFault.TheVariants as area
use Rattle.area_stage.specs.Faults.{Tangle, named}
use Rattle.area_stage.specs.Inner.Faults.{IsAreaFault, area_fault_of, named_result_of}

-- ---- of one cut

pub cut-and_then : {A B : Type 0} (r : Result A ℕ) (next : A → Result B ℕ) (fault : CutFault) → IsCutFault r fault → IsCutFault (and_then r next) fault
cut-and_then r next (cut.TooTangled count) h = and_then-err r next count h
cut-and_then r next cut.NoMemory h = tt

pub cut-fold_ok : {S X : Type 0} (f : S → X → Result S ℕ) (s : S) (x : X) (xs rest : List X) (whole : Result S ℕ) (fault : CutFault) → xs ≡ x ∷ rest → IsCutFault (f s x) fault → fold_ok f s xs ≡ whole → IsCutFault whole fault
cut-fold_ok f s x xs rest whole (cut.TooTangled count) is now before = fold_ok-err f s x xs rest whole count is now before
cut-fold_ok f s x xs rest whole cut.NoMemory is now before = tt

pub cut-up_to : {A : Type 0} (f : ℕ → Result A ℕ) (k n : ℕ) (done : List A) (fault : CutFault) → up_to f k ≡ Ok done → k < n → IsCutFault (f k) fault → IsCutFault (up_to f n) fault
cut-up_to f k n done (cut.TooTangled count) before below h = up_to-err f k n done count before h below
cut-up_to f k n done cut.NoMemory before below h = tt

-- ---- of a job

pub area-and_then : {A B : Type 0} (r : Result A Tangle) (next : A → Result B Tangle) (fault : AreaFault) → IsAreaFault r fault → IsAreaFault (and_then r next) fault
area-and_then r next area.NoLayers h = h
area-and_then r next (area.TooManyLayers n) h = h
area-and_then r next (area.TooTangled mesh layer count) h = and_then-err r next (record { mesh = mesh; layer = layer; count = count }) h
area-and_then r next area.NoMemory h = tt

pub area-up_to : {A : Type 0} (f : ℕ → Result A Tangle) (k n : ℕ) (done : List A) (fault : AreaFault) → up_to f k ≡ Ok done → k < n → IsAreaFault (f k) fault → IsAreaFault (up_to f n) fault
area-up_to f k n done area.NoLayers before below h = h
area-up_to f k n done (area.TooManyLayers count) before below h = h
area-up_to f k n done (area.TooTangled mesh layer count) before below h = up_to-err f k n done (record { mesh = mesh; layer = layer; count = count }) before h below
area-up_to f k n done area.NoMemory before below h = tt

-- ---- named

pub named-ok : {A : Type 0} (mesh layer : ℕ) (r : Result A ℕ) (a : A) → r ≡ Ok a → named mesh layer r ≡ Ok a
named-ok {A} mesh layer r a e = ap (λ (q : Result A ℕ). named mesh layer q) e

pub named-fault : {A : Type 0} (mesh layer : ℕ) (r : Result A ℕ) (fault : CutFault) → IsCutFault r fault → IsAreaFault (named mesh layer r) (area_fault_of mesh layer fault)
named-fault {A} mesh layer r (cut.TooTangled count) h = ap (λ (q : Result A ℕ). named mesh layer q) h
named-fault mesh layer r cut.NoMemory h = tt

-- what a call answers, named, is what its definition gives, named; P says how the value has the definition's
named-by : {A B : Type 0} (mesh layer : ℕ) (answer : Result A CutFault) (r : Result B ℕ) (of : A → B) → MatchResult answer (λ a. r ≡ Ok (of a)) (IsCutFault r) → MatchResult (named_result_of mesh layer answer) (λ a. named mesh layer r ≡ Ok (of a)) (IsAreaFault (named mesh layer r))
named-by mesh layer (Ok a) r of h = named-ok mesh layer r (of a) h
named-by mesh layer (Err fault) r of h = named-fault mesh layer r fault h

pub named-answer : {A B : Type 0} (mesh layer : ℕ) (answer : Result A CutFault) (result : Result A AreaFault) (r : Result B ℕ) (of : A → B) → result ≡ named_result_of mesh layer answer
    → MatchResult answer (λ a. r ≡ Ok (of a)) (IsCutFault r) → MatchResult result (λ a. named mesh layer r ≡ Ok (of a)) (IsAreaFault (named mesh layer r))
named-answer {A} mesh layer answer result r of e h =
    subst (λ (q : Result A AreaFault). MatchResult q (λ a. named mesh layer r ≡ Ok (of a)) (IsAreaFault (named mesh layer r))) (sym e) (named-by mesh layer answer r of h)

named-if : {A : Type 0} (mesh layer : ℕ) (answer : Result A CutFault) (P : A → Type 0) → IfOk answer P → IfOk (named_result_of mesh layer answer) P
named-if mesh layer (Ok a) P h = h
named-if mesh layer (Err fault) P h = tt

pub named-holds : {A : Type 0} (mesh layer : ℕ) (answer : Result A CutFault) (result : Result A AreaFault) (P : A → Type 0) → result ≡ named_result_of mesh layer answer → IfOk answer P → IfOk result P
named-holds {A} mesh layer answer result P e h = subst (λ (q : Result A AreaFault). IfOk q P) (sym e) (named-if mesh layer answer P h)
