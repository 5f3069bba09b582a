-- A cut that fails ends the work, where the fault is what the definition answers.
use Rattle.std.proofs.Common.{◌≡◌, ◌<◌, ℕ, List, ◌∷◌, ◌++◌, Result, Ok}
use Rattle.slice_base.specs.Outcomes.{and_then, fold_ok, up_to}
use Rattle.slice_base.proofs.Outcomes.{and_then-err, fold_ok-err, fold_ok-append_err, up_to-err}
use Rattle.edge_cut.specs.declared.cutting.CutFault.{CutFault}
use Rattle.edge_cut.specs.declared.cutting.CutFault.TheVariants.{TooTangled, NoMemory}
use Rattle.edge_cut.specs.Faults.{IsCutFault}

pub and_then-fault : {A B : Type 0} (r : Result A ℕ) (next : A → Result B ℕ) (fault : CutFault) → IsCutFault r fault → IsCutFault (and_then r next) fault
and_then-fault r next (TooTangled count) h = and_then-err r next count h
and_then-fault r next NoMemory h = tt

pub up_to-fault : {A : Type 0} (f : ℕ → Result A ℕ) (k n : ℕ) (done : List A) (fault : CutFault) → up_to f k ≡ Ok done → k < n → IsCutFault (f k) fault → IsCutFault (up_to f n) fault
up_to-fault f k n done (TooTangled count) before below h = up_to-err f k n done count before h below
up_to-fault f k n done NoMemory before below h = tt

pub fold_ok-fault : {S X : Type 0} (f : S → X → Result S ℕ) (s : S) (x : X) (xs rest : List X) (whole : Result S ℕ) (fault : CutFault) → xs ≡ x ∷ rest → IsCutFault (f s x) fault → fold_ok f s xs ≡ whole → IsCutFault whole fault
fold_ok-fault f s x xs rest whole (TooTangled count) is now before = fold_ok-err f s x xs rest whole count is now before
fold_ok-fault f s x xs rest whole NoMemory is now before = tt

pub append-fault : {S X : Type 0} (f : S → X → Result S ℕ) (s : S) (xs ys : List X) (fault : CutFault) → IsCutFault (fold_ok f s xs) fault → IsCutFault (fold_ok f s (xs ++ ys)) fault
append-fault f s xs ys (TooTangled count) h = fold_ok-append_err f s xs ys count h
append-fault f s xs ys NoMemory h = tt
