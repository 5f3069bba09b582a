-- Slots that results are put into, and lists without their first element.
use Rattle.std.proofs.Common.{◌≡◌, ◌+◌, ◌<◌, ◌∙◌, ℕ, zero, suc, List, [], ◌∷◌, length-append, Option, Some, length, get_or, set, ◌++◌, arith, refl, sym, ap, subst}
use Rattle.std.specs.List.{All}
use Rattle.std.specs.Fn.{Shared, FnReturns}
use Rattle.std.proofs.lemmas.List.{length-set}
use Rattle.area_stage.specs.declared.taking.Done.{Done}
use Rattle.area_stage.specs.Inner.Taking.{IsDone, IsSlot, AreSlots, GivesFrom}

-- what holds of each element by its index holds once one is set that has it
set-keeps : {X : Type 0} (P : ℕ → X → Type 0) (xs : List X) (k : ℕ) (x : X) → ((i : ℕ) (d : X) → i < length xs → P i (get_or xs i d)) → P k x → (i : ℕ) (d : X) → i < length (set xs k x) → P i (get_or (set xs k x) i d)
set-keeps P [] k x h p i d b = h i d b
set-keeps P (y ∷ ys) zero x h p zero d b = p
set-keeps P (y ∷ ys) zero x h p (suc i) d b = h (suc i) d b
set-keeps P (y ∷ ys) (suc k) x h p zero d b = h zero d (omega arith)
set-keeps P (y ∷ ys) (suc k) x h p (suc i) d b = set-keeps (λ j. P (suc j)) ys k x (λ j e below. h (suc j) e (omega (arith, below))) p i d (omega (arith, b))

pub first-of : {X : Type 0} (P : X → Type 0) (xs rest : List X) (x : X) → xs ≡ x ∷ rest → All P xs → P x
first-of P xs rest x e h = (subst (λ (l : List _). All P l) e h) 0 x (omega arith)

pub rest-of : {X : Type 0} (P : X → Type 0) (xs rest : List X) (x : X) → xs ≡ x ∷ rest → All P xs → All P rest
rest-of P xs rest x e h = λ k d below. (subst (λ (l : List _). All P l) e h) (suc k) d (omega (arith, below))

pub put-keeps : {F X : Type 0} (g : Shared F (ℕ × Unit {0}) X) (f : F) (from : ℕ) (slots new : List (Option X)) (pile rest : List (Done X)) (done : Done X) → pile ≡ done ∷ rest → new ≡ set slots done.index (Some done.result) → All (IsDone g f from (length slots)) pile → AreSlots g f from slots → AreSlots g f from new
put-keeps g f from slots new pile rest done e put all h = subst (λ (l : List (Option _)). AreSlots g f from l) (sym put) (set-keeps (IsSlot g f from) slots done.index (Some done.result) h (first-of (IsDone g f from (length slots)) pile rest done e all).gives)

pub put-length : {X : Type 0} (slots new : List (Option X)) (done : Done X) → new ≡ set slots done.index (Some done.result) → length new ≡ length slots
put-length slots new done put = ap length put ∙ length-set slots done.index (Some done.result)

-- what holds of each element by its index holds once one is put behind them that has it
push-keeps : {X : Type 0} (P : ℕ → X → Type 0) (xs : List X) (x : X) → ((i : ℕ) (d : X) → i < length xs → P i (get_or xs i d)) → P (length xs) x → (i : ℕ) (d : X) → i < length (xs ++ x ∷ []) → P i (get_or (xs ++ x ∷ []) i d)
push-keeps P [] x h p zero d b = p
push-keeps P [] x h p (suc i) d b = absurd (omega (arith, b))
push-keeps P (y ∷ ys) x h p zero d b = h zero d (omega arith)
push-keeps P (y ∷ ys) x h p (suc i) d b = push-keeps (λ j. P (suc j)) ys x (λ j e below. h (suc j) e (omega (arith, below))) p i d (omega (arith, b))

-- each of the slots that are left, the first of which has this index
abbrev pub AreFrom : {F X : Type 0} (g : Shared F (ℕ × Unit {0}) X) (f : F) (from n : ℕ) → List (Option X) → Type 0
AreFrom {F} {X} g f from n slots = (i : ℕ) (d : Option X) → i < length slots → IsSlot g f from (n + i) (get_or slots i d)

pub first-slot : {F X : Type 0} (g : Shared F (ℕ × Unit {0}) X) (f : F) (from n : ℕ) (slots rest : List (Option X)) (s : Option X) → slots ≡ s ∷ rest → AreFrom g f from n slots → IsSlot g f from n s
first-slot g f from n slots rest s e h =
    let here : n + 0 ≡ n = omega arith in
    subst (λ (j : ℕ). IsSlot g f from j s) here ((subst (λ (l : List (Option _)). AreFrom g f from n l) e h) 0 s (omega arith))

pub rest-slots : {F X : Type 0} (g : Shared F (ℕ × Unit {0}) X) (f : F) (from n : ℕ) (slots rest : List (Option X)) (s : Option X) → slots ≡ s ∷ rest → AreFrom g f from n slots → AreFrom g f from (n + 1) rest
rest-slots g f from n slots rest s e h = λ i d below.
    let next : n + suc i ≡ (n + 1) + i = omega arith in
    subst (λ (j : ℕ). IsSlot g f from j (get_or rest i d)) next ((subst (λ (l : List (Option _)). AreFrom g f from n l) e h) (suc i) d (omega (arith, below)))

pub one-more : {F X : Type 0} (g : Shared F (ℕ × Unit {0}) X) (f : F) (from : ℕ) (xs new : List X) (x : X) → new ≡ xs ++ x ∷ [] → GivesFrom g f from xs → FnReturns g f (from + length xs, tt) x → GivesFrom g f from new
one-more g f from xs new x e h p = subst (λ (l : List _). GivesFrom g f from l) (sym e) (λ i d below. (refl, push-keeps (λ j y. FnReturns g f (from + j, tt) y) xs x (λ j e b. (h j e b).1) p i d below))

pub one-longer : {X : Type 0} (xs new : List X) (x : X) → new ≡ xs ++ x ∷ [] → length new ≡ length xs + 1
one-longer xs new x e = ap length e ∙ length-append xs (x ∷ [])
