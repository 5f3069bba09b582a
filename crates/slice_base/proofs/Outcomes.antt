-- Steps whose first that fails ends the work.
use Rattle.std.proofs.Common.{drop-cons, length, get_or, drop, length-append, length-drop, ◌≡◌, ◌<◌, ◌≤◌, ◌+◌, ◌-◌, ℕ, zero, suc, List, [], ◌∷◌, ◌++◌, Result, Ok, Err, arith, add-one, refl, sym, ap, subst, ◌∙◌}
use Rattle.slice_base.specs.Outcomes.{and_then, fold_ok, each_ok, with_last, up_to}

-- ---- two steps

-- the second takes what the first gives
pub and_then-ok : {A B E : Type 0} → (r : Result A E) → (next : A → Result B E) → (a : A) → r ≡ Ok a → and_then r next ≡ next a
and_then-ok {A} {B} {E} r next a h = ap (λ (q : Result A E). and_then q next) h

-- the first ends the work
pub and_then-err : {A B E : Type 0} → (r : Result A E) → (next : A → Result B E) → (e : E) → r ≡ Err e → and_then r next ≡ Err e
and_then-err {A} {B} {E} r next e h = ap (λ (q : Result A E). and_then q next) h

-- ---- numbers

-- no number
pub up_to-none : {A E : Type 0} → (f : ℕ → Result A E) → up_to f 0 ≡ Ok []
unfolding up_to
up_to-none f = refl

-- one more number
pub up_to-ok : {A E : Type 0} → (f : ℕ → Result A E) → (k : ℕ) → (done more : List A) → (a : A) → up_to f k ≡ Ok done → f k ≡ Ok a → more ≡ done ++ a ∷ [] → up_to f (k + 1) ≡ Ok more
unfolding up_to
up_to-ok {A} {E} f k done more a before now is =
    rw (add-one k) (ap (λ (r : Result (List A) E). with_last r (f k)) before ∙ ap (λ (r : Result A E). with_last (Ok done) r) now ∙ ap (λ (l : List A). let r : Result (List A) E = Ok l in r) (sym is))

up_to-err_now : {A E : Type 0} → (f : ℕ → Result A E) → (k : ℕ) → (done : List A) → (e : E) → up_to f k ≡ Ok done → f k ≡ Err e → up_to f (suc k) ≡ Err e
unfolding up_to
up_to-err_now {A} {E} f k done e before now = ap (λ (r : Result (List A) E). with_last r (f k)) before ∙ ap (λ (r : Result A E). with_last (Ok done) r) now

up_to-err_more : {A E : Type 0} → (f : ℕ → Result A E) → (n : ℕ) → (e : E) → up_to f n ≡ Err e → up_to f (suc n) ≡ Err e
unfolding up_to
up_to-err_more {A} {E} f n e h = ap (λ (r : Result (List A) E). with_last r (f n)) h

up_to-err_later : {A E : Type 0} → (f : ℕ → Result A E) → (n m : ℕ) → (e : E) → up_to f n ≡ Err e → up_to f (m + n) ≡ Err e
up_to-err_later {A} {E} f n zero e h =
    let is : n ≡ zero + n = omega arith in
    subst (λ (j : ℕ). up_to f j ≡ Err e) is h
up_to-err_later {A} {E} f n (suc m) e h =
    let is : suc (m + n) ≡ suc m + n = omega arith in
    subst (λ (j : ℕ). up_to f j ≡ Err e) is (up_to-err_more f (m + n) e (up_to-err_later f n m e h))

-- the number at fault ends the work
pub up_to-err : {A E : Type 0} → (f : ℕ → Result A E) → (k n : ℕ) → (done : List A) → (e : E) → up_to f k ≡ Ok done → f k ≡ Err e → k < n → up_to f n ≡ Err e
up_to-err {A} {E} f k n done e before now below =
    let gap : ℕ = n - suc k in
    let is : gap + suc k ≡ n = omega arith in
    subst (λ (j : ℕ). up_to f j ≡ Err e) is (up_to-err_later f (suc k) gap e (up_to-err_now f k done e before now))

last-length : {A E : Type 0} → (r : Result (List A) E) → (x : Result A E) → (n : ℕ) → (all : List A) → ((done : List A) → r ≡ Ok done → length done ≡ n) → with_last r x ≡ Ok all → length all ≡ suc n
last-length (Ok done) (Ok a) n all before h =
    let e : done ++ a ∷ [] ≡ all = cc in
    omega (arith, before done refl, ap length (sym e), length-append done (a ∷ []))
last-length (Ok done) (Err e) n all before h = absurd (cc)
last-length (Err e) x n all before h = absurd (cc)

-- as many values as numbers
pub up_to-length : {A E : Type 0} → (f : ℕ → Result A E) → (n : ℕ) → (all : List A) → up_to f n ≡ Ok all → length all ≡ n
unfolding up_to
up_to-length f zero all h = let e : [] ≡ all = cc in sym (ap length e)
up_to-length f (suc n) all h = last-length (up_to f n) (f n) n all (λ done is. up_to-length f n done is) h

-- ---- folds

-- one more item
pub fold_ok-step : {S X E : Type 0} → (f : S → X → Result S E) → (s t : S) → (x : X) → (xs rest : List X) → (whole : Result S E) → xs ≡ x ∷ rest → f s x ≡ Ok t → fold_ok f s xs ≡ whole → fold_ok f t rest ≡ whole
fold_ok-step {S} {X} {E} f s t x xs rest whole is now before =
    sym (ap (λ (l : List X). fold_ok f s l) is ∙ ap (λ (r : Result S E). and_then r (λ u. fold_ok f u rest)) now) ∙ before

-- the item at fault ends the work
pub fold_ok-err : {S X E : Type 0} → (f : S → X → Result S E) → (s : S) → (x : X) → (xs rest : List X) → (whole : Result S E) → (e : E) → xs ≡ x ∷ rest → f s x ≡ Err e → fold_ok f s xs ≡ whole → whole ≡ Err e
fold_ok-err {S} {X} {E} f s x xs rest whole e is now before =
    sym before ∙ (ap (λ (l : List X). fold_ok f s l) is ∙ ap (λ (r : Result S E). and_then r (λ u. fold_ok f u rest)) now)

append_by : {S X E : Type 0} → (f : S → X → Result S E) → (t : S) → (xs ys : List X) → (r : Result S E) → ((u : S) → fold_ok f u xs ≡ Ok t → fold_ok f u (xs ++ ys) ≡ fold_ok f t ys) → and_then r (λ u. fold_ok f u xs) ≡ Ok t → and_then r (λ u. fold_ok f u (xs ++ ys)) ≡ fold_ok f t ys
append_by f t xs ys (Ok u) more h = more u h
append_by f t xs ys (Err e) more h = absurd (cc)

-- the second list goes on from what the first gives
pub fold_ok-append : {S X E : Type 0} → (f : S → X → Result S E) → (s t : S) → (xs ys : List X) → fold_ok f s xs ≡ Ok t → fold_ok f s (xs ++ ys) ≡ fold_ok f t ys
fold_ok-append {S} f s t [] ys e = let h : s ≡ t = cc in ap (λ (u : S). fold_ok f u ys) h
fold_ok-append f s t (x ∷ xs) ys e = append_by f t xs ys (f s x) (λ u. fold_ok-append f u t xs ys) e

fault_by : {S X E : Type 0} → (f : S → X → Result S E) → (xs ys : List X) → (e : E) → (r : Result S E) → ((u : S) → fold_ok f u xs ≡ Err e → fold_ok f u (xs ++ ys) ≡ Err e) → and_then r (λ u. fold_ok f u xs) ≡ Err e → and_then r (λ u. fold_ok f u (xs ++ ys)) ≡ Err e
fault_by f xs ys e (Ok u) more h = more u h
fault_by f xs ys e (Err d) more h = h

-- a fault in the first list ends the work
pub fold_ok-append_err : {S X E : Type 0} → (f : S → X → Result S E) → (s : S) → (xs ys : List X) → (e : E) → fold_ok f s xs ≡ Err e → fold_ok f s (xs ++ ys) ≡ Err e
fold_ok-append_err f s [] ys e h = absurd (cc)
fold_ok-append_err f s (x ∷ xs) ys e h = fault_by f xs ys e (f s x) (λ u. fold_ok-append_err f u xs ys e) h

-- ---- each item

-- no item
pub each_ok-none : {X A E : Type 0} → (f : X → Result A E) → each_ok f [] ≡ Ok []
each_ok-none f = refl

items_by : {X A E : Type 0} → (f : X → Result A E) → (xs ys : List X) → (more : List A) → (r : Result A E) → (done : List A)
    → ((some : List A) → each_ok f xs ≡ Ok some → each_ok f (xs ++ ys) ≡ Ok (some ++ more))
    → and_then r (λ a. and_then (each_ok f xs) (λ rest. Ok (a ∷ rest))) ≡ Ok done
    → and_then r (λ a. and_then (each_ok f (xs ++ ys)) (λ rest. Ok (a ∷ rest))) ≡ Ok (done ++ more)
items_by {X} {A} {E} f xs ys more (Err e) done ih h = absurd (cc)
items_by {X} {A} {E} f xs ys more (Ok a) done ih h = by (each_ok f xs) refl h
  where
    by : (r : Result (List A) E) → each_ok f xs ≡ r → and_then r (λ rest. let one : Result (List A) E = Ok (a ∷ rest) in one) ≡ Ok done → and_then (each_ok f (xs ++ ys)) (λ rest. let one : Result (List A) E = Ok (a ∷ rest) in one) ≡ Ok (done ++ more)
    by (Err e) is k = absurd (cc)
    by (Ok some) is k =
        let e : a ∷ some ≡ done = cc in
        and_then-ok (each_ok f (xs ++ ys)) (λ rest. let one : Result (List A) E = Ok (a ∷ rest) in one) (some ++ more) (ih some is)
        ∙ ap (λ (l : List A). let r : Result (List A) E = Ok (l ++ more) in r) e

-- two lists, one behind the other
pub each_ok-append : {X A E : Type 0} → (f : X → Result A E) → (xs ys : List X) → (done more : List A) → each_ok f xs ≡ Ok done → each_ok f ys ≡ Ok more → each_ok f (xs ++ ys) ≡ Ok (done ++ more)
each_ok-append {X} {A} {E} f [] ys done more h k = let e : [] ≡ done = cc in k ∙ ap (λ (l : List A). let r : Result (List A) E = Ok (l ++ more) in r) e
each_ok-append f (x ∷ xs) ys done more h k = items_by f xs ys more (f x) done (λ some is. each_ok-append f xs ys some more is k) h

-- one more item, behind the others
pub each_ok-more : {X A E : Type 0} → (f : X → Result A E) → (xs : List X) → (x : X) → (done : List A) → (a : A) → each_ok f xs ≡ Ok done → f x ≡ Ok a → each_ok f (xs ++ x ∷ []) ≡ Ok (done ++ a ∷ [])
each_ok-more {X} {A} {E} f xs x done a h now = each_ok-append f xs (x ∷ []) done (a ∷ []) h (and_then-ok (f x) (λ b. and_then (each_ok f []) (λ rest. let one : Result (List A) E = Ok (b ∷ rest) in one)) a now)

item_fault_by : {X A E : Type 0} → (f : X → Result A E) → (xs ys : List X) → (e : E) → (r : Result A E) → (done : List A)
    → ((some : List A) → each_ok f xs ≡ Ok some → each_ok f (xs ++ ys) ≡ Err e)
    → and_then r (λ a. and_then (each_ok f xs) (λ rest. Ok (a ∷ rest))) ≡ Ok done
    → and_then r (λ a. and_then (each_ok f (xs ++ ys)) (λ rest. Ok (a ∷ rest))) ≡ Err e
item_fault_by {X} {A} {E} f xs ys e (Err d) done ih h = absurd (cc)
item_fault_by {X} {A} {E} f xs ys e (Ok a) done ih h = by (each_ok f xs) refl h
  where
    by : (r : Result (List A) E) → each_ok f xs ≡ r → and_then r (λ rest. let one : Result (List A) E = Ok (a ∷ rest) in one) ≡ Ok done → and_then (each_ok f (xs ++ ys)) (λ rest. let one : Result (List A) E = Ok (a ∷ rest) in one) ≡ Err e
    by (Err d) is k = absurd (cc)
    by (Ok some) is k = and_then-err (each_ok f (xs ++ ys)) (λ rest. let one : Result (List A) E = Ok (a ∷ rest) in one) e (ih some is)

-- the item at fault behind others that gave something ends the work
pub each_ok-err : {X A E : Type 0} → (f : X → Result A E) → (xs ys : List X) → (x : X) → (done : List A) → (e : E) → each_ok f xs ≡ Ok done → f x ≡ Err e → each_ok f (xs ++ x ∷ ys) ≡ Err e
each_ok-err {X} {A} {E} f [] ys x done e h now = and_then-err (f x) (λ a. and_then (each_ok f ys) (λ rest. let one : Result (List A) E = Ok (a ∷ rest) in one)) e now
each_ok-err f (y ∷ xs) ys x done e h now = item_fault_by f xs (x ∷ ys) e (f y) done (λ some is. each_ok-err f xs ys x some e is now) h

-- ---- lists by places

-- what is left begins with the item at the place
pub drop-item : {X : Type 0} → (xs : List X) → (i : ℕ) → (x : X) → i < length xs → x ≡ get_or xs i x → drop i xs ≡ x ∷ drop (i + 1) xs
drop-item {X} xs i x below at = rw (add-one i, drop-cons xs i x) (ap (λ (y : X). y ∷ drop (suc i) xs) (sym at))

-- the first of what is left is the one at the place
pub drop-first : {X : Type 0} → (xs rest : List X) → (k : ℕ) → (x : X) → drop k xs ≡ x ∷ rest → (k < length xs) × ((d : X) → get_or xs k d ≡ x) × (drop (k + 1) xs ≡ rest)
drop-first [] rest zero x e = absurd (cc)
drop-first [] rest (suc k) x e = absurd (cc)
drop-first (y ∷ ys) rest zero x e = let same : y ≡ x = cc in let others : ys ≡ rest = cc in (omega arith, λ d. same, others)
drop-first {X} (y ∷ ys) rest (suc k) x e =
    let s = drop-first ys rest k x e in
    let is : suc (k + 1) ≡ suc k + 1 = omega arith in
    (omega (arith, s.0), s.1, subst (λ (j : ℕ). drop j (y ∷ ys) ≡ rest) is s.2)

-- where nothing is left, the place is the end
pub drop-end : {X : Type 0} → (xs rest : List X) → (k : ℕ) → rest ≡ drop k xs → length rest ≡ 0 → k ≤ length xs → k ≡ length xs
drop-end xs rest k e none le = omega (arith, ap length e, length-drop k xs)
