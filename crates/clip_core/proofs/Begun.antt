-- Rays that stand before a strip begins.
use Rattle.std.proofs.Common.{◌≡◌, ◌<◌, ◌≤◌, ◌+◌, ◌/◌, ℕ, zero, suc, true, List, [], ◌∷◌, ◌++◌, length, get_or, length-append, inl, inr, ◌⊎◌, arith, refl, sym, subst, ◌∙◌}
use Rattle.std.specs.Prelude.{nat_lt}
use Rattle.std.proofs.lemmas.List.{get_or_append_left}
use Rattle.std.proofs.Math.Seq.{get_or-append_seam}
use Rattle.clip_core.specs.declared.rays.Ray.{Ray}
use Rattle.clip_core.specs.Inner.Rays.{is_under}
use Rattle.clip_core.specs.Inner.Starts.{IsFirst, AreFirsts}
use Rattle.clip_core.proofs.Shares.{any-default, below-or-not}
use Rattle.clip_core.proofs.PassedBy.{under-more}

pub first-none : (strip : ℕ) (rays : List Ray) → IsFirst strip 0 rays
first-none strip rays = record { within = omega arith; before = λ k d lt. absurd (omega arith) }

-- one ray more
pub first-more : (strip i : ℕ) (rays : List Ray) (e : Ray) → i < length rays → is_under strip (get_or rays i e) ≡ true → IsFirst strip i rays → IsFirst strip (i + 1) rays
first-more strip i rays e inside under h = record { within = omega (arith, inside); before = λ k d lt. pick k d lt (below-or-not k i) }
  where
    pick : (k : ℕ) (d : Ray) → k < i + 1 → (k < i) ⊎ (i ≤ k) → is_under strip (get_or rays k d) ≡ true
    pick k d lt (inl b) = h.before k d b
    pick k d lt (inr b) =
        let same : i ≡ k = omega (arith, lt, b) in
        subst (λ (n : ℕ). is_under strip (get_or rays n d) ≡ true) same
        (subst (λ (r : Ray). is_under strip r ≡ true) (any-default rays i e d inside) under)

-- a strip above
pub first-above : (low high i : ℕ) (rays : List Ray) → low ≤ high → IsFirst low i rays → IsFirst high i rays
first-above low high i rays le h = record { within = h.within; before = λ k d lt. under-more low high (get_or rays k d) le (h.before k d lt) }

any-index : (xs : List ℕ) (i d e : ℕ) → i < length xs → get_or xs i d ≡ get_or xs i e
any-index [] i d e below = absurd (omega arith)
any-index (x ∷ xs) zero d e below = refl
any-index (x ∷ xs) (suc i) d e below = any-index xs i d e (omega arith)

-- the first ray that is listed for this strip or one below it
pub first-listed : (base strip place i : ℕ) (firsts : List ℕ) (rays : List Ray) → AreFirsts base firsts rays → place < length firsts → base + place ≤ strip → i ≡ get_or firsts place i → IsFirst strip i rays
first-listed base strip place i firsts rays h inside least is =
    subst (λ (n : ℕ). IsFirst strip n rays) (sym (is ∙ any-index firsts place i 0 inside)) (first-above (base + place) strip (get_or firsts place 0) rays least (h.each place inside))

-- one strip more is listed
pub firsts-more : (base i : ℕ) (firsts : List ℕ) (rays : List Ray) → IsFirst (base + length firsts) i rays → ((j : ℕ) → j < length firsts → IsFirst (base + j) (get_or firsts j 0) rays) → (j : ℕ) → j < length (firsts ++ i ∷ []) → IsFirst (base + j) (get_or (firsts ++ i ∷ []) j 0) rays
firsts-more base i firsts rays is before j lt = pick (below-or-not j (length firsts))
  where
    pick : (j < length firsts) ⊎ (length firsts ≤ j) → IsFirst (base + j) (get_or (firsts ++ i ∷ []) j 0) rays
    pick (inl g) = subst (λ (n : ℕ). IsFirst (base + j) n rays) (sym (get_or_append_left firsts (i ∷ []) 0 j g)) (before j g)
    pick (inr g) =
        let same : j ≡ length firsts = omega (arith, lt, g, length-append firsts (i ∷ [])) in
        subst (λ (n : ℕ). IsFirst (base + n) (get_or (firsts ++ i ∷ []) n 0) rays) (sym same)
        (subst (λ (n : ℕ). IsFirst (base + length firsts) n rays) (sym (get_or-append_seam firsts i [] 0)) is)

-- the keys stay, and with them where strips begin
pub firsts-stay : (base : ℕ) (firsts : List ℕ) (old new : List Ray) → length new ≡ length old → ((k : ℕ) (d : Ray) → k < length new → (get_or new k d).key ≡ (get_or old k d).key) → AreFirsts base firsts old → AreFirsts base firsts new
firsts-stay base firsts old new len same h = record {
  some = h.some;
  each = λ j below.
      let was = h.each j below in
      let few = was.within in
      record {
        within = omega (arith, few, len);
        before = λ k d lt. subst (λ (n : ℕ). nat_lt (n / 8589934592) (base + j) ≡ true) (sym (same k d (omega (arith, lt, few, len)))) (was.before k d lt);
      };
}
