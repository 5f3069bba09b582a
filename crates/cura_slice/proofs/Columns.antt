-- Characters, and texts put one behind another.
use Rattle.std.proofs.Common.{◌≡◌, ℕ, ◌+◌, ◌<◌, ◌≤◌, List, [], ◌∷◌, ◌++◌, length, drop, get_or, refl, ap, ◌∙◌, arith, Result, Ok, Err, OnOk}
use Rattle.std.specs.Prelude.{if◌then◌else◌}
use Rattle.std.specs.Fmt.{char_count, is_char_start}
use Rattle.std.proofs.lemmas.List.{append_assoc, drop_more, drop_all}

char_count-more : (b : ℕ) (text : List ℕ) → char_count (b ∷ text) ≡ (if is_char_start b then 1 else 0) + char_count text
unfolding char_count
char_count-more b text = refl

char_count-none : char_count [] ≡ 0
unfolding char_count
char_count-none = refl

-- one more byte is counted
pub counted-more : (text : List ℕ) (count one i : ℕ) → i < length text → one ≡ (if is_char_start (get_or text i 0) then 1 else 0) → count + char_count (drop i text) ≡ char_count text → count + one + char_count (drop (i + 1) text) ≡ char_count text
counted-more text count one i within is before =
    let next : char_count (drop i text) ≡ (if is_char_start (get_or text i 0) then 1 else 0) + char_count (drop (i + 1) text) = ap char_count (drop_more text i 0 within) ∙ char_count-more (get_or text i 0) (drop (i + 1) text) in
    omega (arith, next, is, before)

-- all bytes are counted
pub counted-all : (text : List ℕ) (count i : ℕ) → length text ≤ i → count + char_count (drop i text) ≡ char_count text → count ≡ char_count text
counted-all text count i past before =
    let none : char_count (drop i text) ≡ 0 = ap char_count (drop_all i text past) ∙ char_count-none in
    omega (arith, none, before)

-- where the last call put the last text, the whole was put
pub put-both : {T E : Type 0} (r : Result T E) (old mid new first second : List ℕ) → mid ≡ old ++ first → OnOk r (new ≡ mid ++ second) → OnOk r (new ≡ old ++ (first ++ second))
put-both (Ok x) old mid new first second p q = q ∙ rw p (append_assoc old first second)
put-both (Err e) old mid new first second p q = q
