-- The first line and the first word of a text.
use Rattle.std.proofs.Common.{ℕ, suc, ◌≡◌, ◌<◌, ◌≤◌, ◌+◌, Bool, true, false, not, cond, List, [], ◌∷◌, length, take, drop, refl, arith, ap, one-add, eqb}
use Rattle.stl_text.specs.Words.{lines_of, words_of, onto_first, is_blank}
use Rattle.stl_text.specs.Inner.Cuts.{line_len, blank_len, word_len}

line_step : (t : Bool) (b : ℕ) (bs : List ℕ) → (line_len bs < length bs → lines_of bs ≡ take (line_len bs) bs ∷ lines_of (drop (suc (line_len bs)) bs)) → cond (not t) (1 + line_len bs) 0 < suc (length bs) → cond t ([] ∷ lines_of bs) (onto_first b (lines_of bs)) ≡ take (cond (not t) (1 + line_len bs) 0) (b ∷ bs) ∷ lines_of (drop (suc (cond (not t) (1 + line_len bs) 0)) (b ∷ bs))
line_step true b bs ih h = refl
line_step false b bs ih h = rw (one-add (line_len bs)) (ap (onto_first b) (ih (omega arith)))

-- up to a line feed
pub lines_of-cut : (bs : List ℕ) → line_len bs < length bs → lines_of bs ≡ take (line_len bs) bs ∷ lines_of (drop (suc (line_len bs)) bs)
lines_of-cut [] h = absurd (omega arith)
lines_of-cut (b ∷ bs) h = line_step (eqb b 10) b bs (lines_of-cut bs) h

last_step : (t : Bool) (b : ℕ) (bs : List ℕ) → (length bs ≤ line_len bs → 0 < length bs → lines_of bs ≡ bs ∷ []) → suc (length bs) ≤ cond (not t) (1 + line_len bs) 0 → cond t ([] ∷ lines_of bs) (onto_first b (lines_of bs)) ≡ (b ∷ bs) ∷ []
last_step true b bs ih h = absurd (omega arith)
last_step false b [] ih h = refl
last_step false b (c ∷ cs) ih h = ap (onto_first b) (ih (omega arith) (omega arith))

-- without a line feed
pub lines_of-last : (bs : List ℕ) → length bs ≤ line_len bs → 0 < length bs → lines_of bs ≡ bs ∷ []
lines_of-last [] h some = absurd (omega arith)
lines_of-last (b ∷ bs) h some = last_step (eqb b 10) b bs (lines_of-last bs) h

blank_step : (t : Bool) (b : ℕ) (bs : List ℕ) → is_blank b ≡ t → words_of (drop (blank_len bs) bs) ≡ words_of bs → words_of (drop (cond t (1 + blank_len bs) 0) (b ∷ bs)) ≡ words_of (b ∷ bs)
blank_step true b bs e ih = rw (one-add (blank_len bs)) (rw e ih)
blank_step false b bs e ih = refl

-- blanks at the front don't count
pub words_of-blanks : (bs : List ℕ) → words_of (drop (blank_len bs) bs) ≡ words_of bs
words_of-blanks [] = refl
words_of-blanks (b ∷ bs) = blank_step (is_blank b) b bs refl (words_of-blanks bs)

front_step : (t : Bool) (b : ℕ) (bs : List ℕ) → is_blank b ≡ t → blank_len (drop (blank_len bs) bs) ≡ 0 → blank_len (drop (cond t (1 + blank_len bs) 0) (b ∷ bs)) ≡ 0
front_step true b bs e ih = rw (one-add (blank_len bs)) ih
front_step false b bs e ih = rw e refl

pub blank_len-drop : (bs : List ℕ) → blank_len (drop (blank_len bs) bs) ≡ 0
blank_len-drop [] = refl
blank_len-drop (b ∷ bs) = front_step (is_blank b) b bs refl (blank_len-drop bs)

word_step : (t : Bool) (b c : ℕ) (cs : List ℕ) → is_blank c ≡ t → (is_blank c ≡ false → words_of (c ∷ cs) ≡ take (1 + word_len cs) (c ∷ cs) ∷ words_of (drop (1 + word_len cs) (c ∷ cs))) → cond t ((b ∷ []) ∷ words_of (c ∷ cs)) (onto_first b (words_of (c ∷ cs))) ≡ take (1 + cond (not t) (1 + word_len cs) 0) (b ∷ c ∷ cs) ∷ words_of (drop (1 + cond (not t) (1 + word_len cs) 0) (b ∷ c ∷ cs))
word_step true b c cs e ih = refl
word_step false b c cs e ih = rw (one-add (1 + word_len cs)) (ap (onto_first b) (ih e))

word_from : (bs : List ℕ) (b : ℕ) → is_blank b ≡ false → words_of (b ∷ bs) ≡ take (1 + word_len bs) (b ∷ bs) ∷ words_of (drop (1 + word_len bs) (b ∷ bs))
word_from [] b e = rw e refl
word_from (c ∷ cs) b e = rw e (word_step (is_blank c) b c cs refl (word_from cs c))

word_first : (t : Bool) (b : ℕ) (bs : List ℕ) → is_blank b ≡ t → cond t (1 + blank_len bs) 0 ≡ 0 → words_of (b ∷ bs) ≡ take (cond (not t) (1 + word_len bs) 0) (b ∷ bs) ∷ words_of (drop (cond (not t) (1 + word_len bs) 0) (b ∷ bs))
word_first true b bs e h = absurd (omega arith)
word_first false b bs e h = word_from bs b e

-- the first word, where no blank stands at the front
pub words_of-cut : (bs : List ℕ) → blank_len bs ≡ 0 → 0 < length bs → words_of bs ≡ take (word_len bs) bs ∷ words_of (drop (word_len bs) bs)
words_of-cut [] h some = absurd (omega arith)
words_of-cut (b ∷ bs) h some = word_first (is_blank b) b bs refl h
