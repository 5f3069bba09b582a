use Rattle.std.proofs.Common.{rules, zero, suc, eqb, Bool, false, ◌≡◌, ◌<◌, ◌-◌, [], ◌∷◌, List, ℕ, length, take, drop, arith, sym, ap, ◌∙◌}
use Rattle.std.proofs.lemmas.List.{take_rest, nil_from_length}
use Rattle.stl_text.specs.Words.{words_of}
use Rattle.stl_text.specs.Inner.Cuts.{blank_len, word_len}
use Rattle.stl_text.proofs.CutLemmas.{words_of-blanks, blank_len-drop, words_of-cut}
use Rattle.stl_text.proofs.words.split_word.Goals as goal

-- what is left behind the blanks
front : (bs : List ℕ) (k : ℕ) → k ≡ blank_len bs → take (length bs - k) (drop k bs) ≡ drop (blank_len bs) bs
front bs k e = rw (e, take_rest bs (blank_len bs))

none : (bs fs : List ℕ) → fs ≡ drop (blank_len bs) bs → length fs ≡ 0 → words_of bs ≡ []
none bs fs e h =
    sym (words_of-blanks bs) ∙ ap words_of (sym e ∙ nil_from_length fs h)

some : (bs fs word rest : List ℕ) (n : ℕ) → fs ≡ drop (blank_len bs) bs → 0 < length fs → n ≡ word_len fs → word ≡ take n fs → rest ≡ drop n fs → words_of bs ≡ word ∷ words_of rest
some bs fs word rest n e h count w r =
    let clear : blank_len fs ≡ 0 = ap blank_len e ∙ blank_len-drop bs in
    rw (w, r, count) (sym (words_of-blanks bs) ∙ (ap words_of (sym e) ∙ words_of-cut fs clear h))

some_bytes : (n : ℕ) (r : Bool) → r ≡ eqb n 0 → r ≡ false → 0 < n
some_bytes zero r e f = absurd (cc)
some_bytes (suc n) r e f = omega arith

pub returns-then-is_empty : goal.returns-then-is_empty
returns-then-is_empty c = none c.args.text.now _ (front c.args.text.now c.blank_length.result c.blank_length.ensures.exact) (search rules)

pub returns : goal.returns
returns c =
    some c.args.text.now _ _ _ c.word_length.result
    (front c.args.text.now c.blank_length.result c.blank_length.ensures.exact)
    (some_bytes _ _ c.is_empty.ensures c.if-is_empty.false) c.word_length.ensures.exact c.split_at.ensures.front c.split_at.ensures.back
