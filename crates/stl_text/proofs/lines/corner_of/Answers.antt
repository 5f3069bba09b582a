use Rattle.std.proofs.Common.{◌≡◌, ◌∷◌, true, false, List, [], ℕ, None, sym, ap, ◌∙◌}
use Rattle.stl_text.specs.Words.{words_of}
use Rattle.stl_text.specs.Lines.{coordinate_of, corner_at, corner_of, no_words}
use Rattle.stl_text.proofs.lines.corner_of.Goals as goal

three : (ws vs us ts : List (List ℕ)) (first second third : List ℕ) → ws ≡ first ∷ vs → vs ≡ second ∷ us → us ≡ third ∷ ts → ws ≡ first ∷ second ∷ third ∷ ts
three ws vs us ts first second third e f g = e ∙ ap (λ (x : List (List ℕ)). first ∷ x) (f ∙ ap (λ (x : List (List ℕ)). second ∷ x) g)

exact : (ws ts : List (List ℕ)) (first second third : List ℕ) → ws ≡ first ∷ second ∷ third ∷ ts → no_words ts ≡ true → corner_at (coordinate_of first) (coordinate_of second) (coordinate_of third) ≡ corner_of ws
exact ws [] first second third e h = sym (ap corner_of e)
exact ws (t ∷ ts) first second third e h = cc

more : (ws ts : List (List ℕ)) (first second third : List ℕ) → ws ≡ first ∷ second ∷ third ∷ ts → no_words ts ≡ false → None ≡ corner_of ws
more ws [] first second third e h = cc
more ws (t ∷ ts) first second third e h = sym (ap corner_of e)

pub returns : goal.returns
returns c =
    c.corner_at.ensures ∙ exact (words_of c.args.text.now) (words_of c.in_ok-third.rest.now) c.in_ok-first.first.now c.in_ok-second.second.now c.in_ok-third.third.now
    (three (words_of c.args.text.now) (words_of c.in_ok-first.rest.now) (words_of c.in_ok-second.rest.now) (words_of c.in_ok-third.rest.now) _ _ _ c.in_ok-first.ensures c.in_ok-second.ensures c.in_ok-third.ensures)
    (sym c.no_words.ensures ∙ c.if-not-no_words.false)

pub returns-then-not-no_words : goal.returns-then-not-no_words
returns-then-not-no_words c =
    more (words_of c.args.text.now) (words_of c.in_ok-third.rest.now) c.in_ok-first.first.now c.in_ok-second.second.now c.in_ok-third.third.now
    (three (words_of c.args.text.now) (words_of c.in_ok-first.rest.now) (words_of c.in_ok-second.rest.now) (words_of c.in_ok-third.rest.now) _ _ _ c.in_ok-first.ensures c.in_ok-second.ensures c.in_ok-third.ensures)
    (sym c.no_words.ensures ∙ c.if-not-no_words.true)
