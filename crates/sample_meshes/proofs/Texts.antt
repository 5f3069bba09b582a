-- Texts one behind another.
use Rattle.std.proofs.Common.{ℕ, suc, ◌+◌, ◌≡◌, List, [], ◌++◌, add-one, refl, sym, ap, subst, ◌∙◌}
use Rattle.std.proofs.lemmas.List.{append_assoc, append-nil}
use Rattle.sample_meshes.specs.Meshes.{texts}

-- none yet
pub texts_none : (f : ℕ → List ℕ) (start : List ℕ) → start ≡ start ++ texts f 0
unfolding texts
texts_none f start = sym (append-nil start)

-- one more
pub texts_more : (f : ℕ → List ℕ) (n : ℕ) (start before now : List ℕ) → before ≡ start ++ texts f n → now ≡ before ++ f n → now ≡ start ++ texts f (n + 1)
unfolding texts
texts_more f n start before now so_far more = rw (add-one n) (more ∙ ap (λ xs. xs ++ f n) so_far ∙ append_assoc start (texts f n) (f n))
