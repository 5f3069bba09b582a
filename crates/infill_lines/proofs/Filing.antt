-- Crossings are filed line by line.
use Rattle.std.proofs.Common.{◌≡◌, ◌≢◌, ◌<◌, ◌≤◌, ◌+◌, ◌==◌, ◌&&◌, ℕ, ℤ, pos, ◌+ℤ◌, ◌<ℤ◌, ◌≤ℤ◌, Bool, true, false, cond, List, [], ◌∷◌, ◌++◌, length, get_or, set, ◌⊎◌, inl, inr, refl, sym, ap, ◌∙◌, subst, arith}
use Rattle.std.specs.Prelude.{int_le, int_lt, nat_lt}
use Rattle.std.proofs.lemmas.Int.{ints}
use Rattle.std.proofs.lemmas.Bool.Decides.{nat_tests}
use Rattle.std.proofs.lemmas.Bool.{cases_eq, cases_lt}
use Rattle.std.proofs.lemmas.List.{get_or-set_other, append-nil, append_assoc, length-set}
use Rattle.std.proofs.lemmas.Grind.{get_or-set_at}
use Rattle.infill_lines.specs.declared.angles.Place.{Place}
use Rattle.infill_lines.specs.declared.rows.Lines.{Lines}
use Rattle.infill_lines.specs.Crossings.{between, crosses_up, crossing_of}
use Rattle.infill_lines.specs.Inner.Rows.{line_at, row_at, HaveMore}
use Rattle.infill_lines.proofs.Counting.{lines_rise}

-- ---- one edge and one line

test-true : (a l b : ℤ) → a ≤ℤ l → l <ℤ b → (int_le a l && int_lt l b) ≡ true
test-true a l b g h = grind (arith, ints)

test-below : (a l b : ℤ) → l <ℤ a → (int_le a l && int_lt l b) ≡ false
test-below a l b g = grind (arith, ints)

test-above : (a l b : ℤ) → b ≤ℤ l → (int_le a l && int_lt l b) ≡ false
test-above a l b g = grind (arith, ints)

pub crosses_up-there : (low high : Place) (line : ℤ) → low.across ≤ℤ line → line <ℤ high.across → crosses_up low high line ≡ between low high line ∷ []
crosses_up-there low high line g h = rw (test-true low.across line high.across g h) refl

pub crosses_up-below : (low high : Place) (line : ℤ) → line <ℤ low.across → crosses_up low high line ≡ []
crosses_up-below low high line g = rw (test-below low.across line high.across g) refl

pub crosses_up-above : (low high : Place) (line : ℤ) → high.across ≤ℤ line → crosses_up low high line ≡ []
crosses_up-above low high line g = rw (test-above low.across line high.across g) refl

pub crossing_of-up : (p q : Place) (line : ℤ) → int_le p.across q.across ≡ true → crossing_of p q line ≡ crosses_up p q line
crossing_of-up p q line is = rw is refl

pub crossing_of-down : (p q : Place) (line : ℤ) → int_le p.across q.across ≡ false → crossing_of p q line ≡ crosses_up q p line
crossing_of-down p q line is = rw is refl

-- ---- rows

-- nothing more
pub have_none : (lines : Lines) (rows : List (List Place)) (more : ℤ → List Place) → ((z : ℤ) → more z ≡ []) → HaveMore lines rows rows more
have_none lines rows more none = λ k below. sym (append-nil (row_at rows k)) ∙ ap (λ (ps : List Place). row_at rows k ++ ps) (sym (none (line_at lines k)))

-- one crossing more, on line k
pub one_filed : (rows old new : List (List Place)) (lines : Lines) (low high : Place) (k : ℕ) → length old ≡ lines.count → k < lines.count → low.across ≤ℤ line_at lines k → line_at lines k <ℤ high.across → new ≡ set old k (row_at old k ++ between low high (line_at lines k) ∷ []) → ((j : ℕ) → j < lines.count → j < k → row_at old j ≡ row_at rows j ++ crosses_up low high (line_at lines j)) → ((j : ℕ) → k ≤ j → row_at old j ≡ row_at rows j) → (j : ℕ) → j < lines.count → j < k + 1 → row_at new j ≡ row_at rows j ++ crosses_up low high (line_at lines j)
one_filed rows old new lines low high k count within from to is done rest j below lt = by_number (cases_eq j k)
  where
    item : List Place
    item = row_at old k ++ between low high (line_at lines k) ∷ []

    by_number : (j ≡ k) ⊎ (j ≢ k) → row_at new j ≡ row_at rows j ++ crosses_up low high (line_at lines j)
    by_number (inl same) =
        ap (λ (rs : List (List Place)). row_at rs j) is
        ∙ get_or-set_at old k j item [] same (omega arith)
        ∙ ap (λ (ps : List Place). ps ++ between low high (line_at lines k) ∷ []) (rest k (omega arith))
        ∙ ap (λ (ps : List Place). row_at rows k ++ ps) (sym (crosses_up-there low high (line_at lines k) from to))
        ∙ ap (λ (i : ℕ). row_at rows i ++ crosses_up low high (line_at lines i)) (sym same)
    by_number (inr other) =
        ap (λ (rs : List (List Place)). row_at rs j) is
        ∙ get_or-set_other old k j item [] other
        ∙ done j below (omega arith)

pub rest_stays : (rows old new : List (List Place)) (k : ℕ) (item : List Place) → new ≡ set old k item → ((j : ℕ) → k ≤ j → row_at old j ≡ row_at rows j) → (j : ℕ) → k + 1 ≤ j → row_at new j ≡ row_at rows j
rest_stays rows old new k item is rest j le =
    ap (λ (rs : List (List Place)). row_at rs j) is
    ∙ get_or-set_other old k j item [] (other j k le)
    ∙ rest j (omega arith)
  where
    other : (j k : ℕ) → k + 1 ≤ j → j ≢ k
    other j k le = λ e. absurd (omega arith)

not_both : (a b : Bool) → (a && b) ≡ false → (a ≡ false) ⊎ (b ≡ false)
not_both true b h = inr h
not_both false b h = inl refl

lt-false : (a b : ℕ) → nat_lt a b ≡ false → b ≤ a
lt-false a b h = grind (arith, nat_tests)

int-false : (a b : ℤ) → int_lt a b ≡ false → b ≤ℤ a
int-false a b h = grind (arith, ints)

through : (a b c : ℤ) → a ≤ℤ b → b ≤ℤ c → a ≤ℤ c
through a b c g h = omega (arith, ints)

-- all lines that the edge crosses have their crossing once the next one doesn't lie below its upper end
pub all_filed : (rows new : List (List Place)) (lines : Lines) (low high : Place) (k : ℕ) → (nat_lt k lines.count && int_lt (line_at lines k) high.across) ≡ false → ((j : ℕ) → j < lines.count → j < k → row_at new j ≡ row_at rows j ++ crosses_up low high (line_at lines j)) → ((j : ℕ) → k ≤ j → row_at new j ≡ row_at rows j) → HaveMore lines rows new (crosses_up low high)
all_filed rows new lines low high k over done rest = λ j below. by_number j below (cases_lt j k)
  where
    behind : (j : ℕ) → j < lines.count → k ≤ j → (nat_lt k lines.count ≡ false) ⊎ (int_lt (line_at lines k) high.across ≡ false) → crosses_up low high (line_at lines j) ≡ []
    behind j below le (inl h) = let past = lt-false k lines.count h in absurd (omega arith)
    behind j below le (inr h) =
        crosses_up-above low high (line_at lines j) (through high.across (line_at lines k) (line_at lines j) (int-false (line_at lines k) high.across h) (lines_rise lines.first lines.step k j le))

    by_number : (j : ℕ) → j < lines.count → (j < k) ⊎ (k ≤ j) → row_at new j ≡ row_at rows j ++ crosses_up low high (line_at lines j)
    by_number j below (inl lt) = done j below lt
    by_number j below (inr le) =
        rest j le
        ∙ sym (append-nil (row_at rows j))
        ∙ ap (λ (ps : List Place). row_at rows j ++ ps) (sym (behind j below le (not_both (nat_lt k lines.count) (int_lt (line_at lines k) high.across) over)))

-- first these places more, then those
pub have_both : (lines : Lines) (old mid new : List (List Place)) (first second : ℤ → List Place) → HaveMore lines old mid first → HaveMore lines mid new second → HaveMore lines old new (λ z. first z ++ second z)
have_both lines old mid new first second g h = λ k below.
    h k below
    ∙ ap (λ (ps : List Place). ps ++ second (line_at lines k)) (g k below)
    ∙ append_assoc (row_at old k) (first (line_at lines k)) (second (line_at lines k))

-- what is left of a walk, after one step more
pub one_step : (lines : Lines) (mid new : List (List Place)) (step rest left : ℤ → List Place) (whole : ℕ → List Place) → HaveMore lines mid new step → ((z : ℤ) → left z ≡ step z ++ rest z) → ((k : ℕ) → k < lines.count → row_at mid k ++ left (line_at lines k) ≡ whole k) → (k : ℕ) → k < lines.count → row_at new k ++ rest (line_at lines k) ≡ whole k
one_step lines mid new step rest left whole h is so_far k below =
    let z = line_at lines k in
    ap (λ (ps : List Place). ps ++ rest z) (h k below)
    ∙ append_assoc (row_at mid k) (step z) (rest z)
    ∙ ap (λ (ps : List Place). row_at mid k ++ ps) (sym (is z))
    ∙ so_far k below
