use Rattle.std.proofs.Common.{◌≡◌, ◌≤◌, ◌+◌, ◌-◌, ◌∷◌, List, ℕ, length, take, drop, arith, add-one}
use Rattle.std.proofs.lemmas.List.{take_rest}
use Rattle.stl_text.specs.Words.{lines_of}
use Rattle.stl_text.specs.Inner.Cuts.{line_len}
use Rattle.stl_text.proofs.CutLemmas.{lines_of-cut, lines_of-last}
use Rattle.stl_text.proofs.words.split_line.Goals as goal

cut : (bs : List ℕ) (n : ℕ) → n ≡ line_len bs → n + 1 ≤ length bs → lines_of bs ≡ take n bs ∷ lines_of (take (length bs - (n + 1)) (drop (n + 1) bs))
cut bs n e h =
    let within : line_len bs + 1 ≤ length bs = omega arith in
    rw (take_rest bs (n + 1), e, add-one (line_len bs)) (lines_of-cut bs (omega arith))

pub returns-then-length-text-clause-lines : goal.returns-then-length-text-clause-lines
returns-then-length-text-clause-lines c = cut c.args.text.now c.line_length-length.result c.line_length-length.ensures.exact (omega arith)

pub returns-else-length-text-clause-lines : goal.returns-else-length-text-clause-lines
returns-else-length-text-clause-lines c = lines_of-last c.args.text.now (omega arith) (omega arith)
