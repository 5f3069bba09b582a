use Rattle.std.proofs.Common.{◌≡◌, ◌∷◌, List, ℕ, drop, map, arith, sym, ap, ◌∙◌, rules}
use Rattle.stl_text.specs.declared.lines.Line.{Line}
use Rattle.stl_text.specs.Words.{lines_of, words_of}
use Rattle.stl_text.specs.Lines.{line_of, read_lines}
use Rattle.stl_text.proofs.FaultLemmas.{cut, stands_next, stands_whole, fault_here, text_at_end, fault_at_end, all_read}
use Rattle.stl_text.proofs.reader.gather.Goals as goal

-- the lines that are left, where one is cut off
cut_line : (left : List Line) (rest line after : List ℕ) (l : Line) → left ≡ read_lines rest → lines_of rest ≡ line ∷ lines_of after → l ≡ line_of (words_of line) → left ≡ l ∷ read_lines after
cut_line left rest line after l e cuts is = e ∙ (ap (map (λ (w : List ℕ). line_of (words_of w))) cuts ∙ ap (λ (x : Line). x ∷ read_lines after) (sym is))

pub returns-in-Bad-clause-err : goal.returns-in-Bad-clause-err
returns-in-Bad-clause-err c =
    let bytes : List ℕ = c.args.bytes.now in
    let left = cut_line (drop c.lines.number (read_lines bytes)) c.lines.rest.now c.split_line.result.0.now c.split_line.result.1.now c.line_of.result c.lines.invariant.left c.split_line.ensures.lines c.line_of.ensures in
    fault_here bytes c.lines.number c.lines.state c.lines.gathered c.line_of.result (read_lines c.split_line.result.1.now) c.lines.invariant.stands left (sym c.step_of.ensures ∙ c.in-Bad.is)

pub lines-preserved-in-To : goal.lines-preserved-in-To
lines-preserved-in-To c =
    let bytes : List ℕ = c.args.bytes.now in
    let left = cut_line (drop c.lines.number (read_lines bytes)) c.lines.rest.now c.split_line.result.0.now c.split_line.result.1.now c.line_of.result c.lines.invariant.left c.split_line.ensures.lines c.line_of.ensures in
    record {
      stands = stands_next bytes c.lines.number c.lines.state c.lines.gathered c.line_of.result (read_lines c.split_line.result.1.now) c.lines.invariant.stands left c.in-To.next (sym c.step_of.ensures ∙ c.in-To.is);
      left = (cut c.lines.number (read_lines bytes) c.line_of.result (read_lines c.split_line.result.1.now) left).rest;
      counted = omega (arith, c.lines.invariant.counted, c.split_line.ensures.shorter);
    }

pub lines-preserved : goal.lines-preserved
lines-preserved c =
    let bytes : List ℕ = c.args.bytes.now in
    let left = cut_line (drop c.lines.number (read_lines bytes)) c.lines.rest.now c.split_line.result.0.now c.split_line.result.1.now c.line_of.result c.lines.invariant.left c.split_line.ensures.lines c.line_of.ensures in
    record {
      stands = stands_whole bytes c.lines.number c.lines.state c.lines.gathered c.line_of.result (read_lines c.split_line.result.1.now) c.lines.invariant.stands left c.in-Whole.facet c.take.new.self (sym c.step_of.ensures ∙ c.in-Whole.is) c.take.ensures.gathers;
      left = (cut c.lines.number (read_lines bytes) c.line_of.result (read_lines c.split_line.result.1.now) left).rest;
      counted = omega (arith, c.lines.invariant.counted, c.split_line.ensures.shorter);
    }

pub returns-then-is_end-clause-ok : goal.returns-then-is_end-clause-ok
returns-then-is_end-clause-ok c =
    let bytes : List ℕ = c.args.bytes.now in
    let s = c.lines.invariant.stands in
    (s.facets, text_at_end bytes c.lines.number c.lines.state c.lines.gathered s (all_read bytes c.lines.rest.now c.lines.number c.lines.invariant.left (search rules)) (sym c.is_end.ensures ∙ c.if-is_end.true), s.gathers)

pub returns-else-is_end-clause-err : goal.returns-else-is_end-clause-err
returns-else-is_end-clause-err c =
    let bytes : List ℕ = c.args.bytes.now in
    let s = c.lines.invariant.stands in
    fault_at_end bytes c.lines.number c.lines.state c.lines.gathered s (all_read bytes c.lines.rest.now c.lines.number c.lines.invariant.left (search rules)) (sym c.is_end.ensures ∙ c.if-is_end.false)
