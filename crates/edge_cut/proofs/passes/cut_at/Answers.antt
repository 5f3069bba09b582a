use Rattle.std.proofs.Common.{List, sym, subst, eqb-true, ◌∙◌, length}
use Rattle.edge_cut.specs.declared.meetings.Meeting.{Meeting}
use Rattle.edge_cut.specs.Inner.Meetings.{AreListed}
use Rattle.edge_cut.proofs.Uncut.{none-of, pass-whole}
use Rattle.edge_cut.proofs.passes.cut_at.Goals as goal

pub returns-then-is_empty : goal.returns-then-is_empty
returns-then-is_empty c =
    let all = c.args.all.now in
    let ms = c.args.meetings.now in
    pass-whole all c.requires.extended
    (subst (λ (ns : List Meeting). AreListed all ns) (none-of ms (eqb-true (length ms) 0 (sym c.is_empty.ensures ∙ c.if-is_empty.true))) c.requires.listed)
