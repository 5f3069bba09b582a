use Rattle.std.proofs.Common.{List, sym, subst}
use Rattle.edge_cut.specs.declared.passes.Marked.{Marked}
use Rattle.edge_cut.specs.Cut.{EdgesIn}
use Rattle.clip_core.proofs.clipping.clipped.Goals as goal

pub returns-clause-within : goal.returns-clause-within
returns-clause-within c = λ box in_a in_b.
    c.in_ok-result_of.ensures.within box (subst (λ (ms : List Marked). EdgesIn box ms) (sym c.as_slice.ensures.value) (c.in_ok-list.ensures.within box in_a in_b))
