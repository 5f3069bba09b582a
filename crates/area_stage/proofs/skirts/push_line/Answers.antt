use Rattle.std.proofs.Common.{List, [], ◌∷◌, ◌++◌, subst}
use Rattle.std.specs.List.{All}
use Rattle.std.specs.Vec.Iter.{into_iter_items}
use Rattle.std.proofs.lemmas.List.Elements.{All-head, All-tail, All-push, All-same}
use Rattle.slice_base.specs.declared.points.Pt.{Pt}
use Rattle.plan_types.specs.Areas.{IsLoop}
use Rattle.area_stage.proofs.Inners.{moved}
use Rattle.area_stage.proofs.skirts.push_line.Goals as goal

pub loop-l-preserved : goal.loop-l-preserved
loop-l-preserved c =
    let l = c.loop-l in
    let xs = into_iter_items c.loop-l.l-iterator in
    let rest = into_iter_items c.next.new.self in
    let item = c.in-Some.l in
    let steps = c.in-Some.ensures.steps.0 in
    let pushed = c.in_ok-push.ensures.ok in
    let all : All (IsLoop 1600000) (c.in-Some.l ∷ into_iter_items c.next.new.self) = subst (λ (k : List (List Pt)). All (IsLoop 1600000) k) steps l.invariant.rest in
    record {
      so_far = moved l.loops c.push.new.self xs rest _ item steps pushed l.invariant.so_far;
      each = All-same (IsLoop 1600000) c.push.new.self (l.loops ++ item ∷ []) pushed (All-push (IsLoop 1600000) l.loops item l.invariant.each (All-head (IsLoop 1600000) item rest all));
      rest = All-tail (IsLoop 1600000) item rest all;
    }
