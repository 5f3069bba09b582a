use Rattle.std.proofs.Common.{◌≡◌, ◌≤◌, ◌<◌, ◌+◌, ◌-◌, suc, List, [], ◌∷◌, ◌++◌, Bool, length, Option, None, Some, arith, sym, ap, ◌∙◌, subst, false, true, set}
use Rattle.std.proofs.lemmas.List.{length-replicate, length-set, length_push}
use Rattle.path_order.specs.declared.starts.Start.{Start}
use Rattle.path_order.specs.declared.pieces.Visit.{Visit}
use Rattle.path_order.specs.Inner.Remaining.{Known, nearest_left, remaining}
use Rattle.path_order.specs.Starts.{all_starts}
use Rattle.path_order.specs.Order.{visit_of, visits_in, stands_after, order_of}
use Rattle.path_order.proofs.Visits.{order_begin, all_starts-known, found_below, order_next, order_none, order_end}
use Rattle.path_order.proofs.ordering.order.Goals as goal
use Rattle.path_order.proofs.ordering.order.Goals.{else-visit-test, then-visit-test+in_default}

pub visit-init : goal.visit-init
visit-init c =
    let ps = c.args.pieces.now in
    let ss = c.in_ok-grid.grid.starts.items in
    let starts : ss ≡ all_starts c.args.seam 0 ps = c.in_ok-grid.ensures.starts ∙ c.in_ok-all_starts.ensures in
    record {
      within = omega (arith, ap length c.new-visits.ensures.items);
      marks = ap length c.in_ok-gone.ensures ∙ length-replicate (length ps) false;
      grid = c.in_ok-grid.ensures.grid;
      known = subst (λ (ts : List Start). Known (length ps) ts) (sym starts) (all_starts-known c.args.seam (length ps) 0 ps (omega arith));
      so_far = order_begin ps c.args.from c.args.seam c.new-visits.result.items c.in_ok-gone.gone ss c.new-visits.ensures.items c.in_ok-gone.ensures starts;
    }

pub mark-requires : goal.mark-requires
mark-requires c =
    let below = found_below c.args.pieces.now c.visit.at c.visit.gone c.visit.grid.starts.items c.in-Some.c c.visit.invariant.known (sym c.in-Some.ensures) in
    omega (arith, below, c.visit.invariant.marks)

pub visit-preserved : goal.visit-preserved
visit-preserved c =
    let ps = c.args.pieces.now in
    let more = c.in_ok-push.ensures.items in
    let below : length c.visit.visits.items < length ps = omega arith in
    record {
      within = omega (arith, ap length more, length_push c.visit.visits.items (visit_of c.in-Some.c));
      marks = ap length c.mark.ensures ∙ length-set c.visit.gone c.in-Some.c.piece true ∙ c.visit.invariant.marks;
      grid = c.in_ok-refile.ensures.grid;
      known = c.in_ok-refile.ensures.known (length ps) c.visit.invariant.known;
      so_far = order_next ps c.visit.at c.stands_after-at.result c.visit.gone c.mark.new.self c.visit.grid.starts.items c.refile.new.grid.starts.items c.visit.visits.items c.push.new.self.items (order_of ps c.args.from c.args.seam) c.in-Some.c below c.visit.invariant.marks c.visit.invariant.known (sym c.in-Some.ensures) more c.mark.ensures c.stands_after-at.ensures c.in_ok-refile.ensures.same c.visit.invariant.so_far;
    }

pub returns : goal.returns
returns c =
    let ps = c.args.pieces.now in
    let ss = c.visit.grid.starts.items in
    let done = c.visit.visits.items in
    let whole = order_of ps c.args.from c.args.seam in
    elim c.visit-test.branch [
      | else-visit-test w ↦
          (let all : length ps ≤ length done = omega arith in
          order_end ps c.visit.at (remaining c.visit.gone ss) done whole all c.visit.invariant.so_far)
      | then-visit-test+in_default w ↦
          (let found : nearest_left c.visit.gone c.visit.at None ss ≡ None = cc in
          order_none ps c.visit.at c.visit.gone ss done whole (length ps - length done) found c.visit.invariant.so_far)
    ]
