use Rattle.std.proofs.Common.{◌≡◌, ◌∙◌, List, ◌∷◌, sym, ap, subst, length, map}
use Rattle.std.specs.List.{All}
use Rattle.std.specs.Vec.Iter.{into_iter_items}
use Rattle.std.proofs.lemmas.List.Elements.{All-head, All-tail, All-same}
use Rattle.slice_base.specs.declared.points.Pt.{Pt}
use Rattle.wall_skin.specs.declared.walling.WallSet.{WallSet}
use Rattle.area_stage.specs.Jobs.{loops_of}
use Rattle.area_stage.specs.Inner.Columns.{lengthened_by, no_columns}
use Rattle.area_stage.proofs.Inners.{moved, length-no_columns, length-lengthened}
use Rattle.area_stage.proofs.columns.all_parted.Goals as goal

pub loop-sets-init : goal.loop-sets-init
loop-sets-init c =
    let e = c.into_iter-sets-iterator.ensures.into_iter_gives.0 in
    let v : into_iter_items c.into_iter-sets-iterator.result ≡ c.args.layers = e ∙ c.into_vec-sets-items.ensures in
    record {
      columns = ap (λ (l : List (List (List (List Pt)))). lengthened_by l (into_iter_items c.into_iter-sets-iterator.result)) c.in_ok-columns.ensures ∙ ap (λ (l : List (List WallSet)). lengthened_by (no_columns c.args.count) l) v;
      walls = rw c.new-walls.ensures (ap (λ (l : List (List WallSet)). map (map loops_of) l) v);
      long = ap (λ (l : List (List (List (List Pt)))). length l) c.in_ok-columns.ensures ∙ length-no_columns c.args.count;
      as_many = All-same (λ (sets : List WallSet). length sets ≡ c.args.count) (into_iter_items c.into_iter-sets-iterator.result) c.args.layers v c.requires;
    }

pub loop-sets-preserved : goal.loop-sets-preserved
loop-sets-preserved c =
    let l = c.loop-sets in
    let xs = into_iter_items c.loop-sets.sets-iterator in
    let rest = into_iter_items c.next.new.self in
    let sets = c.in-Some.sets in
    let steps = c.in-Some.ensures.steps.0 in
    let all : All (λ (s : List WallSet). length s ≡ c.args.count) (c.in-Some.sets ∷ into_iter_items c.next.new.self) = subst (λ (k : List (List WallSet)). All (λ (s : List WallSet). length s ≡ c.args.count) k) steps l.invariant.as_many in
    let here = All-head (λ (s : List WallSet). length s ≡ c.args.count) sets rest all in
    record {
      columns = ap (λ (k : List (List (List (List Pt)))). lengthened_by k rest) c.in_ok-next.ensures.columns ∙ (sym (ap (λ (k : List (List WallSet)). lengthened_by l.columns k) steps) ∙ l.invariant.columns);
      walls = moved l.walls c.push.new.self (map (map loops_of) xs) (map (map loops_of) rest) (map (map loops_of) c.args.layers) c.in_ok-next.next.walls
          (ap (λ (k : List (List WallSet)). map (map loops_of) k) steps ∙ ap (λ (k : List (List (List (List Pt)))). k ∷ map (map loops_of) rest) (sym c.in_ok-next.ensures.walls)) c.in_ok-push.ensures.ok l.invariant.walls;
      long = ap (λ (k : List (List (List (List Pt)))). length k) c.in_ok-next.ensures.columns ∙ (length-lengthened l.columns sets (here ∙ sym l.invariant.long) ∙ l.invariant.long);
      as_many = All-tail (λ (s : List WallSet). length s ≡ c.args.count) sets rest all;
    }
