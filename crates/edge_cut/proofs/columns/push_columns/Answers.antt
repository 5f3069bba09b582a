use Rattle.std.proofs.Common.{◌≡◌, ◌∷◌, ◌++◌, [], refl, ap, ◌∙◌, arith}
use Rattle.edge_cut.specs.declared.columns.Filed.{Filed}
use Rattle.edge_cut.specs.Inner.Columns.{filed_at}
use Rattle.edge_cut.proofs.Compared.{one-column, pushed-kept, pushed-last, pushed-are}
use Rattle.edge_cut.proofs.columns.push_columns.Goals as goal

pub loop-column-init : goal.loop-column-init
loop-column-init c = record {
  kept = λ f there. there;
  are = λ lies all of there. there;
  each = λ k after lt. absurd (omega (arith, after, lt));
}

pub loop-column-preserved : goal.loop-column-preserved
loop-column-preserved c =
    let old = c.loop-column.files.items in
    let new = c.push.new.self.items in
    let x = c.args.extent in
    let column = c.loop-column.column in
    let h = c.loop-column.invariant in
    let f = filed_at column x in
    let is : new ≡ old ++ f ∷ [] = c.in_ok-push.ensures.items ∙ ap (λ (g : Filed). old ++ g ∷ []) c.filed_at.ensures in
    record {
      kept = λ g there. pushed-kept old new f is g (h.kept g there);
      are = λ lies all of there. pushed-are lies all old new f is (record { extent = of; is = refl }) (h.are lies all of there);
      each = one-column x old new c.args.first column (pushed-kept old new f is) h.each (pushed-last old new f is);
    }

pub returns : goal.returns
returns c = record {
  kept = c.loop-column.invariant.kept;
  are = c.loop-column.invariant.are;
  each = λ k after lt. c.loop-column.invariant.each k after (omega (arith, lt, c.loop-column-test.false));
}
