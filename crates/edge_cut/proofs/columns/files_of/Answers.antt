use Rattle.std.proofs.Common.{List, refl, sym, subst, arith}
use Rattle.std.specs.List.{All}
use Rattle.std.proofs.lemmas.List.Elements.{All-nil}
use Rattle.edge_cut.specs.declared.columns.Extent.{Extent}
use Rattle.edge_cut.specs.declared.columns.Filed.{Filed}
use Rattle.edge_cut.specs.Inner.Columns.{IsExtentOf, IsFileOf, IsFiled}
use Rattle.edge_cut.proofs.Compared.{one-filed}
use Rattle.edge_cut.proofs.columns.files_of.Goals as goal

pub loop-index-init : goal.loop-index-init
loop-index-init c = record {
  are = subst (λ (fs : List Filed). All (IsFileOf c.args.lies c.args.all.now) fs) (sym c.in_ok-files.ensures.items) (All-nil (IsFileOf c.args.lies c.args.all.now));
  each = λ i lt. absurd (omega (arith, lt));
}

pub loop-index-preserved : goal.loop-index-preserved
loop-index-preserved c =
    let index = c.loop-index.index in
    let all = c.args.all.now in
    let lies = c.args.lies in
    let bits = c.args.bits in
    let old = c.loop-index.files.items in
    let new = c.file_near.new.files.items in
    let h = c.loop-index.invariant in
    let told = c.in_ok-file_near.ensures in
    let of : IsExtentOf lies all c.extent_of.result = subst (λ (x : Extent). IsExtentOf lies all x) (sym c.extent_of.ensures) (record { within = c.loop-index-test.true; is = refl }) in
    record {
      are = told.are lies all of h.are;
      each = one-filed lies bits all c.args.near.now old new index told.kept h.each
          (λ near. subst (λ (x : Extent). IsFiled bits x new) c.extent_of.ensures (told.each near));
    }

pub returns : goal.returns
returns c = record {
  are = c.loop-index.invariant.are;
  each = λ i below. c.loop-index.invariant.each i (omega (arith, c.loop-index-test.false));
}
