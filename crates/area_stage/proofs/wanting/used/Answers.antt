use Rattle.std.proofs.Common.{◌∙◌, ℕ, List, sym, ap, get_or, bit_or}
use Rattle.std.proofs.lemmas.List.{get_or_default}
use Rattle.std.proofs.lemmas.List.Elements.{All-get_or}
use Rattle.slice_base.proofs.Outcomes.{drop-item}
use Rattle.std.specs.Prelude.{fold}
use Rattle.area_stage.specs.Inner.Layers.{AreBelow}
use Rattle.area_stage.proofs.Bits.{or-below}
use Rattle.area_stage.proofs.wanting.used.Goals as goal

pub loop-w-preserved : goal.loop-w-preserved
loop-w-preserved c =
    let ws = c.args.wanted.now in
    let i = c.loop-w.w-index in
    let w = get_or c.args.wanted.now c.loop-w.w-index 0 in
    let d = drop-item ws i w c.loop-w-test.true (get_or_default ws i 0 w c.loop-w-test.true) in
    record {
      so_far = sym (ap (λ (l : List ℕ). fold bit_or c.loop-w.bits l) d) ∙ c.loop-w.invariant.so_far;
      known = λ n h. or-below n c.loop-w.bits w (c.loop-w.invariant.known n h) (All-get_or (AreBelow n) ws i 0 c.loop-w-test.true h);
    }
