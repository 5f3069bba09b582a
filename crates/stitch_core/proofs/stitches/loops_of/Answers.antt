use Rattle.std.proofs.Common.{rules, ◌∙◌, ap}
use Rattle.std.proofs.lemmas.Fn.{filter_same}
use Rattle.stitch_core.specs.Stitch.{is_loop, loops_of}
use Rattle.stitch_core.proofs.stitches.loops_of.Goals as goal

pub returns : goal.returns
returns c =
    let kept = filter_same _ is_loop _ (λ x b f' k. search rules) c.into_vec-loops.result.items c.retain.new.self.items c.retain.ensures.filtered in
    c.of.ensures ∙ (kept ∙ ap loops_of c.into_vec-loops.ensures)
