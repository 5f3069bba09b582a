use Rattle.std.proofs.Common.{◌+◌, ◌∙◌, ap, Bool, cond, drop, map, arith}
use Rattle.std.specs.Prelude.{string_bytes}
use Rattle.cli_words.specs.Choices.{words_in}
use Rattle.cli_words.specs.Inner.Seen.{seen_piece, seen}
use Rattle.cli_words.proofs.Reading.{surveyed_more, count_few}
use Rattle.cli_words.proofs.survey.look_over.Goals as goal

pub words-preserved : goal.words-preserved
words-preserved c =
    let p = seen_piece c.piece_at-piece.result in
    let w = c.words-at.ensures.exact in
    let ws = c.args.words.now in
    let at = c.words.at in
    record {
      surveyed = rw w (surveyed_more (map string_bytes ws) (map string_bytes (drop at ws)) (map string_bytes (drop (at + words_in p) ws)) at c.words.files c.words.meshes c.count_more-files.result c.count_more-meshes.result c.words.lacks_output c.lacks_still-lacks_output.result p (seen c.in-Ok.choice)
          c.words.invariant.surveyed c.piece_at-piece.ensures.exact c.in-Ok.ensures.exact
          (c.count_more-files.ensures ∙ ap (λ (b : Bool). cond b (c.words.files + 1) c.words.files) c.is_settings.ensures)
          (c.count_more-meshes.ensures ∙ ap (λ (b : Bool). cond b (c.words.meshes + 1) c.words.meshes) c.is_mesh.ensures)
          c.lacks_still-lacks_output.ensures);
      within = omega (arith, c.piece_at-piece.ensures.within, w);
      files_few = omega (arith, count_few c.is_settings.result c.words.files c.count_more-files.result c.count_more-files.ensures, c.words-at.ensures.some);
      meshes_few = omega (arith, count_few c.is_mesh.result c.words.meshes c.count_more-meshes.result c.count_more-meshes.ensures, c.words-at.ensures.some);
    }
