use Rattle.std.proofs.Common.{◌+◌, ◌∙◌, sym, drop, map, arith}
use Rattle.std.specs.Prelude.{string_bytes}
use Rattle.cli_words.specs.Choices.{words_in, is_settings, is_mesh}
use Rattle.cli_words.specs.Inner.Seen.{seen_piece, seen}
use Rattle.cli_words.proofs.Reading.{drafted_more, count_few, if_ok, adds_meshes}
use Rattle.cli_words.proofs.draft.drafted.Goals as goal

pub words-preserved : goal.words-preserved
words-preserved c =
    let p = seen_piece c.piece_at-piece.result in
    let w = c.words-at.ensures.exact in
    let ws = c.args.words.now in
    let at = c.words.at in
    let a = if_ok c.add.result c.add.ensures (sym c.is_err.ensures.value ∙ c.if-is_err.false) in
    record {
      drafted = rw w (drafted_more (map string_bytes ws) (map string_bytes (drop at ws)) (map string_bytes (drop (at + words_in p) ws)) at c.words.draft c.add.new.self p (seen c.in-Ok.choice)
          c.words.invariant.drafted c.piece_at-piece.ensures.exact c.in-Ok.ensures.exact a);
      within = omega (arith, c.piece_at-piece.ensures.within, w);
      files_few = omega (arith, count_few (is_settings (seen c.in-Ok.choice)) c.words.draft.files c.add.new.self.files a.files, c.words-at.ensures.some);
      meshes_few = omega (arith, count_few (is_mesh (seen c.in-Ok.choice)) c.words.draft.meshes c.add.new.self.meshes (adds_meshes c.words.draft c.add.new.self (seen c.in-Ok.choice) a), c.words-at.ensures.some);
    }
