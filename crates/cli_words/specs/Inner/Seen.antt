-- What is read of words, without where it stands in memory.
use Rattle.cli_words.specs.declared.choice.WordPiece.{WordPiece}
use Rattle.cli_words.specs.declared.choice.WordPiece.TheVariants as piece
use Rattle.cli_words.specs.declared.choice.Choice.{Choice}
use Rattle.cli_words.specs.declared.choice.Choice.TheVariants as choice
use Rattle.cli_words.specs.Choices.{Piece, alone, taking, lacking, Chosen, settings, mesh, extruder, everything, pair, output, workers, journal, nothing}

-- a piece, by the bytes of its word
abbrev pub seen_piece : WordPiece → Piece
seen_piece (piece.Alone w) = alone w.now
seen_piece (piece.Taking t w) = taking t w.now
seen_piece piece.Lacking = lacking

-- a choice, by the bytes of its words
abbrev pub seen : Choice → Chosen
seen (choice.Settings name) = settings name.now
seen (choice.Mesh name) = mesh name.now
seen (choice.Extruder n) = extruder n
seen choice.Everything = everything
seen (choice.Pair key value) = pair key.now value.now
seen (choice.Output name) = output name.now
seen (choice.Workers n) = workers n
seen choice.Journal = journal
seen choice.Nothing = nothing
