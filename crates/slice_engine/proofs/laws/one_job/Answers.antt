use Rattle.std.proofs.Common.{◌∷◌, []}
use Rattle.cli_words.specs.Command.{command_of}
use Rattle.slice_engine.specs.Jobs.{sample_pairs, sample_texts}
use Rattle.slice_engine.proofs.Plates.{one_command}
use Rattle.slice_engine.proofs.laws.one_job.Goals as goal

pub returns : goal.returns
returns c = λ words files a b x y.
    one_command (command_of words) files a b (λ items. c.one_plate.ensures items files) (λ number. c.one_made.ensures sample_pairs (0 ∷ 1 ∷ []) (sample_texts number)) c.one_areas.ensures x y
