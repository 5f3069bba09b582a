use Rattle.std.proofs.Common.{◌∷◌, [], subst}
use Rattle.plate_input.specs.Plate.{MakesPlate, UnlessNoMemory}
use Rattle.slice_engine.specs.Jobs.{SamplePlate, sample_texts}
use Rattle.slice_engine.proofs.Samples.{not_made}
use Rattle.slice_engine.proofs.planning.sample_plate.Goals as goal

pub returns-clause-refused : goal.returns-clause-refused
returns-clause-refused c =
    let r = c.make_plate.result in
    let by_texts = subst (λ texts. UnlessNoMemory (MakesPlate (c.in_ok-sample_pair.field-0 ∷ []) (0 ∷ 1 ∷ []) texts) r) c.in_ok-texts.ensures.texts c.make_plate.ensures.gives in
    let by_pairs = subst (λ pairs. UnlessNoMemory (MakesPlate pairs (0 ∷ 1 ∷ []) (sample_texts c.args.number)) r) c.in_ok-sample_pair.ensures by_texts in
    not_made (SamplePlate c.args.number) r c.in-Err.fault c.from.result c.in-Err.is c.from.ensures by_pairs
