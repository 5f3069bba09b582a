use Rattle.std.proofs.Common.{◌∙◌, ap}
use Rattle.std.specs.Prelude.{option_map}
use Rattle.serde_json.specs.View.{view}
use Rattle.settings_core.specs.File.{pairs_of}
use Rattle.settings_core.proofs.FileLemmas.{file_pairs-of, file_pairs-none, migrated_of-of}
use Rattle.settings_core.proofs.migrating.migrate.Goals as goal

pub returns-in-Ok-clause-text : goal.returns-in-Ok-clause-text
returns-in-Ok-clause-text c = rw (migrated_of-of c.args.bytes.now (view c.in-Ok.document) c.in-Ok.ensures.ok) c.migrated_in.ensures.text

pub returns-in-Ok-clause-same_pairs : goal.returns-in-Ok-clause-same_pairs
returns-in-Ok-clause-same_pairs c = rw (file_pairs-of c.args.bytes.now (view c.in-Ok.document) c.in-Ok.ensures.ok) c.migrated_in.ensures.same_pairs

pub returns-in-Ok-clause-not_json : goal.returns-in-Ok-clause-not_json
returns-in-Ok-clause-not_json c = λ e. file_pairs-of c.args.bytes.now (view c.in-Ok.document) c.in-Ok.ensures.ok ∙ ap (option_map pairs_of) (c.migrated_in.ensures.not_json e)

pub returns-in-Err-clause-not_json : goal.returns-in-Err-clause-not_json
returns-in-Err-clause-not_json c = λ e. file_pairs-none c.args.bytes.now (c.in-Err.ensures.not_json (cc))
