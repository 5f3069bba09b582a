use Rattle.serde_json.specs.View.{view}
use Rattle.settings_core.proofs.FileLemmas.{document_of-reads, document_of-none, unmet}
use Rattle.settings_core.proofs.file.document_of.Goals as goal

pub returns-in-Ok-clause-ok : goal.returns-in-Ok-clause-ok
returns-in-Ok-clause-ok c = document_of-reads c.args.bytes.now (view c.in-Ok.value) c.in-Ok.ensures.ok.0 c.in-Ok.ensures.ok.1

pub returns-else-is_memory-clause-not_json : goal.returns-else-is_memory-clause-not_json
returns-else-is_memory-clause-not_json c = λ _. document_of-none c.args.bytes.now (c.in-Err.ensures.err (unmet c.is_memory.result c.is_memory.ensures c.if-is_memory.false))
