use Rattle.std.proofs.Common.{◌≡◌, ◌≤◌, ◌∙◌, Some, false, ap, subst, sym}
use Rattle.serde_json.specs.Data.{Data, depth}
use Rattle.serde_json.specs.View.{view}
use Rattle.serde_json.specs.Written.{compact_text, has_float}
use Rattle.settings_core.specs.File.{document_of}
use Rattle.settings_core.specs.Inner.Contents.{contents_view}
use Rattle.settings_core.specs.Migrate.{second_version}
use Rattle.settings_core.proofs.FileLemmas.{document_of-reads}
use Rattle.settings_core.proofs.Migrations.{file_pairs-second, second_version-depth, second_version-whole}
use Rattle.settings_core.proofs.migrating.text_of.Goals as goal

pub returns-clause-text : goal.returns-clause-text
returns-clause-text c =
    let is : view c.in_ok-document.document ≡ second_version (contents_view c.args.contents) = c.in_ok-document.ensures in
    let whole : has_float (view c.in_ok-document.document) ≡ false = ap has_float is ∙ second_version-whole (contents_view c.args.contents) in
    c.from_vec.ensures ∙ c.in_ok-to_vec.ensures.text whole ∙ ap compact_text is

pub returns-clause-same_pairs : goal.returns-clause-same_pairs
returns-clause-same_pairs c =
    let is : view c.in_ok-document.document ≡ second_version (contents_view c.args.contents) = c.in_ok-document.ensures in
    let flat : depth (view c.in_ok-document.document) ≤ 127 = subst (λ (d : Data). depth d ≤ 127) (sym is) (second_version-depth (contents_view c.args.contents)) in
    let reads : document_of c.from_vec.result ≡ Some (second_version (contents_view c.args.contents)) =
    ap document_of c.from_vec.ensures ∙ document_of-reads c.in_ok-to_vec.field-0.items (view c.in_ok-document.document) c.in_ok-to_vec.ensures.utf8 (c.in_ok-to_vec.ensures.reads_back flat) ∙ ap Some is in
    file_pairs-second c.args.contents c.from_vec.result c.requires reads
