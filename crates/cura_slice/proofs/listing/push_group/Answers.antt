use Rattle.std.proofs.Common.{◌≡◌, ◌++◌, rules}
use Rattle.settings_table.specs.Table.{all_settings}
use Rattle.cura_slice.specs.Listing.{heading, entries, group_text}
use Rattle.cura_slice.proofs.Columns.{put-both}
use Rattle.cura_slice.proofs.listing.push_group.Goals as goal

pub returns : goal.returns
unfolding group_text
returns c =
    let headed : c.extend_from_slice.new.self.items ≡ c.args.text.now.items ++ heading c.args.group = search rules in
    put-both c.push_entries.result c.args.text.now.items c.extend_from_slice.new.self.items c.push_entries.new.text.items (heading c.args.group) (entries c.args.group all_settings) headed c.push_entries.ensures
