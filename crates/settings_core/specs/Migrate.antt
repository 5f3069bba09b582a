-- A settings file, written anew in version 2.
use Rattle.std.specs.Prelude.{ℕ, List, Option, Some, None, option_map, codes}
use Rattle.serde_json.specs.Data.{unsigned, Data, null, number, string, array, object, Items, no_items, item, Members, no_members, member}
use Rattle.serde_json.specs.Written.{compact_text}
use Rattle.settings_core.specs.declared.pairs.Given.{Given}
use Rattle.settings_core.specs.declared.pairs.Given.TheVariants.{Words, Other}
use Rattle.settings_core.specs.File.{FileContents, value_given, members_in, file_contents}

-- a value as version 2 writes it: a text, or null where it has none
abbrev pub given_data : Given → Data
given_data (Words s) = string s
given_data Other = null

-- members, each with its value so written
abbrev pub second_members : Members → Members
second_members no_members = no_members
second_members (member key d ms) = member key (given_data (value_given d)) (second_members ms)

-- objects, each with its members so written
abbrev pub second_items : Items → Items
second_items no_items = no_items
second_items (item d ds) = item (object (second_members (members_in d))) (second_items ds)

-- these objects under a key, where they are there, before other members
abbrev pub listed : List ℕ → Option Items → Members → Members
listed key None ms = ms
listed key (Some ds) ms = member key (array (second_items ds)) ms

-- the document of version 2 that holds the same
abbrev pub second_version : FileContents → Data
second_version c = object
    (listed (codes "extruders") c.extruders
    (member (codes "global") (object (second_members c.global))
    (listed (codes "meshes") c.meshes
    (member (codes "version") (number (unsigned 2)) no_members))))

-- the text of version 2 of a settings file, with no space, where the bytes are one
unfoldable pub migrated_of : List ℕ → Option (List ℕ)
migrated_of bytes = option_map (λ c. compact_text (second_version c)) (file_contents bytes)
