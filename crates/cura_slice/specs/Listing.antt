-- The table of settings as a text. Texts are bytes of UTF-8, and lines end with a line feed.
use Rattle.std.specs.Prelude.{ℕ, ◌+◌, ◌-◌, Bool, true, false, cond, List, [], ◌∷◌, ◌++◌, codes, replicate}
use Rattle.std.specs.Fmt.{char_count}
use Rattle.settings_table.specs.declared.table.Setting.{Setting}
use Rattle.settings_table.specs.declared.table.Group.{Group}
use Rattle.settings_table.specs.declared.table.Group.TheVariants.{Global, Extruder, Mesh}
use Rattle.settings_table.specs.Table.{all_settings, group_of}
use Rattle.settings_table.specs.Rows.{Texts, row_of}

-- a text, blanks behind it up to that many characters, and two blanks more
abbrev pub column : ℕ → List ℕ → List ℕ
column width text = text ++ replicate (width - char_count text + 2) 32

-- the unit of a row, or a dash where there is none
abbrev pub unit_or_dash : List ℕ → List ℕ
unit_or_dash [] = codes "-"
unit_or_dash (c ∷ cs) = c ∷ cs

-- the columns of a row: name, unit, range and default
abbrev pub columns : Texts → List ℕ
columns row = codes "  " ++ column 30 row.name ++ column 4 (unit_or_dash row.unit) ++ column 19 row.range ++ row.default

-- a row in two lines: its columns, and what the setting does
abbrev pub entry : Texts → List ℕ
entry row = columns row ++ 10 ∷ codes "      " ++ row.meaning ++ 10 ∷ []

-- whether two groups are the same
abbrev pub is_group : Group → Group → Bool
is_group Global Global = true
is_group Global Extruder = false
is_group Global Mesh = false
is_group Extruder Global = false
is_group Extruder Extruder = true
is_group Extruder Mesh = false
is_group Mesh Global = false
is_group Mesh Extruder = false
is_group Mesh Mesh = true

-- the entry of a setting, where the setting is of the group
abbrev pub entry_in : Group → Setting → List ℕ
entry_in group setting = cond (is_group (group_of setting) group) (entry (row_of setting)) []

-- the entries of those settings that are of the group, in the order of the list
abbrev pub entries : Group → List Setting → List ℕ
entries group [] = []
entries group (setting ∷ settings) = entry_in group setting ++ entries group settings

-- the heading of a group, below an empty line
abbrev pub heading : Group → List ℕ
heading Global = 10 ∷ codes "global: of the whole print" ++ 10 ∷ []
heading Extruder = 10 ∷ codes "extruder: of one extruder; given for the whole print, of all" ++ 10 ∷ []
heading Mesh = 10 ∷ codes "mesh: of one mesh; given for an extruder or the whole print, of all its meshes" ++ 10 ∷ []

-- a group: its heading, and the entries of its settings in the order of the table
unfoldable pub group_text : Group → List ℕ
group_text group = heading group ++ entries group all_settings

-- the whole table, group by group
abbrev pub listing_text : List ℕ
listing_text =
    codes "Name, unit, range and default of each setting." ++ 10 ∷ [] ++ group_text Global ++ group_text Extruder
    ++ group_text Mesh
