-- Kinds of values, as the parts of `resolve` ask for them.
use Rattle.std.specs.Prelude.{⊤}
use Rattle.settings_table.specs.declared.table.Kind.{Kind}
use Rattle.settings_table.specs.declared.table.Kind.TheVariants.{Count, Position, Truth, Seam as SeamWord, Code}

-- whether a kind is a number without a sign
abbrev pub IsCount : Kind → Type 0
IsCount (Count range) = ⊤
IsCount Position = ⊥
IsCount (Truth default) = ⊥
IsCount SeamWord = ⊥
IsCount Code = ⊥

-- whether a kind is a truth value
abbrev pub IsTruth : Kind → Type 0
IsTruth (Count range) = ⊥
IsTruth Position = ⊥
IsTruth (Truth default) = ⊤
IsTruth SeamWord = ⊥
IsTruth Code = ⊥
