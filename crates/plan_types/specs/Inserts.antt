-- Preheats in the plan of a layer.
use Rattle.std.specs.Prelude.{nat_lt, cond, List, [], ◌∷◌, ◌++◌, length}
use Rattle.plan_types.specs.declared.inserts.Insert.{Insert}

-- one preheat more, behind the others, where fewer than 64 are there
abbrev pub with_insert : Insert → List Insert → List Insert
with_insert insert inserts = cond (nat_lt (length inserts) 64) (inserts ++ insert ∷ []) inserts
