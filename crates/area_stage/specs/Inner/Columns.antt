-- What lies inside walls, mesh by mesh.
use Rattle.std.specs.Prelude.{ℕ, zero, suc, List, [], ◌∷◌, ◌++◌}
use Rattle.slice_base.specs.Shapes.{Loops}
use Rattle.wall_skin.specs.declared.walling.WallSet.{WallSet}

-- what lies inside the walls of each mesh on one more layer, behind that on the layers before it
abbrev pub lengthened : List (List Loops) → List WallSet → List (List Loops)
lengthened [] sets = []
lengthened (column ∷ columns) [] = []
lengthened (column ∷ columns) (set ∷ sets) = (column ++ set.inner ∷ []) ∷ lengthened columns sets

-- the same on more layers
abbrev pub lengthened_by : List (List Loops) → List (List WallSet) → List (List Loops)
lengthened_by columns [] = columns
lengthened_by columns (sets ∷ more) = lengthened_by (lengthened columns sets) more

-- of so many meshes, nothing yet
abbrev pub no_columns : ℕ → List (List Loops)
no_columns zero = []
no_columns (suc n) = [] ∷ no_columns n
