-- Cuts that fail, named by mesh and layer.
use Rattle.std.specs.Prelude.{ℕ, Result, Ok, Err}

-- a cut of a mesh on a layer that has too many edges, so many
pub record Tangle : Type 0 where
  pub mesh : ℕ
  pub layer : ℕ
  pub count : ℕ

-- what work for this mesh on this layer gives, its failing cut named
abbrev pub named : {A : Type 0} → ℕ → ℕ → Result A ℕ → Result A Tangle
named mesh layer (Ok a) = Ok a
named mesh layer (Err count) = Err (record { mesh = mesh; layer = layer; count = count })
