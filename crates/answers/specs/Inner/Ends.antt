-- Ends of the line of a job that was generated.
use Rattle.std.specs.Prelude.{ℕ, List, ◌++◌, codes, decimal}
use Rattle.answers.specs.declared.lines.Generated.{Generated}

-- from its preheats on
abbrev pub file_text : Generated → List ℕ
file_text g = codes ", preheats " ++ decimal g.preheats ++ codes ", bytes " ++ decimal g.bytes ++ codes "\n"

-- from its layers on
abbrev pub plan_text : Generated → List ℕ
plan_text g = codes ", layers " ++ decimal g.layers ++ codes ", uses " ++ decimal g.uses ++ file_text g
