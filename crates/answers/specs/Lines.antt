-- The lines that the console gets.
use Rattle.std.specs.Prelude.{ℕ, List, ◌++◌, codes, decimal}
use Rattle.settings_core.specs.declared.pairs.Scope.{Scope}
use Rattle.settings_core.specs.declared.pairs.Scope.TheVariants as scope
use Rattle.answers.specs.declared.lines.Step.{Step}
use Rattle.answers.specs.declared.lines.Step.TheVariants as step
use Rattle.answers.specs.declared.lines.Generated.{Generated}
use Rattle.answers.specs.declared.refusal.Refusal.{Refusal}
use Rattle.answers.specs.declared.refusal.Refusal.TheVariants as refusal

-- what a pair of key and value speaks of
abbrev pub scope_text : Scope → List ℕ
scope_text scope.Global = codes "global"
scope_text (scope.Extruder n) = codes "extruder " ++ decimal n
scope_text (scope.Mesh i) = codes "mesh " ++ decimal i

-- where cutting gave too many edges, and how many
abbrev pub tangle_text : ℕ → ℕ → ℕ → List ℕ
tangle_text mesh layer n =
    codes "too tangled: mesh " ++ decimal mesh ++ codes " layer " ++ decimal layer ++ codes " count " ++ decimal n

-- why the job wasn't done
abbrev pub refusal_text : Refusal → List ℕ
refusal_text (refusal.BadWord n) = codes "bad word " ++ decimal n
refusal_text refusal.NoInput = codes "no input"
refusal_text refusal.NoOutput = codes "no output"
refusal_text (refusal.ReadFault name) = codes "cannot read " ++ name
refusal_text (refusal.TooLong name) = codes "too long: " ++ name
refusal_text (refusal.NotJson name) = codes "not a settings file: " ++ name
refusal_text (refusal.BadValue scope key) = codes "bad value: " ++ scope_text scope ++ codes " " ++ key
refusal_text (refusal.OutOfRange scope key) = codes "out of range: " ++ scope_text scope ++ codes " " ++ key
refusal_text (refusal.UnknownExtruder i) = codes "unknown extruder: mesh " ++ decimal i
refusal_text (refusal.BadStl i line) = codes "bad STL: mesh " ++ decimal i ++ codes " line " ++ decimal line
refusal_text (refusal.NoTriangles i) = codes "no triangles: mesh " ++ decimal i
refusal_text (refusal.TooManyTriangles i n) =
    codes "too many triangles: mesh " ++ decimal i ++ codes " count " ++ decimal n
refusal_text (refusal.OutsideVolume i n excess) =
    codes "outside the volume: mesh " ++ decimal i ++ codes " triangle " ++ decimal n
refusal_text refusal.NoLayers = codes "no layers"
refusal_text (refusal.TooManyLayers n) = codes "too many layers: " ++ decimal n
refusal_text (refusal.TooTangled i layer n) = tangle_text i layer n
refusal_text refusal.NoMemory = codes "out of memory"
refusal_text refusal.WriteFault = codes "cannot write"
refusal_text refusal.ConsoleFault = codes "cannot write to the console"

-- the line of a job that was refused
abbrev pub refusal_line : Refusal → List ℕ
refusal_line r = codes "error: " ++ refusal_text r ++ codes "\n"

-- the line of a job that was sliced, with so many layers
abbrev pub done_line : ℕ → List ℕ
done_line n = codes "sliced " ++ decimal n ++ codes " layers\n"

-- the line of a job that was checked, with so many layers
abbrev pub checked_line : ℕ → List ℕ
checked_line n = codes "checked " ++ decimal n ++ codes " layers\n"

-- what a worker did with a layer
abbrev pub step_text : Step → List ℕ
step_text step.Claim = codes "claim "
step_text step.Place = codes "place "
step_text step.Take = codes "take "
step_text step.Back = codes "back "

-- the line of the journal that tells what a worker did with a layer
abbrev pub step_line : Step → ℕ → ℕ → List ℕ
step_line s worker layer = step_text s ++ decimal worker ++ codes " " ++ decimal layer ++ codes "\n"

-- the line of a job that was generated
abbrev pub generated_line : Generated → List ℕ
generated_line g =
    codes "gen " ++ decimal g.number ++ codes ": triangles " ++ decimal g.triangles ++ codes ", layers "
    ++ decimal g.layers
    ++ codes ", uses " ++ decimal g.uses ++ codes ", preheats " ++ decimal g.preheats ++ codes ", bytes "
    ++ decimal g.bytes ++ codes "\n"
