-- The states that the reader steps through.
use Rattle.std.specs.Prelude.{Bool, true, false}
use Rattle.stl_text.specs.declared.lines.Line.{Line}
use Rattle.stl_text.specs.declared.lines.Line.TheVariants.{Blank, Solid, Facet, OuterLoop, Vertex, EndLoop, EndFacet, EndSolid}
use Rattle.stl_text.specs.declared.states.State.{State}
use Rattle.stl_text.specs.declared.states.State.TheVariants.{Outside, InSolid, LoopBegins, FirstVertex, SecondVertex, ThirdVertex, LoopEnds, FacetEnds}
use Rattle.stl_text.specs.declared.states.Step.{Step}
use Rattle.stl_text.specs.declared.states.Step.TheVariants.{To, Whole, Bad}

-- where a line leads from a state
abbrev pub step_of : State → Line → Step
step_of state Blank = To state
step_of Outside Solid = To InSolid
step_of InSolid Facet = To LoopBegins
step_of InSolid EndSolid = To Outside
step_of LoopBegins OuterLoop = To FirstVertex
step_of FirstVertex (Vertex a) = To (SecondVertex a)
step_of (SecondVertex a) (Vertex b) = To (ThirdVertex a b)
step_of (ThirdVertex a b) (Vertex c) = To (LoopEnds (record { a = a; b = b; c = c }))
step_of (LoopEnds t) EndLoop = To (FacetEnds t)
step_of (FacetEnds t) EndFacet = Whole t
step_of state line = Bad

-- a text may end at this state
abbrev pub is_end : State → Bool
is_end Outside = true
is_end InSolid = true
is_end state = false
