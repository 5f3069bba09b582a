-- The stops of an edge before they are put in order.
use Rattle.std.specs.declared.cmp.Ordering.{Ordering}
use Rattle.std.specs.Prelude.{List, [], ◌∷◌, ◌++◌, map}
use Rattle.std.specs.Ordering.{int_cmp, on, then_cmp}
use Rattle.slice_base.specs.declared.points.Edge.{Edge}
use Rattle.edge_cut.specs.declared.stops.Stop.{Stop}
use Rattle.edge_cut.specs.declared.passes.Marked.{Marked}
use Rattle.edge_cut.specs.declared.meetings.Meeting.{Meeting}
use Rattle.edge_cut.specs.Meeting.{meeting_of}
use Rattle.edge_cut.specs.Stops.{stop_at}

-- by how far along the edge, then by x, then by y
abbrev pub order_of : Stop → Stop → Ordering
order_of = then_cmp (on (λ s. s.along) int_cmp) (then_cmp (on (λ s. s.at.x) int_cmp) (on (λ s. s.at.y) int_cmp))

-- the stops of e at its meeting points with these edges, edge by edge
abbrev pub meeting_stops : Edge → List Marked → List Stop
meeting_stops e [] = []
meeting_stops e (m ∷ ms) = map (stop_at e) (meeting_of e m.edge) ++ meeting_stops e ms

-- the ends of e, and its meeting points with these edges
abbrev pub gathered : Edge → List Marked → List Stop
gathered e ms = stop_at e e.from ∷ stop_at e e.to ∷ meeting_stops e ms

-- the ends of e, and these meeting points
abbrev pub gathered_at : Edge → List Meeting → List Stop
gathered_at e some = stop_at e e.from ∷ stop_at e e.to ∷ map (λ m. stop_at e m.at) some

-- the ends of e alone
abbrev pub end_stops : Edge → List Stop
end_stops e = stop_at e e.from ∷ stop_at e e.to ∷ []
