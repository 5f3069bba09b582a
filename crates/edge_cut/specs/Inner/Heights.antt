-- The heights and widths of edges.
use Rattle.std.specs.Prelude.{cond, int_le}
use Rattle.slice_base.specs.declared.points.Edge.{Edge}
use Rattle.clip_bands.specs.declared.bands.Span.{Span}

-- the heights of an edge
abbrev pub height_of : Edge → Span
height_of e =
    cond (int_le e.from.y e.to.y) (record { low = e.from.y; high = e.to.y }) (record { low = e.to.y; high = e.from.y })

-- from its left end to its right one
abbrev pub width_of : Edge → Span
width_of e =
    cond (int_le e.from.x e.to.x) (record { low = e.from.x; high = e.to.x }) (record { low = e.to.x; high = e.from.x })
