use Rattle.std.proofs.Common.{◌≡◌, ◌∙◌, List, map, Some, None, pos, sym, ap, subst}
use Rattle.std.specs.List.{All, position}
use Rattle.slice_base.specs.Boxes.{TriIn, TriOver, TriUnder}
use Rattle.slice_base.specs.declared.points.Tri.{Tri}
use Rattle.settings_core.specs.Valid.{IsPrintInRange}
use Rattle.mesh_placing.specs.Extents.{extent_of}
use Rattle.mesh_placing.specs.Inner.Moves.{shifted}
use Rattle.mesh_placing.specs.Places.{moved as moved_tri, placed}
use Rattle.mesh_placing.specs.Volume.{bed_of, excess_of, first_outside, leaves}
use Rattle.mesh_placing.proofs.Outsides.{all-near, all-on_bed, all-over, all-under, outside-is, outside-none, outside-some, placed-is}
use Rattle.mesh_placing.proofs.Shifts.{extent-moved}
use Rattle.mesh_placing.proofs.placing.put_in_place.Goals as goal

pub move_all-requires-clause-inside : goal.move_all-requires-clause-inside
move_all-requires-clause-inside c =
    let ranges : IsPrintInRange c.args.settings.now = subst IsPrintInRange c.settings.view_is c.settings.invariant.whole_print in
    all-near c.args.settings.now c.shift_of-by.result c.args.tris.now ranges (sym c.first_leaving.ensures ∙ c.in-None.is)

pub returns-in-Some-clause-outside : goal.returns-in-Some-clause-outside
returns-in-Some-clause-outside c =
    let s = c.args.settings.now in
    let ts = c.args.tris.now in
    let by = c.shift_of-by.result in
    let found : position (λ t. leaves c.args.settings.now (moved_tri c.shift_of-by.result t)) c.args.tris.now ≡ Some c.in-Some.triangle = sym c.first_leaving.ensures ∙ c.in-Some.is in
    let in_place : placed c.args.settings.now c.args.mesh c.args.tris.now ≡ map (moved_tri c.shift_of-by.result) c.args.tris.now = placed-is s c.args.mesh c.mesh_settings-own.result ts by c.mesh_settings-own.ensures c.shift_of-by.ensures.exact in
    let extent : shifted c.shift_of-by.result (extent_of c.args.tris.now) ≡ extent_of (placed c.args.settings.now c.args.mesh c.args.tris.now) = extent-moved by (λ t. leaves s (moved_tri by t)) ts c.in-Some.triangle found ∙ ap extent_of (sym in_place) in
    let reaches : c.excess_of.result ≡ excess_of c.args.settings.now (extent_of (placed c.args.settings.now c.args.mesh c.args.tris.now)) = c.excess_of.ensures ∙ ap (excess_of s) (ap (shifted by) c.extent_of.ensures ∙ extent) in
    outside-some (first_outside c.args.settings.now (placed c.args.settings.now c.args.mesh c.args.tris.now)) c.in-Some.triangle
    c.excess_of.result (excess_of c.args.settings.now (extent_of (placed c.args.settings.now c.args.mesh c.args.tris.now)))
    (outside-is s c.args.mesh c.mesh_settings-own.result ts by c.mesh_settings-own.ensures c.shift_of-by.ensures.exact ∙ found)
    reaches

-- no triangle lies outside
none : (c : goal.After-tris-1) → first_outside c.args.settings.now (placed c.args.settings.now c.args.mesh c.args.tris.now) ≡ None
none c = outside-is c.args.settings.now c.args.mesh c.mesh_settings-own.result c.args.tris.now c.shift_of-by.result c.mesh_settings-own.ensures c.shift_of-by.ensures.exact ∙ sym c.first_leaving.ensures ∙ c.in-None.is

-- all triangles were moved to their place
moved : (c : goal.After-tris-1) → c.move_all.new.tris ≡ placed c.args.settings.now c.args.mesh c.args.tris.now
moved c = c.move_all.ensures ∙ sym (placed-is c.args.settings.now c.args.mesh c.mesh_settings-own.result c.args.tris.now c.shift_of-by.result c.mesh_settings-own.ensures c.shift_of-by.ensures.exact)

pub returns-in-None-clause-outside : goal.returns-in-None-clause-outside
returns-in-None-clause-outside c = outside-none (first_outside c.args.settings.now (placed c.args.settings.now c.args.mesh c.args.tris.now)) (excess_of c.args.settings.now (extent_of (placed c.args.settings.now c.args.mesh c.args.tris.now))) (none c)

pub returns-in-None-clause-moved : goal.returns-in-None-clause-moved
returns-in-None-clause-moved c = moved c

pub returns-in-None-clause-inside : goal.returns-in-None-clause-inside
returns-in-None-clause-inside c = none c

pub returns-in-None-clause-on_bed : goal.returns-in-None-clause-on_bed
returns-in-None-clause-on_bed c = subst (λ (ts : List Tri). All (TriIn (bed_of c.args.settings.now)) ts) (sym (moved c)) (all-on_bed c.args.settings.now (placed c.args.settings.now c.args.mesh c.args.tris.now) (none c))

pub returns-in-None-clause-over_bed : goal.returns-in-None-clause-over_bed
returns-in-None-clause-over_bed c = subst (λ (ts : List Tri). All (TriOver (pos 0)) ts) (sym (moved c)) (all-over c.args.settings.now (placed c.args.settings.now c.args.mesh c.args.tris.now) (none c))

pub returns-in-None-clause-under_top : goal.returns-in-None-clause-under_top
returns-in-None-clause-under_top c = subst (λ (ts : List Tri). All (TriUnder (pos c.args.settings.now.machine_height)) ts) (sym (moved c)) (all-under c.args.settings.now (placed c.args.settings.now c.args.mesh c.args.tris.now) (none c))
