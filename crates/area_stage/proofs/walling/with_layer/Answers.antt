use Rattle.std.proofs.Common.{◌≡◌, ◌∙◌, ℕ, cond, List, pos, arith, subst}
use Rattle.slice_base.specs.declared.points.Pt.{Pt}
use Rattle.std.specs.Prelude.{◌==◌}
use Rattle.slice_base.specs.Outcomes.{each_ok}
use Rattle.slice_base.proofs.Outcomes.{up_to-ok, up_to-length}
use Rattle.cross_section.specs.Planes.{plane_of}
use Rattle.area_stage.specs.Outlines.{cleaned_of}
use Rattle.area_stage.specs.Walls.{layer_walls_of}
use Rattle.area_stage.proofs.WallSteps.{kept-is, open-more}
use Rattle.area_stage.proofs.walling.with_layer.Goals as goal

counted : (k n : ℕ) (old new kept : List (List (List Pt))) → k ≡ n → kept ≡ cond (k == 0) new old → kept ≡ cond (n == 0) new old
counted k n old new kept e h = subst (λ (j : ℕ). kept ≡ cond (j == 0) new old) e h

pub returns : goal.returns
returns c = λ s meshes n w l.
    let k : c.len-count.result ≡ n = c.len-count.ensures ∙ up_to-length (layer_walls_of s meshes) n c.args.walls.sets w.sets in
    record {
      sets = up_to-ok (layer_walls_of s meshes) n c.args.walls.sets c.push.new.self c.args.layer.sets w.sets l.sets c.in_ok-push.ensures.ok;
      outlines = λ some. kept-is (each_ok (cleaned_of (pos (plane_of s 0))) meshes) n c.args.walls.outlines c.args.layer.outlines c.kept_outlines.result
          (counted c.len-count.result n c.args.walls.outlines c.args.layer.outlines c.kept_outlines.result k c.kept_outlines.ensures) w.outlines l.outlines;
      open_outlines = open-more s meshes n c.args.walls.open_outlines c.args.layer.open_outlines w.open_outlines l.open_outlines;
      few = omega (arith, w.few, l.few);
    }
