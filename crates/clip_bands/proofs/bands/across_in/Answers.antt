use Rattle.std.proofs.Common.{ℕ, List, ◌≤◌, ◌<◌, ◌*◌, length, arith, sym, subst}
use Rattle.std.specs.List.{All}
use Rattle.clip_bands.specs.Indices.{holds, indices}
use Rattle.clip_bands.proofs.Blocks.{nothing, block-step, blocks-end}
use Rattle.clip_bands.proofs.Indices.{indices-few, indices-below}
use Rattle.clip_bands.proofs.bands.across_in.Goals as goal

pub find_across-requires-clause-hull : goal.find_across-requires-clause-hull
find_across-requires-clause-hull c = c.requires.hulls.covers c.loop-k.k nothing c.loop-k-test.true

pub loop-k-preserved : goal.loop-k-preserved
loop-k-preserved c = block-step (holds c.args.at.twice) c.args.spans.now c.loop-k.k c.loop-k.found.items c.find_across.new.found.items (indices (holds c.args.at.twice) c.args.spans.now) c.in_ok-find_across.ensures.ok c.loop-k.invariant

pub returns : goal.returns
returns c =
    let spans = c.args.spans.now in
    let over : length spans ≤ 16 * c.loop-k.k = omega (arith, c.requires.hulls.enough, c.loop-k-test.false) in
    let is = blocks-end (holds c.args.at.twice) spans (16 * c.loop-k.k) c.loop-k.found.items (indices (holds c.args.at.twice) spans) over c.loop-k.invariant in
    record {
      exact = is;
      below = subst (λ (found : List ℕ). All (λ index. index < length spans) found) (sym is) (indices-below (holds c.args.at.twice) spans);
      few = subst (λ (found : List ℕ). length found ≤ length spans) (sym is) (indices-few (holds c.args.at.twice) spans);
    }
