use Rattle.std.proofs.Common.{◌∙◌, List, length, ap, subst}
use Rattle.clip_core.specs.declared.spots.Spot.{Spot}
use Rattle.clip_core.specs.Inner.Spots.{AreAt}
use Rattle.clip_core.proofs.Spotted.{rays-have, rays-rise}
use Rattle.clip_core.proofs.rays.sorted_rays.Goals as goal

pub returns-clause-count : goal.returns-clause-count
returns-clause-count c = c.in_ok-rays.ensures.at.count ∙ (ap length c.as_slice.ensures.value ∙ c.in_ok-spots.ensures.count)

pub returns-clause-each : goal.returns-clause-each
returns-clause-each c =
    let rays = c.in_ok-rays.rays.items in
    rays-have c.args.bundles.now c.in_ok-spots.spots.items rays (subst (λ (ss : List Spot). AreAt ss rays) c.as_slice.ensures.value c.in_ok-rays.ensures.at) c.in_ok-spots.ensures.each

pub returns-clause-rising : goal.returns-clause-rising
returns-clause-rising c =
    let rays = c.in_ok-rays.rays.items in
    rays-rise c.in_ok-spots.spots.items rays (subst (λ (ss : List Spot). AreAt ss rays) c.as_slice.ensures.value c.in_ok-rays.ensures.at) c.in_ok-spots.ensures.rising
