use Rattle.std.proofs.Common.{◌≡◌, ◌≤◌, ◌<◌, ◌+◌, ◌∙◌, get_or, inl, inr, ◌⊎◌, arith, sym, ap, subst}
use Rattle.clip_core.specs.declared.rays.Ray.{Ray}
use Rattle.clip_core.specs.Inner.Rays.{strip_at}
use Rattle.clip_core.specs.Inner.Starts.{IsFirst}
use Rattle.clip_core.proofs.Shares.{below-or-not}
use Rattle.clip_core.proofs.Stretches.{in-strip}
use Rattle.clip_core.proofs.rays.add_from.Goals as goal

pub add_strip-requires-clause-in_strip : goal.add_strip-requires-clause-in_strip
add_strip-requires-clause-in_strip c k d le lt below =
    let rays = c.args.rays.now.items in
    let i = c.args.i in
    let e = c.index.result.now in
    let same : c.strip_at-strip.result ≡ strip_at (get_or rays i e) = c.strip_at-strip.ensures.exact ∙ ap (λ (r : Ray). strip_at r) c.index.ensures in
    let first = subst (λ n. IsFirst (n + 1) c.first_up.result rays) same (c.first_up.ensures rays c.requires.starts) in
    in-strip rays i c.first_up.result c.max-end.result e c.requires.rising c.requires.inside first (fits (below-or-not i c.first_up.result)) k d le lt below ∙ sym same
  where
    fits : (c.args.i < c.first_up.result) ⊎ (c.first_up.result ≤ c.args.i) → (c.max-end.result ≤ c.first_up.result) ⊎ (c.max-end.result ≤ c.args.i + 1)
    fits (inl g) = inl (omega (arith, g, c.max-end.ensures))
    fits (inr g) = inr (omega (arith, g, c.max-end.ensures))
