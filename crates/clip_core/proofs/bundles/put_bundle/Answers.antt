use Rattle.std.proofs.Common.{rules, ◌≡◌, map}
use Rattle.std.specs.Ordering.{int_eq}
use Rattle.clip_core.specs.contracts.bundles.EndsPartialEq.TheImpl.{eq-value}
use Rattle.clip_core.specs.Inner.Found.{ends_of}
use Rattle.clip_core.proofs.Lookup.{put-new, put-old, four}
use Rattle.clip_core.proofs.Finding.{ends-pushed, at-ends}
use Rattle.clip_core.proofs.bundles.put_bundle.Goals as goal

pub returns-in_ok-push-clause-ok : goal.returns-in_ok-push-clause-ok
returns-in_ok-push-clause-ok c =
    put-new eq-value.it (λ b d. four (int_eq b.low.x d.low.x) (int_eq b.low.y d.low.y) (int_eq b.high.x d.high.x) (int_eq b.high.y d.high.y)) c.args.b c.args.bundles.now.items c.args.found.now.keys c.push.new.self.items c.ends_of.result c.in_ok-index.is_new c.requires c.ends_of.ensures c.in_ok-index.ensures.added c.if-is_new.true c.in_ok-push.ensures.items

pub returns-in_ok-push-clause-index : goal.returns-in_ok-push-clause-index
returns-in_ok-push-clause-index c =
    let same = ends-pushed eq-value.it c.args.b c.args.bundles.now.items c.push.new.self.items c.args.found.now.keys c.insert_full.new.self.keys c.ends_of.result c.in_ok-index.is_new c.requires c.ends_of.ensures c.in_ok-index.ensures.added c.if-is_new.true c.in_ok-index.ensures.keys c.in_ok-push.ensures.items in
    let stored = c.in_ok-index.ensures.stored in
    at-ends eq-value.it (λ b d. four (int_eq b.low.x d.low.x) (int_eq b.low.y d.low.y) (int_eq b.high.x d.high.x) (int_eq b.high.y d.high.y)) c.args.b c.push.new.self.items c.insert_full.new.self.keys c.ends_of.result stored.0 c.in_ok-index.index same c.ends_of.ensures stored.1 stored.2

pub returns-else-is_new-clause-ok : goal.returns-else-is_new-clause-ok
returns-else-is_new-clause-ok c =
    put-old eq-value.it (λ b d. four (int_eq b.low.x d.low.x) (int_eq b.low.y d.low.y) (int_eq b.high.x d.high.x) (int_eq b.high.y d.high.y)) c.args.b c.args.bundles.now.items c.args.found.now.keys c.ends_of.result c.in_ok-index.is_new c.requires c.ends_of.ensures c.in_ok-index.ensures.added c.if-is_new.false

pub returns-else-is_new-clause-index : goal.returns-else-is_new-clause-index
returns-else-is_new-clause-index c =
    let same : c.insert_full.new.self.keys ≡ map ends_of c.args.bundles.now.items = search rules in
    let stored = c.in_ok-index.ensures.stored in
    at-ends eq-value.it (λ b d. four (int_eq b.low.x d.low.x) (int_eq b.low.y d.low.y) (int_eq b.high.x d.high.x) (int_eq b.high.y d.high.y)) c.args.b c.args.bundles.now.items c.insert_full.new.self.keys c.ends_of.result stored.0 c.in_ok-index.index same c.ends_of.ensures stored.1 stored.2
