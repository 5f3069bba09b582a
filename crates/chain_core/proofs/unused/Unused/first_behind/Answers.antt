use Rattle.std.proofs.Common.{ℕ, ◌+◌, ◌*◌, length, arith, sym, subst}
use Rattle.chain_core.specs.Inner.Unused.{known, end_of, IsFirstAt}
use Rattle.chain_core.proofs.Index.{first-behind, odd-within, read-within, read-twice}
use Rattle.chain_core.proofs.unused.Unused.first_behind.Goals as goal

pub index-requires : goal.index-requires
index-requires c =
    let below_end = odd-within c.args.edges.now c.args.self.now.nodes.items c.args.i c.requires.indexed.nodes c.requires.within in
    omega arith

pub index-requires-2 : goal.index-requires-2
index-requires-2 c =
    let h = c.requires.indexed in
    let nodes = c.args.self.now.nodes.items in
    let below = odd-within c.args.edges.now nodes c.args.i h.nodes c.requires.within in
    let below_end = read-within c.args.edges.now nodes c.args.self.now.first.items (2 * c.args.i + 1) c.index.result.now h.nodes h.same_length_first below c.index.ensures in
    omega arith

pub returns : goal.returns
returns c =
    let es = c.args.edges.now in
    let u = c.args.self.now in
    let h = c.requires.indexed in
    let below = odd-within es u.nodes.items c.args.i h.nodes c.requires.within in
    let at = read-twice es u.nodes.items u.first.items (2 * c.args.i + 1) c.index.result.now c.index-2.result.now h.nodes h.same_length_first below c.index.ensures c.index-2.ensures in
    let found = subst (λ (k : ℕ). IsFirstAt es u.used (end_of es c.args.i) (known (length es) k)) (sym at) (first-behind es u c.args.i c.requires.within h) in
    subst (IsFirstAt es u.used (end_of es c.args.i)) (sym c.known.ensures) found
