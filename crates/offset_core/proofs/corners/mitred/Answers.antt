use Rattle.std.proofs.Common.{rules, ◌≡◌, ◌*◌, ◌≤◌, w32, ℤ, FitsSigned, arith, sym, subst, unsigned_abs}
use Rattle.std.proofs.lemmas.Int.{ints, to_z-of_z}
use Rattle.offset_core.specs.Corners.{mitre_of}
use Rattle.offset_core.proofs.Mitres.{mitre_of-le, mitre_of-le_y, near_le, reach_positive}
use Rattle.offset_core.proofs.corners.mitred.Goals as goal

pub mitre-requires-clause-positive : goal.mitre-requires-clause-positive
mitre-requires-clause-positive c = reach_positive c.args.d.by c.args.reach.sum c.requires.some (near_le c.args.d.by c.args.reach.sum c.requires.near)

pub mitre-requires-clause-near : goal.mitre-requires-clause-near
mitre-requires-clause-near c =
    let fm : FitsSigned w32 c.args.m.x = search rules in
    let fn : FitsSigned w32 c.args.n.x = search rules in
    let t = mitre_of-le c.args.d.by c.args.m.x c.args.n.x c.args.m.y c.args.n.y c.args.reach.sum c.requires.some c.requires.m_in.x_in c.requires.n_in.x_in c.requires.m_in.y_in c.requires.n_in.y_in c.requires.is (near_le c.args.d.by c.args.reach.sum c.requires.near) in
    simp to_z-of_z (omega (arith, t, c.requires.d_small))

pub mitre-requires-2-clause-positive : goal.mitre-requires-2-clause-positive
mitre-requires-2-clause-positive c = reach_positive c.args.d.by c.args.reach.sum c.requires.some (near_le c.args.d.by c.args.reach.sum c.requires.near)

pub mitre-requires-2-clause-near : goal.mitre-requires-2-clause-near
mitre-requires-2-clause-near c =
    let fm : FitsSigned w32 c.args.m.y = search rules in
    let fn : FitsSigned w32 c.args.n.y = search rules in
    let t = mitre_of-le_y c.args.d.by c.args.m.x c.args.n.x c.args.m.y c.args.n.y c.args.reach.sum c.requires.some c.requires.m_in.x_in c.requires.n_in.x_in c.requires.m_in.y_in c.requires.n_in.y_in c.requires.is (near_le c.args.d.by c.args.reach.sum c.requires.near) in
    simp to_z-of_z (omega (arith, t, c.requires.d_small))

within : (d a b r z : ℤ) → z ≡ mitre_of d r a b → unsigned_abs (mitre_of d r a b) ≤ 3 * unsigned_abs d → unsigned_abs z ≤ 3 * unsigned_abs d
within d a b r z is h = subst (λ (k : ℤ). unsigned_abs k ≤ 3 * unsigned_abs d) (sym is) h

pub shifted-requires-clause-n_in : goal.shifted-requires-clause-n_in
shifted-requires-clause-n_in c =
    let fmx : FitsSigned w32 c.args.m.x = search rules in
    let fnx : FitsSigned w32 c.args.n.x = search rules in
    let fmy : FitsSigned w32 c.args.m.y = search rules in
    let fny : FitsSigned w32 c.args.n.y = search rules in
    let near = near_le c.args.d.by c.args.reach.sum c.requires.near in
    let tx = mitre_of-le c.args.d.by c.args.m.x c.args.n.x c.args.m.y c.args.n.y c.args.reach.sum c.requires.some c.requires.m_in.x_in c.requires.n_in.x_in c.requires.m_in.y_in c.requires.n_in.y_in c.requires.is near in
    let ty = mitre_of-le_y c.args.d.by c.args.m.x c.args.n.x c.args.m.y c.args.n.y c.args.reach.sum c.requires.some c.requires.m_in.x_in c.requires.n_in.x_in c.requires.m_in.y_in c.requires.n_in.y_in c.requires.is near in
    let ex = simp to_z-of_z at c.mitre.ensures in
    let ey = simp to_z-of_z at c.mitre-2.ensures in
    let x = within c.args.d.by c.args.m.x c.args.n.x c.args.reach.sum c.mitre.result ex tx in
    let y = within c.args.d.by c.args.m.y c.args.n.y c.args.reach.sum c.mitre-2.result ey ty in
    record { x_in = omega (arith, ints, x, c.requires.d_small); y_in = omega (arith, ints, y, c.requires.d_small) }

pub returns-clause-near : goal.returns-clause-near
returns-clause-near c =
    let fmx : FitsSigned w32 c.args.m.x = search rules in
    let fnx : FitsSigned w32 c.args.n.x = search rules in
    let fmy : FitsSigned w32 c.args.m.y = search rules in
    let fny : FitsSigned w32 c.args.n.y = search rules in
    let near = near_le c.args.d.by c.args.reach.sum c.requires.near in
    let tx = mitre_of-le c.args.d.by c.args.m.x c.args.n.x c.args.m.y c.args.n.y c.args.reach.sum c.requires.some c.requires.m_in.x_in c.requires.n_in.x_in c.requires.m_in.y_in c.requires.n_in.y_in c.requires.is near in
    let ty = mitre_of-le_y c.args.d.by c.args.m.x c.args.n.x c.args.m.y c.args.n.y c.args.reach.sum c.requires.some c.requires.m_in.x_in c.requires.n_in.x_in c.requires.m_in.y_in c.requires.n_in.y_in c.requires.is near in
    let ex = simp to_z-of_z at c.mitre.ensures in
    let ey = simp to_z-of_z at c.mitre-2.ensures in
    let x = within c.args.d.by c.args.m.x c.args.n.x c.args.reach.sum c.mitre.result ex tx in
    let y = within c.args.d.by c.args.m.y c.args.n.y c.args.reach.sum c.mitre-2.result ey ty in
    c.shifted.ensures.near (3 * unsigned_abs c.args.d.by) (record { x_in = omega (arith, ints, x, c.requires.d_small); y_in = omega (arith, ints, y, c.requires.d_small) })
