-- What holds of all points of the chains holds of all points of the loops.
use Rattle.std.proofs.Common.{ℕ, suc, zero, ◌≡◌, ◌-◌, Bool, true, false, cond, List, [], ◌∷◌, length, take, drop, get_or, set, Option, Some, None, sym, ◌∙◌, ap, subst, arith}
use Rattle.std.specs.Prelude.{◌==◌}
use Rattle.std.specs.List.{All, remove}
use Rattle.std.proofs.lemmas.List.Elements.{All-set, All-take, All-drop, All-append, All-cons, All-nil, All-filter}
use Rattle.slice_base.specs.declared.points.Pt.{Pt}
use Rattle.slice_base.specs.Shapes.{Loops}
use Rattle.stitch_core.specs.declared.gaps.Gap.{Gap}
use Rattle.stitch_core.specs.Gaps.{least_gap}
use Rattle.stitch_core.specs.Stitch.{Joining, doubled, looped, lengthened, with_loop, with_joint, closed_up, by_gap, joined, is_loop, loops_of}

-- P holds of all points
record Holds (P : Pt → Type 0) (s : Joining) : Type 0 where
  loops : All (All P) s.loops
  chains : All (All P) s.chains

at_rank : (P : Pt → Type 0) (cs : List (List Pt)) (i : ℕ) → All (All P) cs → All P (get_or cs i [])
at_rank P [] i h = All-nil P
at_rank P (c ∷ cs) zero h = h 0 c (omega arith)
at_rank P (c ∷ cs) (suc i) h = at_rank P cs i (λ k d below. h (suc k) d (omega arith))

taken_out : (P : Pt → Type 0) (cs : List (List Pt)) (i : ℕ) → All (All P) cs → All (All P) (remove cs i)
taken_out P cs i h = All-append (All P) (take i cs) (drop (suc i) cs) (All-take (All P) i cs h) (All-drop (All P) (suc i) cs h)

closed_up-holds : (P : Pt → Type 0) (g : Gap) (s : Joining) → Holds P s → Holds P (closed_up g s)
closed_up-holds P g s h = by_test (g.from == g.to)
  where
    by_test : (b : Bool) → Holds P (cond {A = Joining} b (with_loop g s) (with_joint g s))
    by_test true =
        let c = get_or s.chains g.from [] in
        record {
          loops = All-append (All P) s.loops (looped g c ∷ []) h.loops (All-cons (All P) (looped g c) [] (All-take P (length c - doubled g) c (at_rank P s.chains g.from h.chains)) (All-nil (All P)));
          chains = taken_out P s.chains g.from h.chains;
        }
    by_test false =
        let c = get_or s.chains g.from [] in
        let d = get_or s.chains g.to [] in
        record {
          loops = h.loops;
          chains = taken_out P (set s.chains g.from (lengthened g c d)) g.to
              (All-set (All P) s.chains g.from (lengthened g c d) (All-append P c (drop (doubled g) d) (at_rank P s.chains g.from h.chains) (All-drop P (doubled g) d (at_rank P s.chains g.to h.chains))) h.chains);
        }

joined-holds : (P : Pt → Type 0) (n : ℕ) (s : Joining) → Holds P s → Holds P (joined n s)
unfolding joined
joined-holds P zero s h = h
joined-holds P (suc n) s h = by_found (least_gap s.chains) (λ g. joined-holds P n (closed_up g s) (closed_up-holds P g s h))
  where
    by_found : (o : Option Gap) → ((g : Gap) → Holds P (joined n (closed_up g s))) → Holds P (by_gap o s (λ g. joined n (closed_up g s)))
    by_found None next = h
    by_found (Some g) next = next g

-- what is left of the loops
pub loops-hold : (P : Pt → Type 0) → (n : ℕ) → (s t : Joining) → (loops kept : Loops) → All (All P) s.loops → All (All P) s.chains → t ≡ joined n s → loops ≡ t.loops → kept ≡ loops_of loops → All (All P) kept
loops-hold P n s t loops kept hl hc et el ek =
    let h = joined-holds P n s (record { loops = hl; chains = hc }) in
    let e : kept ≡ loops_of (joined n s).loops = ek ∙ ap loops_of (el ∙ ap (λ (j : Joining). j.loops) et) in
    subst (λ (ls : Loops). All (All P) ls) (sym e) (All-filter is_loop (All P) (joined n s).loops h.loops)
