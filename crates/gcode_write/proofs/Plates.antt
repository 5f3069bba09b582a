-- What the tests need of their jobs and plans.
use Rattle.std.proofs.Common.{ℕ, ℤ, ◌≡◌, ◌+◌, ◌*◌, ◌/◌, ◌%◌, ◌^◌, ◌<◌, ◌≤◌, ◌==◌, Bool, true, false, List, [], ◌∷◌, ◌++◌, length, sym, ap, ◌∙◌, subst, refl, inl, inr, arith}
use Rattle.std.specs.Prelude.{◌⊎◌}
use Rattle.std.specs.List.{All, sum_by, count_by}
use Rattle.std.specs.Int.RustNames.{unsigned_abs}
use Rattle.std.proofs.lemmas.List.Elements.{All-cons, All-nil, All-append}
use Rattle.std.proofs.lemmas.List.Sums.{sum_by-cons}
use Rattle.std.proofs.lemmas.Nat.{mul-le}
use Rattle.std.proofs.lemmas.Bool.{cases_lt}
use Rattle.std.proofs.Math.Pow.{pow_mono}
use Rattle.std.proofs.Math.Nat.{div-eq_of_lt}
use Rattle.slice_base.specs.declared.points.Pt.{Pt}
use Rattle.slice_base.specs.Plane.{square_of}
use Rattle.slice_base.specs.Whole.{root_of}
use Rattle.settings_core.specs.Values.{SettingsValue}
use Rattle.plan_types.specs.declared.jobs.LayerAreas.{LayerAreas}
use Rattle.plan_types.specs.Areas.{IsLoop}
use Rattle.plan_types.specs.Extruders.{has_bit}
use Rattle.plan_types.specs.Jobs.{IsLayer, IsJob}
use Rattle.plan_types.specs.Paths.{PathValue}
use Rattle.plan_types.specs.Plans.{moves_of, volume_of, length_along}
use Rattle.gcode_write.proofs.Walks.{time_of}

pub plain_layer : (s : SettingsValue) (l : LayerAreas) → length l.meshes ≡ 1 → l.order ≡ [] → unsigned_abs l.thickness ≤ 2000 → length s.meshes ≡ 1 → IsLayer s l
plain_layer s l one none thin meshes = record {
  meshes_are = one ∙ sym meshes;
  known = subst (All (λ (e : ℕ). e < length s.extruders)) (sym none) (All-nil (λ (e : ℕ). e < length s.extruders));
  once = λ e. omega (arith, ap (count_by (λ k. k == e)) none);
  thin = thin;
}

no_such_bit : (q : ℕ) → q ≡ 0 → (q % 2 == 1) ≡ true → ⊥
no_such_bit q e h = let wrong : (0 % 2 == 1) ≡ true = subst (λ z. (z % 2 == 1) ≡ true) e h in cc

bit_cases : (used n e : ℕ) → used < 2 ^ n → has_bit used e ≡ true → (e < n) ⊎ (n ≤ e) → e < n
bit_cases used n e small h (inl below) = below
bit_cases used n e small h (inr above) =
    absurd (no_such_bit (used / 2 ^ e) (div-eq_of_lt (omega (arith, small, pow_mono {i = n} {j = e} above))) h)

bit_below : (used n e : ℕ) → used < 2 ^ n → has_bit used e ≡ true → e < n
bit_below used n e small h = bit_cases used n e small h (cases_lt e n)

pub plain_job : (s : SettingsValue) (l m : LayerAreas) (start one layers : List LayerAreas) (skirt : List (List Pt)) (used n : ℕ) →
    IsLayer s l → IsLayer s m → start ≡ [] → one ≡ start ++ l ∷ [] → layers ≡ one ++ m ∷ [] → skirt ≡ [] →
    length s.meshes ≡ 1 → length s.extruders ≡ n → 1 ≤ n → used < 2 ^ n → IsJob s layers skirt 0 used
plain_job s l m start one layers skirt used n is_l is_m e0 e1 e2 none meshes extruders some small =
    let is = IsLayer s in
    let first : All is start = subst (All is) (sym e0) (All-nil is) in
    let second : All is one = subst (All is) (sym e1) (All-append is start (l ∷ []) first (All-cons is l [] is_l (All-nil is))) in
    let third : All is layers = subst (All is) (sym e2) (All-append is one (m ∷ []) second (All-cons is m [] is_m (All-nil is))) in
    let two : length layers ≡ 2 = ap length (e2 ∙ ap (λ (o : List LayerAreas). o ++ m ∷ []) (e1 ∙ ap (λ (o : List LayerAreas). o ++ l ∷ []) e0)) in
    record {
      some = omega (arith, meshes);
      few = omega (arith, two);
      layers_are = third;
      skirt_is = subst (All (IsLoop 1600000)) (sym none) (All-nil (IsLoop 1600000));
      first_is = omega (arith, extruders, some);
      used_are = λ e h. subst (λ k. e < k) (sym extruders) (bit_below used n e small h);
    }

-- a wall round four points, of a line not wider than 0.4 mm and not higher than 2 mm
pub wall_small : (start ps : List PathValue) (p : PathValue) (a b c d : Pt) → start ≡ [] → ps ≡ start ++ p ∷ [] → p.points ≡ a ∷ b ∷ c ∷ d ∷ a ∷ [] →
    unsigned_abs p.width ≤ 400 → unsigned_abs p.thickness ≤ 2000 → p.time < 2 ^ 64 →
    root_of (square_of a b) ≤ 5656855 → root_of (square_of b c) ≤ 5656855 → root_of (square_of c d) ≤ 5656855 → root_of (square_of d a) ≤ 5656855 →
    (sum_by moves_of ps ≤ 4) × (sum_by volume_of ps ≤ 2 ^ 60) × (sum_by time_of ps < 2 ^ 64)
wall_small start ps p a b c d e0 e1 points width thickness time ab bc cd da =
    let is : ps ≡ p ∷ [] = e1 ∙ ap (λ (o : List PathValue). o ++ p ∷ []) e0 in
    let moves : sum_by moves_of ps ≡ moves_of p + 0 = ap (sum_by moves_of) is ∙ sum_by-cons moves_of p [] in
    let volumes : sum_by volume_of ps ≡ volume_of p + 0 = ap (sum_by volume_of) is ∙ sum_by-cons volume_of p [] in
    let times : sum_by time_of ps ≡ time_of p + 0 = ap (sum_by time_of) is ∙ sum_by-cons time_of p [] in
    let count : length p.points ≡ 5 = ap length points in
    let along : length_along p.points ≡ root_of (square_of a b) + (root_of (square_of b c) + (root_of (square_of c d) + (root_of (square_of d a) + 0))) = ap length_along points in
    let across = mul-le (unsigned_abs p.width) (unsigned_abs p.thickness) 400 2000 width thickness in
    let filled = mul-le (length_along p.points) (unsigned_abs p.width * unsigned_abs p.thickness) 22627420 (400 * 2000) (omega (arith, along, ab, bc, cd, da)) across in
    (omega (arith, moves, count), omega (arith, volumes, filled), omega (arith, times, time))
