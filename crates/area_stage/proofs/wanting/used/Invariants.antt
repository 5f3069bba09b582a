use Rattle.std.proofs.Common.{ℕ, ◌≡◌, drop, bit_or}
use Rattle.std.specs.Prelude.{fold}
use Rattle.std.specs.List.{All}
use Rattle.area_stage.specs.Extruders.{used_of}
use Rattle.area_stage.specs.Inner.Layers.{AreBelow}
use Rattle.area_stage.proofs.wanting.used.Given as goal

abbrev pub invariant-loop-w : goal.invariant-loop-w
invariant-loop-w l = record {
  so_far : fold bit_or l.bits (drop l.w-index l.wanted) ≡ used_of l.wanted;
  known : (n : ℕ) → All (AreBelow n) l.wanted → AreBelow n l.bits;
}
