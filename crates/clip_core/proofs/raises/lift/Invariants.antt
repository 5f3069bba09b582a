use Rattle.std.proofs.Common.{◌≡◌, ◌*◌, ◌^◌, ◌≤◌, ◌<◌, ℕ, get_or, length}
use Rattle.clip_core.specs.declared.rays.Ray.{Ray}
use Rattle.clip_core.specs.Inner.Small.{AreSmall}
use Rattle.clip_core.specs.Inner.Raises.{raised, ray_at}
use Rattle.clip_core.proofs.raises.lift.Given as goal

abbrev pub invariant-loop-k : goal.invariant-loop-k
invariant-loop-k l = record {
  count : length l.rays.items ≡ length l.fn.rays.items;
  by_is : l.by ≡ raised l.raises l.k;
  by_small : AreSmall (2 ^ 40 * l.k) l.by;
  done : (j : ℕ) (d : Ray) → j < l.k → get_or l.rays.items j d ≡ ray_at l.fn.rays.items l.raises j d;
  left : (j : ℕ) (d : Ray) → l.k ≤ j → j < length l.rays.items → get_or l.rays.items j d ≡ get_or l.fn.rays.items j d;
}
