-- Counts of faults that never fall.
use Rattle.std.proofs.Common.{ℕ, ◌≤◌, arith}
use Rattle.slice_base.specs.Causes.{Rose}

pub rose_later : (a b c : ℕ) → a ≤ b → Rose b c → Rose a c
rose_later a b c le r = omega (arith, le, r)
