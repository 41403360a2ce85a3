-- `vmnorm` meets its contract. The invariants: the entries that are left give the whole norm, from the largest of the
-- four and then from the one maximum. Assumes nothing.
use Prim.Native.Nat.{◌*◌}
use mathlib.Core.Path.{◌≡◌}
use lib.ListN.{length}
use Rattle.loops.specs.For.{for}
use Rattle.vectors.specs.Norm.{norm_turn, vmnorm_of}
use Rattle.vectors.specs.Maxima.{top_of}
use Rattle.numbers.proofs.Order.{Number}
use Rattle.vectors.proofs.Maxima.{AllClean}
use Rattle.vectors.proofs.vmnorm.Given as goal

abbrev pub invariant-loop-k : goal.invariant-loop-k
invariant-loop-k l =
    AllClean l.m × (for (4 * l.k) (length l.v) (norm_turn l.v l.w) (top_of l.m) ≡ (vmnorm_of l.v l.w).value)

abbrev pub invariant-loop-i : goal.invariant-loop-i
invariant-loop-i l =
    Number l.value × (for l.i (length l.v) (norm_turn l.v l.w) l.value ≡ (vmnorm_of l.v l.w).value)
