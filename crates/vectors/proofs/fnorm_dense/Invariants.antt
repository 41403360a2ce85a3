-- `fnorm_dense` meets its contract. The invariants: the rows that are left give the whole norm, and it is no NaN so
-- far. Assumes nothing.
use Prim.Native.Nat.{◌*◌, ◌/◌, ◌≤◌}
use mathlib.Core.Path.{◌≡◌}
use Rattle.loops.specs.For.{for}
use Rattle.vectors.specs.Norm.{fnorm_turn, fnorm_of}
use Rattle.numbers.proofs.Order.{Number}
use Rattle.vectors.proofs.fnorm_dense.Given as goal

abbrev pub invariant-loop-k : goal.invariant-loop-k
invariant-loop-k l =
    (l.k ≤ l.n / 4)
    × Number l.value
    × (for (4 * l.k) l.n (fnorm_turn l.n l.a l.w) l.value ≡ (fnorm_of l.n l.a l.w).value)

abbrev pub invariant-loop-i : goal.invariant-loop-i
invariant-loop-i l = Number l.value × (for l.i l.n (fnorm_turn l.n l.a l.w) l.value ≡ (fnorm_of l.n l.a l.w).value)
