-- `find_pivot` meets its contract. The invariant: the row found lies below n, and the rows that are left
-- give the pivot of the whole column from it. Assumes nothing.
use Prim.Native.Nat.{◌<◌}
use mathlib.Core.Path.{◌≡◌}
use Rattle.loops.specs.For.{for}
use Rattle.dense.specs.Factor.{pick_row, pivot_of}
use Rattle.dense.proofs.find_pivot.Given as goal

abbrev pub invariant-loop-row : goal.invariant-loop-row
invariant-loop-row l =
    (l.pivot.row < l.n) × (for l.row l.n (pick_row l.n l.k l.a) l.pivot ≡ pivot_of l.n l.k l.a)
