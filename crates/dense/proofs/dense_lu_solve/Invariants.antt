-- `dense_lu_solve` meets its contract. The invariant: the rows that are left give the whole solve after the
-- elimination; after a row that was refused, no later one changes anything. Assumes nothing.
use Prim.Native.Nat.{◌-◌}
use mathlib.Core.Path.{◌≡◌}
use mathlib.Core.Bool.{true}
use Rattle.loops.specs.For.{for}
use Rattle.dense.specs.Solve.{backward_step_of}
use Rattle.dense.proofs.dense_lu_solve.Given as goal

abbrev pub invariant-loop-k : goal.invariant-loop-k
invariant-loop-k l =
    for (l.n - l.k) l.n (backward_step_of l.n l.a l.b) (record { work = l.work; ok = true })
    ≡ for 0 l.n (backward_step_of l.n l.a l.b) (record { work = l.initial.work; ok = true })
