-- `dense_lu_factor` meets its contract. The invariant: the steps that are left give the whole factoring; after a step
-- that was refused, no later one changes anything. Assumes nothing.
use mathlib.Core.Path.{◌≡◌}
use mathlib.Core.Bool.{true}
use Rattle.loops.specs.For.{for}
use Rattle.dense.specs.Factor.{step_of, factor_of}
use Rattle.dense.proofs.dense_lu_factor.Given as goal

abbrev pub invariant-loop-k : goal.invariant-loop-k
invariant-loop-k l =
    for l.k l.n (step_of l.n) (record { a = l.a; ipiv = l.ipiv; ok = true })
    ≡ factor_of l.n l.initial.a l.initial.ipiv
