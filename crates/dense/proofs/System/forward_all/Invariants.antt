-- `forward_all` meets its contract. The invariant: the rows that are left give the whole elimination. Assumes nothing.
use mathlib.Core.Path.{◌≡◌}
use Rattle.loops.specs.For.{for}
use Rattle.dense.specs.Solve.{forward_step_of, forward_all_of}
use Rattle.dense.proofs.System.forward_all.Given as goal

abbrev pub invariant-loop-k : goal.invariant-loop-k
invariant-loop-k l =
    let s = l.self in
    for l.k l.k-end (forward_step_of s.n s.a l.ipiv s.b) l.work ≡ forward_all_of s.n s.a l.ipiv s.b l.initial.work
