-- `less` meets its contract. The invariant: the rows that are left give the whole loop. Assumes nothing.
use mathlib.Core.Path.{◌≡◌}
use Rattle.loops.specs.For.{for}
use Rattle.dense.specs.Solve.{less_at, less_of}
use Rattle.dense.proofs.System.less.Given as goal

abbrev pub invariant-loop-i : goal.invariant-loop-i
invariant-loop-i l =
    let s = l.self in
    for l.i l.hi (less_at s.n s.a s.b l.k l.bk) l.work ≡ less_of s.n s.a s.b l.k l.bk l.lo l.hi l.initial.work
