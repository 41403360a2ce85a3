-- `row_sum` meets its contract. The invariant: the columns that are left give the whole sum. Assumes nothing.
use mathlib.Core.Path.{◌≡◌}
use Rattle.loops.specs.For.{for}
use Rattle.vectors.specs.Norm.{row_at, row_of}
use Rattle.vectors.proofs.Weighted.row_sum.Given as goal

abbrev pub invariant-loop-j : goal.invariant-loop-j
invariant-loop-j l =
    let m = l.self in
    for l.j m.n (row_at m.n m.a.now m.w.now l.i) l.sum ≡ row_of m.n m.a.now m.w.now l.i
