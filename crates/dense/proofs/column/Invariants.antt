-- `column` meets its contract. The invariant: the rows that are left give the whole column. Assumes nothing.
use mathlib.Core.Path.{◌≡◌}
use Rattle.loops.specs.For.{for}
use Rattle.dense.specs.Factor.{column_at, column_of}
use Rattle.dense.proofs.column.Given as goal

abbrev pub invariant-loop-i : goal.invariant-loop-i
invariant-loop-i l =
    for l.i l.n (column_at l.n l.k l.j l.ukj) l.a ≡ column_of l.n l.k l.j l.initial.a
