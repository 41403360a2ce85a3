-- `eliminate` meets its contract. The invariant: the columns that are left give the whole elimination.
-- Assumes nothing.
use mathlib.Core.Path.{◌≡◌}
use Rattle.loops.specs.For.{for}
use Rattle.dense.specs.Factor.{column_of, eliminate_of}
use Rattle.dense.proofs.eliminate.Given as goal

abbrev pub invariant-loop-j : goal.invariant-loop-j
invariant-loop-j l =
    for l.j l.n (column_of l.n l.k) l.a ≡ eliminate_of l.n l.k l.initial.a
