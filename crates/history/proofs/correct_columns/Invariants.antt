-- `correct_columns` meets its contract. The invariant: the columns that are left give the whole.
-- Assumes nothing.
use mathlib.Core.Path.{◌≡◌}
use Rattle.loops.specs.For.{for}
use Rattle.history.specs.Columns.{correct_at, correct_columns_of}
use Rattle.history.proofs.correct_columns.Given as goal

abbrev pub invariant-loop-j : goal.invariant-loop-j
invariant-loop-j l =
    for l.j l.j-end (correct_at l.s l.c) l.work ≡ correct_columns_of l.s l.c l.initial.work
