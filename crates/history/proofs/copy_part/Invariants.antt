-- `copy_part` meets its contract. The invariant: the numbers that are left give the whole copy.
-- Assumes nothing.
use mathlib.Core.Path.{◌≡◌}
use Rattle.loops.specs.For.{for}
use Rattle.history.specs.Columns.{copy_at, copy_of}
use Rattle.history.proofs.copy_part.Given as goal

abbrev pub invariant-loop-i : goal.invariant-loop-i
invariant-loop-i l =
    for l.i l.n (copy_at l.to l.from) l.work ≡ copy_of l.n l.to l.from l.initial.work
