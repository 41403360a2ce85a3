-- `largest_relative` meets its contract. The invariant: the states that are left give the whole maximum.
-- Assumes nothing.
use mathlib.Core.Path.{◌≡◌}
use lib.ListN.{length}
use Rattle.loops.specs.For.{for}
use Rattle.vectors.specs.FirstStep.{relative_at, relative_of}
use Rattle.vectors.proofs.largest_relative.Given as goal

abbrev pub invariant-loop-i : goal.invariant-loop-i
invariant-loop-i l =
    for l.i (length l.y) (relative_at l.atol l.y) l.tol ≡ relative_of l.atol l.y l.start
