-- `scale` meets its contract. The invariant: the numbers that are left give the whole.
-- Assumes nothing.
use mathlib.Core.Path.{◌≡◌}
use lib.ListN.{length}
use Rattle.loops.specs.For.{for}
use Rattle.history.specs.Columns.{times_at, times_of}
use Rattle.history.proofs.scale.Given as goal

abbrev pub invariant-loop-x : goal.invariant-loop-x
invariant-loop-x l =
    for l.x-index (length l.initial.v) (times_at l.r) l.v ≡ times_of l.r l.initial.v
