-- `rescale_columns` meets its contract. The invariant: from the power so far the rest gives the whole.
-- Assumes nothing.
use mathlib.Core.Path.{◌≡◌}
use Rattle.loops.specs.For.{for}
use Rattle.numbers.specs.Float.{one_f}
use Rattle.history.specs.Columns.{rescale_at}
use Rattle.history.proofs.rescale_columns.Given as goal

abbrev pub invariant-loop-j : goal.invariant-loop-j
invariant-loop-j l =
    for l.j l.l (rescale_at l.n l.rh) (record { r = l.r; yh = l.yh })
    ≡ for 1 l.l (rescale_at l.n l.rh) (record { r = one_f; yh = l.initial.yh })
