-- `set_raised` meets its contract. The invariant: the numbers that are left give the whole vector.
-- Assumes nothing.
use mathlib.Core.Path.{◌≡◌}
use Rattle.loops.specs.For.{for}
use Rattle.acceptance.specs.Order.{raised_at, raised_work_of}
use Rattle.acceptance.proofs.order.set_raised.Given as goal

abbrev pub invariant-loop-i : goal.invariant-loop-i
invariant-loop-i l = for l.i l.n (raised_at l.n l.lmax) l.work ≡ raised_work_of l.n l.lmax l.initial.work
