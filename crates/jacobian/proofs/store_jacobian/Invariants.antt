-- The numbers that are left give the whole matrix. Assumes nothing.
use mathlib.Core.Path.{◌≡◌}
use lib.ListN.{length}
use Rattle.loops.specs.For.{for}
use Rattle.jacobian.specs.Jacobian.{scaled_at, scaled_of}
use Rattle.jacobian.proofs.store_jacobian.Given as goal

abbrev pub invariant-loop-i : goal.invariant-loop-i
invariant-loop-i l = for l.i (length l.jac) (scaled_at l.scale l.jac) l.a ≡ scaled_of l.scale l.jac l.initial.a
