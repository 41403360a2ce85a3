-- `adams_residual` meets its contract. The invariant: the states that are left give the whole.
-- Assumes nothing.
use mathlib.Core.Path.{◌≡◌}
use Rattle.loops.specs.For.{for}
use Rattle.corrector.specs.Iterate.{adams_residual_at, adams_residual_of}
use Rattle.corrector.proofs.adams_residual.Given as goal

abbrev pub invariant-loop-i : goal.invariant-loop-i
invariant-loop-i l =
    for l.i l.n (adams_residual_at l.n l.h) l.work ≡ adams_residual_of l.n l.h l.initial.work
