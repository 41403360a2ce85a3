-- `no_convergence` meets its contract: each way is that of its tests, on the record retracted and counted.
-- Assumes nothing.
use native.Mathlib.Omega.{arith}
use Rattle.std.proofs.lemmas.Grind.{common_steps}
use Rattle.attempt.specs.Attempt.{retracted_of, unconverged_of, quartered_of, no_convergence_at, no_convergence_of}
use Rattle.attempt.proofs.no_convergence.Goals as goal

pub returns-then-is_tiny : goal.returns-then-is_tiny
unfolding no_convergence_of no_convergence_at unconverged_of retracted_of
returns-then-is_tiny c = grind (arith, common_steps)

pub returns : goal.returns
unfolding no_convergence_of no_convergence_at unconverged_of retracted_of quartered_of
returns c = grind (arith, common_steps)
