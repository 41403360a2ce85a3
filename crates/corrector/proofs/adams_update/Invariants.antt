-- `adams_update` meets its contract. The invariant: the states that are left give the whole.
-- Assumes nothing.
use mathlib.Core.Path.{◌≡◌}
use Rattle.loops.specs.For.{for}
use Rattle.corrector.specs.Iterate.{adams_update_at, adams_update_of}
use Rattle.corrector.proofs.adams_update.Given as goal

abbrev pub invariant-loop-i : goal.invariant-loop-i
invariant-loop-i l =
    for l.i l.n (adams_update_at l.n l.e) l.work ≡ adams_update_of l.n l.e l.initial.work
