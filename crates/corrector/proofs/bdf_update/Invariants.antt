-- `bdf_update` meets its contract. The invariant: the states that are left give the whole.
-- Assumes nothing.
use mathlib.Core.Path.{◌≡◌}
use Rattle.loops.specs.For.{for}
use Rattle.corrector.specs.Iterate.{bdf_update_at, bdf_update_of}
use Rattle.corrector.proofs.bdf_update.Given as goal

abbrev pub invariant-loop-i : goal.invariant-loop-i
invariant-loop-i l =
    for l.i l.n (bdf_update_at l.n l.e) l.work ≡ bdf_update_of l.n l.e l.initial.work
