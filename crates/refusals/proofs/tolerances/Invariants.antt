-- `tolerances` meets its contract. Assumes nothing.
use mathlib.Core.Path.{◌≡◌}
use Rattle.loops.specs.For.{for}
use Rattle.refusals.specs.Refusal.{none}
use Rattle.refusals.specs.Start.{tolerance_at, tolerance_refusal}
use Rattle.refusals.proofs.tolerances.Given as goal

abbrev pub invariant-loop-i : goal.invariant-loop-i
invariant-loop-i l = for l.i l.n (tolerance_at l.rtol l.atol) none ≡ tolerance_refusal l.n l.rtol l.atol
