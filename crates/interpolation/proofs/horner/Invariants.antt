-- `horner` meets its contract. The invariant: the numbers that are left give the whole column. Assumes nothing.
use mathlib.Core.Path.{◌≡◌}
use lib.ListN.{length}
use Rattle.loops.specs.For.{for}
use Rattle.interpolation.specs.Evaluate.{horner_at, horner_of}
use Rattle.interpolation.proofs.horner.Given as goal

abbrev pub invariant-loop-i : goal.invariant-loop-i
invariant-loop-i l =
    for l.i (length l.initial.yi) (horner_at l.column l.s) l.yi ≡ horner_of l.column l.s l.initial.yi
