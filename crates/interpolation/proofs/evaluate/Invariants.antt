-- `evaluate` meets its contract. The invariant: the columns below j that are left give the whole rule.
-- Assumes nothing.
use Prim.Native.Nat.{◌+◌, ◌-◌}
use mathlib.Core.Path.{◌≡◌}
use Rattle.loops.specs.For.{for}
use Rattle.interpolation.specs.Evaluate.{horner_turn}
use Rattle.interpolation.proofs.evaluate.Given as goal

abbrev pub invariant-loop-j : goal.invariant-loop-j
invariant-loop-j l =
    for (l.fn.z.nq + 1 - l.j) (l.fn.z.nq + 1) (horner_turn l.cont l.n l.fn.z.nq l.s) l.yi
    ≡ for 1 (l.fn.z.nq + 1) (horner_turn l.cont l.n l.fn.z.nq l.s) l.initial.yi
