-- `root_digits` meets its contract: its loop is that of `digits_of`, and what a turn keeps gives the bounds that the
-- next one requires.
use mathlib.Core.Path.{◌≡◌}
use Rattle.loops.specs.For.{for}
use Rattle.sqrt.specs.Sqrt.{digit_turn}
use Rattle.sqrt.proofs.Turns.{Kept}
use Rattle.sqrt.proofs.root_digits.Given as goal

abbrev pub invariant-loop : goal.invariant-loop
invariant-loop l =
    Kept l.n l.counter l.s × (for l.counter 54 digit_turn l.s ≡ for 0 54 digit_turn l.initial.s)
