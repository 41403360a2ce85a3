-- `copy_from` meets its contract. The invariant: the numbers that were passed are those of `from`.
-- Assumes nothing.
use mathlib.Core.Path.{◌≡◌}
use lib.ListN.{length, take}
use Rattle.common.proofs.copy_from.Given as goal

abbrev pub invariant-loop-i : goal.invariant-loop-i
invariant-loop-i l = (length l.to ≡ length l.initial.to) × (take l.i l.to ≡ take l.i l.from)
