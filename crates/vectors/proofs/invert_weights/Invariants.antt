-- `invert_weights` meets its contract. The invariant: the weights that are left give the whole inversion; after one
-- that was refused, no later one changes anything. Assumes nothing.
use mathlib.Core.Path.{◌≡◌}
use mathlib.Core.List.{List}
use mathlib.Core.Bool.{false}
use lib.ListN.{length}
use lib.Ieee.{Float}
use Rattle.loops.specs.For.{for}
use Rattle.vectors.specs.Weights.{Inversion, invert_at, invert_of}
use Rattle.vectors.proofs.invert_weights.Given as goal

abbrev going : List Float → Inversion
going ewt = record { ewt = ewt; refused = false; index = 0 }

abbrev pub invariant-loop-index : goal.invariant-loop-index
invariant-loop-index l =
    for l.index (length l.initial.ewt) invert_at (going l.ewt) ≡ invert_of l.initial.ewt
