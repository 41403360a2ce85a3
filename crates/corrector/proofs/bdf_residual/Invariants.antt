-- `bdf_residual` meets its contract. The invariant: with the part back in its place, the states that are left give the
-- whole. Assumes nothing.
use mathlib.Core.Path.{◌≡◌}
use mathlib.Core.List.{◌++◌}
use lib.ListN.{take, drop}
use Rattle.loops.specs.For.{for}
use Rattle.loops.specs.Part.{put_part}
use Rattle.common.specs.Layout.{y_at}
use Rattle.corrector.specs.Iterate.{bdf_residual_at, bdf_residual_of}
use Rattle.corrector.proofs.bdf_residual.Given as goal

abbrev pub invariant-loop-i : goal.invariant-loop-i
invariant-loop-i l =
    for l.i l.i-end (bdf_residual_at l.n l.h)
    (take (y_at l.n) l.fn.work ++ put_part 0 l.n (drop (y_at l.n) l.fn.work) l.x-items)
    ≡ bdf_residual_of l.n l.h l.fn.work
