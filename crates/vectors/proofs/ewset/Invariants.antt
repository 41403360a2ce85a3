-- `ewset` meets its contract. The invariant: with the part back in its place, the states that are left give all
-- weights. Assumes nothing.
use mathlib.Core.Path.{◌≡◌}
use mathlib.Core.List.{◌++◌}
use lib.ListN.{drop}
use Rattle.loops.specs.For.{for}
use Rattle.loops.specs.Part.{put_part}
use Rattle.vectors.specs.Weights.{ewset_at, ewset_of}
use Rattle.vectors.proofs.ewset.Given as goal

abbrev pub invariant-loop-i : goal.invariant-loop-i
invariant-loop-i l =
    for l.i l.i-end (ewset_at l.rtol l.atol l.at) (l.y ++ put_part 0 l.n (drop l.at l.fn.work) l.w-items)
    ≡ ewset_of l.rtol l.atol l.n l.at l.fn.work
