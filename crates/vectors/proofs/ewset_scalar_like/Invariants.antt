-- `ewset_scalar_like` meets its contract. The invariant: with the part back in its place, the states that are left give
-- all weights. Assumes nothing.
use mathlib.Core.Path.{◌≡◌}
use mathlib.Core.List.{◌++◌}
use lib.ListN.{drop}
use Rattle.loops.specs.For.{for}
use Rattle.loops.specs.Part.{put_part}
use Rattle.vectors.specs.Weights.{ewset_like_at, ewset_like_of}
use Rattle.vectors.proofs.ewset_scalar_like.Given as goal

abbrev pub invariant-loop-i : goal.invariant-loop-i
invariant-loop-i l =
    for l.i l.i-end (ewset_like_at l.at) (l.y ++ put_part 0 l.n (drop l.at l.fn.work) l.w-items)
    ≡ ewset_like_of l.n l.at l.fn.work
