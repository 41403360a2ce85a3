-- `set_slope` meets its contract. The invariant: with the part back in its place, the numbers that are left give the
-- whole column. Assumes nothing.
use mathlib.Core.Path.{◌≡◌}
use mathlib.Core.List.{◌++◌}
use Prim.Native.Nat.{◌+◌, ◌-◌}
use lib.ListN.{take, drop}
use Rattle.loops.specs.For.{for}
use Rattle.loops.specs.Part.{put_part}
use Rattle.common.specs.Layout.{savf_at}
use Rattle.history.specs.Columns.{slope_at, slope_of}
use Rattle.history.proofs.set_slope.Given as goal

abbrev pub invariant-loop-i : goal.invariant-loop-i
invariant-loop-i l =
    for l.i l.n (slope_at l.n l.h)
    (put_part l.n (l.n + l.n - l.n) (take (savf_at l.n) l.fn.work) l.x-items ++ drop (savf_at l.n) l.fn.work)
    ≡ slope_of l.n l.h l.fn.work
