-- `add_scaled` meets its contract. The invariant: with the part back in its place, the numbers that are left give the
-- whole column. Assumes nothing.
use mathlib.Core.Path.{◌≡◌}
use mathlib.Core.List.{◌++◌}
use Prim.Native.Nat.{◌+◌, ◌-◌, ◌*◌}
use lib.ListN.{take, drop}
use Rattle.loops.specs.For.{for}
use Rattle.loops.specs.Part.{put_part}
use Rattle.history.specs.Columns.{add_scaled_at, add_scaled_of}
use Rattle.history.proofs.add_scaled.Given as goal

abbrev pub invariant-loop-i : goal.invariant-loop-i
invariant-loop-i l =
    for l.i l.n (add_scaled_at l.n l.j l.e l.at)
    (put_part (l.j * l.n) (l.j * l.n + l.n - l.j * l.n) (take l.at l.fn.work) l.x-items ++ drop l.at l.fn.work)
    ≡ add_scaled_of l.n l.j l.e l.at l.fn.work
