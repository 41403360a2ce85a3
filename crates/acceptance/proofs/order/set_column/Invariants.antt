-- `set_column` meets its contract. The invariant: with the part back in its place, the numbers that are left give the
-- whole column. Assumes nothing.
use mathlib.Core.Path.{◌≡◌}
use mathlib.Core.List.{◌++◌}
use Prim.Native.Nat.{◌+◌, ◌-◌, ◌*◌}
use lib.ListN.{take, drop}
use Rattle.loops.specs.For.{for}
use Rattle.loops.specs.Part.{put_part}
use Rattle.common.specs.Layout.{acor_at}
use Rattle.acceptance.specs.Order.{raise_column_at, raise_column_of}
use Rattle.acceptance.proofs.order.set_column.Given as goal

abbrev pub invariant-loop-i : goal.invariant-loop-i
invariant-loop-i l =
    for l.i l.n (raise_column_at l.n l.j l.r)
    (put_part (l.j * l.n) (l.j * l.n + l.n - l.j * l.n) (take (acor_at l.n) l.fn.work) l.x-items
    ++ drop (acor_at l.n) l.fn.work)
    ≡ raise_column_of l.n l.j l.r l.fn.work
