-- `difference_column` meets its contract. The invariant: with the part back in its place, the rows that are left give
-- the whole. Assumes nothing.
use mathlib.Core.Path.{◌≡◌}
use mathlib.Core.List.{◌++◌}
use Prim.Native.Nat.{◌+◌, ◌*◌, ◌-◌}
use lib.ListN.{take, drop}
use Rattle.loops.specs.For.{for}
use Rattle.loops.specs.Part.{put_part}
use Rattle.common.specs.Layout.{matrix_at}
use Rattle.jacobian.specs.Jacobian.{difference_at, difference_of}
use Rattle.jacobian.proofs.difference_column.Given as goal

abbrev pub invariant-loop-i : goal.invariant-loop-i
invariant-loop-i l =
    let m = l.j * l.n + l.n - l.j * l.n in
    let matrix = drop (matrix_at l.n) l.fn.work in
    for l.i l.n (difference_at l.n l.j l.fac)
    (take (matrix_at l.n) l.fn.work ++ put_part (l.j * l.n) m matrix l.x-items)
    ≡ difference_of l.n l.j l.fac l.fn.work
