-- `scale` meets its contract. The invariant: with the part back in its place, the rows that are left give the whole
-- column. Assumes nothing.
use mathlib.Core.Path.{◌≡◌}
use Prim.Native.Nat.{◌+◌, ◌*◌, ◌-◌}
use Rattle.loops.specs.For.{for}
use Rattle.loops.specs.Part.{put_part}
use Rattle.dense.specs.Factor.{scale_at, scale_of}
use Rattle.dense.proofs.scale.Given as goal

abbrev pub invariant-loop-x : goal.invariant-loop-x
invariant-loop-x l =
    let first = l.k * l.n + l.k + 1 in
    let m = l.k * l.n + l.n - first in
    for (l.k + 1 + l.x-index) l.n (scale_at l.n l.k l.diag) (put_part first m l.fn.a l.x-items)
    ≡ scale_of l.n l.k l.fn.a
