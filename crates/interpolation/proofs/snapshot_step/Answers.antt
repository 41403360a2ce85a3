-- `snapshot_step` meets its contract: the columns copied whole are those copied one by one. Assumes nothing.
use Prim.Native.Nat.{◌+◌, ◌-◌, ◌*◌, ◌≤◌}
use mathlib.Core.Path.{◌≡◌, sym}
use native.Mathlib.Nat.{mul-le-mul_right}
use native.Mathlib.Omega.{arith}
use lib.ListN.{length}
use lib.Ieee.{nan}
use Rattle.interpolation.specs.Snapshot.{snapshot_of}
use Rattle.interpolation.proofs.Copies.{copies}
use Rattle.interpolation.proofs.snapshot_step.Goals as goal

pub returns : goal.returns
unfolding snapshot_of
returns c =
    let n = c.args.s.n in
    let columns = (c.args.c.nq + 1) * n in
    let k : c.args.c.nq + 1 ≤ 13 = omega (arith, c.requires.2) in
    let q = mul-le-mul_right n k in
    let size : n + 6 + columns - (n + 6) ≡ columns = omega arith in
    let room : n + 6 + columns ≤ length c.put_header.new.to = omega (arith, q, c.requires.4, c.put_header.auto.to) in
    let all = copies nan (n + 6) columns c.args.work.now c.put_header.new.to (omega (arith, q, c.requires.3)) room in
    rw (size, c.copy_from.ensures, ← c.put_header.ensures) (sym all)
