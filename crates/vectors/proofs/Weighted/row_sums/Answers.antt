use native.Mathlib.Omega.{arith}
use Rattle.loops.proofs.For.{again, ended}
use Rattle.vectors.proofs.Weighted.row_sums.Goals as goal

pub loop-j-preserved : goal.loop-j-preserved
loop-j-preserved c =
    let l = c.loop-j.invariant in
    rw c.with_column-s.ensures (
      again _ _ _ _ _ (omega arith) l.0,
      again _ _ _ _ _ (omega arith) l.1,
      again _ _ _ _ _ (omega arith) l.2,
      again _ _ _ _ _ (omega arith) l.3,
    )

pub returns : goal.returns
returns c =
    let l = c.loop-j.invariant in
    rw (
      ended _ _ _ _ _ (omega arith) l.0,
      ended _ _ _ _ _ (omega arith) l.1,
      ended _ _ _ _ _ (omega arith) l.2,
      ended _ _ _ _ _ (omega arith) l.3,
    )
