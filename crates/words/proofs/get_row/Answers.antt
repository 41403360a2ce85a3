use native.Mathlib.Omega.{arith}
use Rattle.loops.proofs.For.{onward}
use Rattle.words.proofs.get_row.Goals as goal

pub loop-i-preserved : goal.loop-i-preserved
loop-i-preserved g c = onward _ _ _ _ _ _ (omega arith) (rw c.number.ensures) c.loop-i.invariant
