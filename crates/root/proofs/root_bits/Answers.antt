use mathlib.Core.Path.{ap}
use native.Mathlib.Omega.{arith}
use Rattle.loops.proofs.For.{ended}
use Rattle.root.specs.Root.{Candidate, root_bits}
use Rattle.root.proofs.root_bits.Goals as goal

pub returns : goal.returns
unfolding root_bits
returns c =
    let l = c.loop in
    ap (λ (s : Candidate). s.bits) (ended _ l.counter 63 _ _ (omega arith) l.invariant.1)
