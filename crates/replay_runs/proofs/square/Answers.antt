-- `square` meets its contract. Assumes nothing.
use native.Mathlib.Nat.{mul-le-mul}
use native.Mathlib.Omega.{arith}
use Rattle.replay_runs.proofs.square.Goals as goal

pub overflow_mul-result : goal.overflow_mul-result
overflow_mul-result c = omega (arith, mul-le-mul c.requires c.requires)

pub returns : goal.returns
returns c = mul-le-mul c.requires c.requires
