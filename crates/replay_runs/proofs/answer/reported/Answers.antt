-- `reported` meets its contract: the order is at most 12, so that the snapshot's columns are at most 13 times n.
-- Assumes nothing.
use Prim.Native.Nat.{ℕ, ◌+◌, ◌*◌, ◌≤◌}
use mathlib.Core.Path.{refl}
use native.Mathlib.Nat.{mul-le-mul_right}
use native.Mathlib.Omega.{arith}
use Rattle.replay_runs.proofs.answer.reported.Goals as goal

most : (order n : ℕ) → order ≤ 12 → (order + 1) * n ≤ 13 * n
most order n few = mul-le-mul_right n (omega arith)

pub overflow_mul-result : goal.overflow_mul-result
overflow_mul-result c = omega (arith, most c.args.order c.args.n c.requires.0)

pub overflow_add-result-3 : goal.overflow_add-result-3
overflow_add-result-3 c = omega (arith, most c.args.order c.args.n c.requires.0)

pub returns : goal.returns
returns c = let few = most c.args.order c.args.n c.requires.0 in (refl, omega arith, omega arith)
