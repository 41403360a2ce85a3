-- Bounds of the limits in force, and of the order whose coefficients are in force.
-- Assumes nothing.
use Prim.Native.Nat.{ℕ, ◌*◌, ◌/◌, ◌≤◌}
use native.Mathlib.Nat.{mul-le-mul, mul_comm, le-div_iff_mul-le, div-le_of_le-mul, one-mul}
use native.Mathlib.Omega.{arith}
use Rattle.common.specs.declared.MethodFamily.{MethodFamily}
use Rattle.common.specs.declared.MethodFamily.TheVariants.{Adams, Bdf}
use Rattle.common.specs.declared.Settings.{Settings}
use Rattle.common.specs.Limits.{max_states, maxord_of}

pub maxord-le : (s : Settings) (m : MethodFamily) → maxord_of s m ≤ 12
maxord-le s Adams = omega arith
maxord-le s Bdf = omega arith

-- a multiple of n from n to 12·n, divided by n
pub order_from : (n k : ℕ) → 1 ≤ n → n ≤ k → 1 ≤ k / n
order_from n k p h = (le-div_iff_mul-le p).1 (rw one-mul h)

pub order-to : (n k : ℕ) → 1 ≤ n → k ≤ 12 * n → k / n ≤ 12
order-to n k p h = div-le_of_le-mul n (rw (mul_comm n 12) h)

pub small_product : (a n : ℕ) → a ≤ 12 → n ≤ max_states → a * n ≤ 12 * max_states
small_product a n h k = mul-le-mul h k
