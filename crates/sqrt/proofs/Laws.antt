-- Squares keep the order.
--     square_le, square-lt
-- Assumes nothing.
use Prim.Native.Nat.{ℕ, ◌*◌, ◌≤◌, ◌<◌}
use native.Mathlib.Nat.{mul-le-mul}
use native.Mathlib.Omega.{arith}

pub square_le : {a b : ℕ} → a ≤ b → a * a ≤ b * b
square_le h = mul-le-mul h h

pub square-lt : (a b : ℕ) → a < b → a * a < b * b
square-lt a b h = omega (arith, square_le h)
