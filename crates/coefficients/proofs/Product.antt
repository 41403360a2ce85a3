-- `product n` is the polynomial (x + 1)(x + 2)…(x + n): it has its value at each x.
-- Assumes nothing.
use mathlib.Core.Path.{◌≡◌}
use mathlib.Core.List.{List, [], ◌∷◌}
use Prim.Native.Nat.{ℕ, zero, suc, ◌+◌, ◌*◌}
use native.Mathlib.Omega.{arith}
use Rattle.coefficients.specs.Published.{by_factor, product}

unfoldable pub value : List ℕ → ℕ → ℕ
value [] x = 0
value (b ∷ p) x = b + x * value p x

unfoldable pub factors : ℕ → ℕ → ℕ
factors zero x = 1
factors (suc n) x = (x + suc n) * factors n x

by-factor : (a c : ℕ) (p : List ℕ) (x : ℕ) → value (by_factor a c p) x ≡ (x + a) * value p x + c
unfolding value by_factor
by-factor a c [] x = omega arith
by-factor a c (b ∷ p) x = rw (by-factor a b p x) (omega arith)

pub product_value : (n x : ℕ) → value (product n) x ≡ factors n x
unfolding value factors product
product_value zero x = omega arith
product_value (suc n) x = rw (by-factor (suc n) 0 (product n) x, product_value n x) (omega arith)
