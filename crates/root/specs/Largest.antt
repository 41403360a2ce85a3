-- What the kept bits are: the largest pattern whose float's k-fold product, left to right, each rounded, is at most x.
-- The patterns from 0 to infinity's are the floats without a sign, in their order; `units_of` says how large each is.
-- That this is the float nearest to the real root is not claimed.
use Rattle.std.specs.Prelude.{◌≡◌, Bool, true, false, not, ℕ, zero, suc, ◌+◌, ◌*◌, ◌/◌, ◌%◌, ◌^◌, ◌≤◌, ◌<◌, T, Float}
use Rattle.std.specs.Float.Ieee as Ieee
use Rattle.std.specs.Float.{nan, inf, fin, binary64}
use Rattle.root.specs.Root.{power_of}

-- infinity's pattern; above it, below 2^63, lie the NaNs'
abbrev pub infinity_bits : ℕ
infinity_bits = 0x7ff0_0000_0000_0000

-- the size of the float with exponent field x and lower digits t, in units of 2^-1074, the smallest float above 0
unfoldable pub field_units : ℕ → ℕ → ℕ
field_units zero t = t
field_units (suc x) t = (2 ^ 52 + t) * 2 ^ x

-- the size of a pattern's float, below infinity's
unfoldable pub units_of : ℕ → ℕ
unfolding field_units
units_of b = field_units (b / 2 ^ 52) (b % 2 ^ 52)

-- no NaN, and no sign
abbrev pub unsigned : Float → Bool
unsigned nan = false
unsigned (inf s) = not s
unsigned (fin s m e) = not s

-- the product that is compared with x at pattern b
abbrev pub product_of : ℕ → ℕ → Float
product_of k b = power_of k (Ieee.of_bits binary64 b)

-- r is the largest pattern whose product is at most x
pub record Largest (x : Float) (k r : ℕ) : Type 0 where
  pub finite : r < infinity_bits
  pub reached : Ieee.le (product_of k r) x ≡ true
  pub passed : (b : ℕ) → r < b → b ≤ infinity_bits → Ieee.lt x (product_of k b) ≡ true

-- y is the largest float whose product is at most x
pub record LargestFloat (x : Float) (k : ℕ) (y : Float) : Type 0 where
  pub reached : Ieee.le (power_of k y) x ≡ true
  pub passed : (z : Float) → T (Ieee.fits binary64 z) → Ieee.lt y z ≡ true → Ieee.lt x (power_of k z) ≡ true
