-- What the digits and the exponent of a pattern above 0 and below infinity's stay under, so that no sum goes past 64
-- bits: of `normal_of`, of `even_of` after it, and of the root's digits.
-- Assumes nothing.
use mathlib.Core.Path.{◌≡◌}
use Prim.Native.Nat.{ℕ, ◌/◌, ◌%◌, ◌^◌, ◌≤◌, ◌<◌}
use native.Mathlib.Omega.{arith}
use lib.Count.{count_leading_zeros}
use Rattle.sqrt.specs.Sqrt.{hidden, normal_of, even_of, digits_of}
use Rattle.sqrt.proofs.Pattern.{Evened, fraction, normal, evened}
use Rattle.sqrt.proofs.Turns.{root}

pub leading : (b : ℕ) → 0 < b → b / hidden ≡ 0
    → (12 ≤ count_leading_zeros 64 (b % hidden)) × (count_leading_zeros 64 (b % hidden) ≤ 63)
leading b p h =
    let z = fraction b p h in
    omega (arith, z.is, z.under)

module _ (b : ℕ) (p : 0 < b) (h : b < 0x7ff0_0000_0000_0000) where
  pub normal_digits : (normal_of b).digits < 2 ^ 53
  normal_digits = (normal b p h).high

  pub normal_exponent : 1 ≤ (normal_of b).exponent
  normal_exponent = (normal b p h).first

  odd : Evened (normal_of b) (even_of (normal_of b))
  odd = evened (normal_of b) (normal b p h)

  pub even_digits : (even_of (normal_of b)).digits < 2 ^ 54
  even_digits = omega (arith, odd.high)

  pub even_exponent : (even_of (normal_of b)).exponent ≤ 2097
  even_exponent = odd.last

  pub root_digits_short : digits_of (even_of (normal_of b)).digits < 2 ^ 54
  root_digits_short = (root _ even_digits).short

pub ruleset bounds = (normal_digits, normal_exponent, even_digits, even_exponent, root_digits_short)
