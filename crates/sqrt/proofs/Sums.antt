-- Roots by computation: the one that the solver keeps as a constant, and the ends of the range.
-- Assumes nothing.
use mathlib.Core.Path.{◌≡◌, refl}
use lib.Count.{count_leading_zeros}
use lib.Ieee as Ieee
use Rattle.numbers.specs.Float.{lit}
use Rattle.sqrt.specs.Sqrt.{sqrt_of}

-- the root of 2^-52, the distance from 1 to the next float, is 2^-26
pub root-of-epsilon : sqrt_of (lit 0x3cb0_0000_0000_0000) ≡ lit 0x3e50_0000_0000_0000
unfolding sqrt_of Ieee.of_bits
root-of-epsilon = refl

-- 2, the smallest number 2^-1074, three times that, and the largest number
two : sqrt_of (lit 0x4000_0000_0000_0000) ≡ lit 0x3ff6_a09e_667f_3bcd
unfolding sqrt_of Ieee.of_bits
two = refl

smallest : sqrt_of (lit 1) ≡ lit 0x1e60_0000_0000_0000
unfolding sqrt_of Ieee.of_bits count_leading_zeros
smallest = refl

third : sqrt_of (lit 3) ≡ lit 0x1e6b_b67a_e858_4caa
unfolding sqrt_of Ieee.of_bits count_leading_zeros
third = refl

largest : sqrt_of (lit 0x7fef_ffff_ffff_ffff) ≡ lit 0x5fef_ffff_ffff_ffff
unfolding sqrt_of Ieee.of_bits
largest = refl
