-- Worked sums of the root, by computation. The first two are sum (6) of the scope.
-- Assumes nothing.
use mathlib.Core.Path.{◌≡◌, refl}
use lib.Ieee.{Float, nan, of_bits}
use Rattle.numbers.specs.Float.{lit, zero_f, one_f}
use Rattle.root.specs.Root.{root_of}
use Rattle.root.specs.Largest.{infinity_bits}

-- 8.0
abbrev eight_f : Float
eight_f = lit 0x4020_0000_0000_0000

-- 2.0
abbrev two_f : Float
two_f = lit 0x4000_0000_0000_0000

pub root-3-of-8 : root_of eight_f 3 ≡ record { value = two_f }
unfolding root_of of_bits
root-3-of-8 = refl

pub root-13-of-1 : root_of one_f 13 ≡ record { value = one_f }
unfolding root_of of_bits
root-13-of-1 = refl

-- the nearest float to the root of 2 ends in ..bcd, but its square rounds to more than 2
pub root-2-of-2 : root_of two_f 2 ≡ record { value = lit 0x3ff6_a09e_667f_3bcc }
unfolding root_of of_bits
root-2-of-2 = refl

-- both zeros give +0
pub root-of-zero : root_of zero_f 3 ≡ record { value = zero_f }
unfolding root_of of_bits
root-of-zero = refl

pub root-of-minus-zero : root_of (lit 0x8000_0000_0000_0000) 3 ≡ record { value = zero_f }
unfolding root_of of_bits
root-of-minus-zero = refl

pub root-of-infinity : root_of (lit infinity_bits) 3 ≡ record { value = lit infinity_bits }
unfolding root_of of_bits
root-of-infinity = refl

pub root-of-nan : root_of nan 3 ≡ record { value = nan }
unfolding root_of of_bits
root-of-nan = refl

pub root-of-minus-one : root_of (lit 0xbff0_0000_0000_0000) 3 ≡ record { value = nan }
unfolding root_of of_bits
root-of-minus-one = refl

-- the orders next to 2 and 13
pub root-of-order-1 : (x : Float) → root_of x 1 ≡ record { value = nan }
unfolding root_of of_bits
root-of-order-1 x = refl

pub root-of-order-14 : (x : Float) → root_of x 14 ≡ record { value = nan }
unfolding root_of of_bits
root-of-order-14 x = refl
