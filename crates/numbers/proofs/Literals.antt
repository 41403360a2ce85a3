-- Each constant is the float nearest to the decimal that it is named after, by computation.
-- Assumes nothing.
use mathlib.Core.Path.{◌≡◌, refl}
use mathlib.Core.Bool.{false}
use Prim.Native.Nat.{ℕ, ◌^◌}
use lib.Ieee.{Float, binary64, round, of_bits}
use Rattle.numbers.specs.Float as F

-- a / b, rounded
unfoldable nearest : ℕ → ℕ → Float
unfolding round
nearest a b = round binary64 false a b

literals :
    (F.one_f ≡ nearest 1 1)
    × (F.uround ≡ nearest 1 (2 ^ 52))
    × (F.srur ≡ nearest 1 (2 ^ 26))
    × (F.d0_1 ≡ nearest 1 10)
    × (F.d0_2 ≡ nearest 1 5)
    × (F.d0_25 ≡ nearest 1 4)
    × (F.d0_3 ≡ nearest 3 10)
    × (F.d0_5 ≡ nearest 1 2)
    × (F.d0_7 ≡ nearest 7 10)
    × (F.d1_1 ≡ nearest 11 10)
    × (F.d1_2 ≡ nearest 6 5)
    × (F.d1_3 ≡ nearest 13 10)
    × (F.d1_4 ≡ nearest 7 5)
    × (F.d1_5 ≡ nearest 3 2)
    × (F.d1_00001 ≡ nearest 100001 100000)
    × (F.d1_2e_6 ≡ nearest 3 2500000)
    × (F.d1_3e_6 ≡ nearest 13 10000000)
    × (F.d1_4e_6 ≡ nearest 7 5000000)
    × (F.d1e_6 ≡ nearest 1 1000000)
    × (F.d1e_5 ≡ nearest 1 100000)
    × (F.d1e_3 ≡ nearest 1 1000)
    × (F.d2 ≡ nearest 2 1)
    × (F.d3 ≡ nearest 3 1)
    × (F.d5 ≡ nearest 5 1)
    × (F.d100 ≡ nearest 100 1)
    × (F.d1000 ≡ nearest 1000 1)
    × (F.d1024 ≡ nearest 1024 1)
    × (F.d10000 ≡ nearest 10000 1)
unfolding nearest of_bits
literals = (
  refl,
  refl,
  refl,
  refl,
  refl,
  refl,
  refl,
  refl,
  refl,
  refl,
  refl,
  refl,
  refl,
  refl,
  refl,
  refl,
  refl,
  refl,
  refl,
  refl,
  refl,
  refl,
  refl,
  refl,
  refl,
  refl,
  refl,
  refl,
)
