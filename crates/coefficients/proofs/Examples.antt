-- Sums (1) and (2) of document 01, the two entries that `cfode` leaves 0 in Adams' tesco, table 0, which is all zeros,
-- and the decimals of SM1: by computation.
-- Assumes nothing.
use mathlib.Core.Path.{◌≡◌, refl}
use mathlib.Core.Bool.{false}
use mathlib.Core.List.{[], ◌∷◌, map}
use Prim.Native.Nat.{ℕ}
use lib.Ieee.{Float, binary64, of_bits, round}
use Rattle.numbers.specs.Float.{lit, zero_f, one_f, d0_5}
use Rattle.coefficients.specs.Cfode.{cfode_of}
use Rattle.coefficients.specs.Table.{elco_of, tesco_of, cm1_of, cm2_of, sm1}

-- (1) Adams order 1: 1, 1; order 2: 0.5, 1, 0.5
pub sum-1 :
    (elco_of 1 1 0 ≡ one_f)
    × (elco_of 1 1 1 ≡ one_f)
    × (elco_of 1 2 0 ≡ d0_5)
    × (elco_of 1 2 1 ≡ one_f)
    × (elco_of 1 2 2 ≡ d0_5)
unfolding elco_of cfode_of of_bits
sum-1 = (refl, refl, refl, refl, refl)

-- (2) BDF order 2 error entries: 1, 4.5, 6
pub sum-2 :
    (tesco_of 2 2 0 ≡ one_f)
    × (tesco_of 2 2 1 ≡ lit 0x4012_0000_0000_0000)
    × (tesco_of 2 2 2 ≡ lit 0x4018_0000_0000_0000)
unfolding tesco_of cfode_of of_bits
sum-2 = (refl, refl, refl)

-- there is no order 0 and no order 13
pub no-order : (tesco_of 1 1 0 ≡ zero_f) × (tesco_of 1 12 2 ≡ zero_f)
unfolding tesco_of cfode_of of_bits
no-order = (refl, refl)

-- before the first setup
pub none_yet : (q i : ℕ)
    → (elco_of 0 q i ≡ zero_f) × (tesco_of 0 q i ≡ zero_f) × (cm1_of 0 q ≡ zero_f) × (cm2_of 0 q ≡ zero_f)
unfolding elco_of tesco_of cm1_of cm2_of
none_yet q i = (refl, refl, refl, refl)

-- n / 1000, rounded
unfoldable pub thousandths : ℕ → Float
unfolding round
thousandths n = round binary64 false n 1000

-- the stability limits are the floats nearest to their decimals
pub limits : sm1 ≡ map thousandths (500 ∷ 575 ∷ 550 ∷ 450 ∷ 350 ∷ 250 ∷ 200 ∷ 150 ∷ 100 ∷ 75 ∷ 50 ∷ 25 ∷ [])
unfolding thousandths of_bits
limits = refl
