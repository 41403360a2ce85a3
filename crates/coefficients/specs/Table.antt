-- The table by name: elco, tesco, cm1 and cm2 of the table in force and an order q from 1 on, and SM1.
-- The table in force is 0 before the first setup (`stoda_first_call_init`), where all are 0; 1 is Adams', 2 is BDF's.
-- Table t + 1 has its elco from place 192 t of `cfode_of` on, 13 numbers an order, and its tesco 156 later, 3 an order.
-- Of cm1 and cm2 nothing is claimed but these products; SM1's decimals are those of the Rust.
use Rattle.std.specs.Prelude.{List, [], ◌∷◌, ℕ, zero, suc, ◌+◌, ◌-◌, ◌*◌, get_or, Float}
use Rattle.std.specs.Float.{nan}
use Rattle.numbers.specs.Float.{◌⊗◌, lit, zero_f}
use Rattle.coefficients.specs.Cfode.{cfode_of}

-- coefficient i of order q
unfoldable pub elco_of : ℕ → ℕ → ℕ → Float
elco_of zero q i = zero_f
elco_of (suc t) q i = get_or cfode_of (192 * t + 13 * (q - 1) + i) nan

-- error entry i of order q
unfoldable pub tesco_of : ℕ → ℕ → ℕ → Float
tesco_of zero q i = zero_f
tesco_of (suc t) q i = get_or cfode_of (192 * t + 156 + 3 * (q - 1) + i) nan

-- the error constants by which the families are compared: the first setup sets those of both families
unfoldable pub cm1_of : ℕ → ℕ → Float
cm1_of zero q = zero_f
cm1_of (suc t) q = tesco_of 1 q 1 ⊗ elco_of 1 q q

unfoldable pub cm2_of : ℕ → ℕ → Float
cm2_of zero q = zero_f
cm2_of (suc t) q = tesco_of 2 q 1 ⊗ elco_of 2 q q

-- SM1, the Adams stability limits of orders 1 to 12:
-- 0.5, 0.575, 0.55, 0.45, 0.35, 0.25, 0.2, 0.15, 0.1, 0.075, 0.05, 0.025
abbrev pub sm1 : List Float
sm1 =
    lit 0x3fe0_0000_0000_0000
    ∷ lit 0x3fe2_6666_6666_6666
    ∷ lit 0x3fe1_9999_9999_999a
    ∷ lit 0x3fdc_cccc_cccc_cccd
    ∷ lit 0x3fd6_6666_6666_6666
    ∷ lit 0x3fd0_0000_0000_0000
    ∷ lit 0x3fc9_9999_9999_999a
    ∷ lit 0x3fc3_3333_3333_3333
    ∷ lit 0x3fb9_9999_9999_999a
    ∷ lit 0x3fb3_3333_3333_3333
    ∷ lit 0x3fa9_9999_9999_999a
    ∷ lit 0x3f99_9999_9999_999a
    ∷ []

unfoldable pub sm1_of : ℕ → Float
sm1_of q = get_or sm1 (q - 1) nan
