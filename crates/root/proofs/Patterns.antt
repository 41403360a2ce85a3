-- The patterns up to infinity's are the floats without a sign, in their order.
--     value                     a pattern below infinity's is the float of size `units_of`, in units of 2^-1074
--     units_mono                a larger pattern has no smaller size
--     bits-zero, bits_positive, bits-infinity    +0's pattern, those of the positive floats, and infinity's
--     bits-unsigned, bits-le, bits_of            no sign, the order, and the pattern of a float without a sign
-- Assumes nothing.
use mathlib.Core.Path.{◌≡◌, refl, sym, ap, ◌∙◌}
use mathlib.Core.Bool.{true, false}
use mathlib.Core.Logic.{inl, inr}
use Prim.Native.Nat.{ℕ, zero, suc, ◌+◌, ◌*◌, ◌/◌, ◌%◌, ◌^◌, ◌≤◌, ◌<◌}
use native.Mathlib.Nat.{mod-eq_of_lt, mul-one, pow-succ', eq-or-lt_of_le}
use native.Mathlib.Nat.{mul-le-mul_left, mul-le-mul_right, mul-lt-mul_of_pos_right}
use native.Mathlib.Omega.{arith}
use lib.IntN.{pos}
use lib.Dec.{T}
use lib.Pow.{pow_pos, pow_mono}
use lib.Ieee.{Float, nan, inf, fin, binary64, top, of_fields, of_bits, to_bits, nan_bits, is_nan, fits, le}
use lib.Ieee.Bits.{of_bits-to_bits, nan_bits_is, nan_bits_above}
use lib.Ieee.Exact.{HasValue, odd_sign}
use lib.Ieee.Order.{le_of_values}
use lib.Ieee.Positive.{positive, positive_of_value}
use borrow.Author.Tests.{leb-false, ltb-false, lt-leb, ne_eqb}
use Rattle.numbers.specs.Sign.{negative}
use Rattle.numbers.proofs.Sign.{negative-bits}
use Rattle.root.specs.Largest.{infinity_bits, field_units, units_of, unsigned}

fields : (x t : ℕ) → x < 2047 → HasValue (of_fields binary64 false x t) false (field_units x t) (2 ^ 1074)
unfolding of_fields field_units
fields zero t h = rw mul-one at (odd_sign 53 false t 0 1074)
fields (suc x) t h = rw (ne_eqb (suc x) 2047 (λ q. omega arith)) (odd_sign 53 false (2 ^ 52 + t) x 1074)

pub value : (b : ℕ) → b < infinity_bits → HasValue (of_bits binary64 b) false (units_of b) (2 ^ 1074)
unfolding of_bits units_of
value b h =
    let r : b % top binary64 ≡ b = mod-eq_of_lt (omega arith) in
    rw (lt-leb (top binary64) b (omega arith), r) (fields (b / 2 ^ 52) (b % 2 ^ 52) (omega arith))

-- ---- the order of the patterns
field_below : (x t : ℕ) → t < 2 ^ 52 → field_units x t < 2 ^ 52 * 2 ^ x
unfolding field_units
field_below zero t h = omega arith
field_below (suc x) t h =
    let w : (2 ^ 52 + t) * 2 ^ x < 2 ^ 53 * 2 ^ x = mul-lt-mul_of_pos_right (omega arith) (pow_pos x) in
    omega (arith, pow-succ' 2 x)

field-from : (x t : ℕ) → 2 ^ 52 * 2 ^ x ≤ field_units (suc x) t
unfolding field_units
field-from x t = mul-le-mul_right (2 ^ x) (omega arith)

field-digits : (x t u : ℕ) → t ≤ u → field_units x t ≤ field_units x u
unfolding field_units
field-digits zero t u h = h
field-digits (suc x) t u h = mul-le-mul_right (2 ^ x) (omega arith)

field_mono : (x y t u : ℕ) → t < 2 ^ 52 → x < y → field_units x t ≤ field_units y u
field_mono x zero t u h l = absurd (omega arith)
field_mono x (suc y) t u h l =
    omega (arith, field_below x t h, field-from y u, mul-le-mul_left (2 ^ 52) (pow_mono {i = x} {j = y} (omega arith)))

pub units_mono : (a b : ℕ) → a ≤ b → units_of a ≤ units_of b
unfolding units_of
units_mono a b h =
    let q : a / 2 ^ 52 ≤ b / 2 ^ 52 = omega arith in
    elim (eq-or-lt_of_le q) [
      | inl e ↦ rw e (field-digits (b / 2 ^ 52) (a % 2 ^ 52) (b % 2 ^ 52) (omega arith))
      | inr l ↦ field_mono (a / 2 ^ 52) (b / 2 ^ 52) (a % 2 ^ 52) (b % 2 ^ 52) (omega arith) l
    ]

units-one : units_of 1 ≡ 1
unfolding units_of
units-one = refl

-- ---- zero, the positive floats, infinity
pub bits-zero : of_bits binary64 0 ≡ fin false 0 (pos 0)
unfolding of_bits
bits-zero = refl

pub bits-infinity : of_bits binary64 infinity_bits ≡ inf false
unfolding of_bits
bits-infinity = refl

pub bits_positive : (b : ℕ) → 0 < b → b < infinity_bits → T (positive (of_bits binary64 b))
bits_positive b p h =
    positive_of_value (of_bits binary64 b) (units_of b) (2 ^ 1074) (value b h)
    (omega (arith, units-one, units_mono 1 b p))

value-unsigned : (x : Float) (a c : ℕ) → HasValue x false a c → T (unsigned x)
value-unsigned nan a c v = absurd v
value-unsigned (inf s) a c v = absurd v
value-unsigned (fin s m e) a c v = rw v.0 tt

pub bits-unsigned : (b : ℕ) → b < infinity_bits → T (unsigned (of_bits binary64 b))
bits-unsigned b h = value-unsigned (of_bits binary64 b) (units_of b) (2 ^ 1074) (value b h)

pub bits-le : (a b : ℕ) → a ≤ b → b < infinity_bits → T (le (of_bits binary64 a) (of_bits binary64 b))
bits-le a b h l =
    le_of_values (of_bits binary64 a) (of_bits binary64 b) (units_of a) (2 ^ 1074) (units_of b) (2 ^ 1074)
    (pow_pos 1074) (pow_pos 1074) (value a (omega arith)) (value b l) (mul-le-mul_right (2 ^ 1074) (units_mono a b h))

-- ---- the pattern of a float without a sign
no_sign : (z : Float) → T (unsigned z) → negative z ≡ false
unfolding negative
no_sign nan p = absurd p
no_sign (inf true) p = absurd p
no_sign (inf false) p = refl
no_sign (fin true m e) p = absurd p
no_sign (fin false m e) p = refl

no_nan : (z : Float) → T (unsigned z) → is_nan z ≡ false
unfolding is_nan
no_nan nan p = absurd p
no_nan (inf s) p = refl
no_nan (fin s m e) p = refl

pub bits_of : (z : Float) → T (unsigned z) → T (fits binary64 z) → to_bits binary64 z ≤ infinity_bits
bits_of z p f =
    let b = to_bits binary64 z in
    let l : b < top binary64 = leb-false (top binary64) b (negative-bits z f ∙ no_sign z p) in
    let r : b % top binary64 ≡ b = mod-eq_of_lt l in
    let n : nan_bits binary64 b ≡ false =
    nan_bits_is binary64 b ∙ ap is_nan (of_bits-to_bits binary64 z f) ∙ no_nan z p in
    rw r at (ltb-false infinity_bits (b % top binary64) (sym (nan_bits_above binary64 b) ∙ n))
