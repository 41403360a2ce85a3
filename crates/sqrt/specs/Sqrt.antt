-- The square root by integer digits: normalise, make the exponent even, 54 digits of the root, round.
-- A finite x above 0 is digits · 2^(exponent - 1127); with an odd exponent its root is that of digits · 2^54, times
-- 2^((exponent - 1127)/2 - 27). That the result is the correctly rounded root is said in Rounded.antt.
use Rattle.std.specs.Prelude.{true, false, cond, ℕ, zero, suc, ◌+◌, ◌-◌, ◌*◌, ◌/◌, ◌%◌, ◌^◌, eqb, leb, Float}
use Rattle.std.specs.Int.Count.{count_leading_zeros}
use Rattle.std.specs.Float.Ieee as Ieee
use Rattle.std.specs.Float.{nan, inf, fin, binary64}
use Rattle.loops.specs.For.{for, times}
use Rattle.sqrt.specs.declared.Normal.{Normal}
use Rattle.sqrt.specs.declared.Digits.{Digits}

-- the weight of the exponent's field, 2^52
abbrev pub hidden : ℕ
hidden = 0x10_0000_0000_0000

-- a subnormal (field 0) is moved up until its leading digit stands in place 52: leading zeros of the fraction, less
-- the 11 above place 52
abbrev pub shift_of : ℕ → ℕ
shift_of fraction = count_leading_zeros 64 fraction - 11

unfoldable pub normal_at : ℕ → ℕ → Normal
normal_at zero fraction = record { digits = fraction * 2 ^ shift_of fraction; exponent = 53 - shift_of fraction }
normal_at (suc field) fraction = record { digits = fraction + hidden; exponent = suc field + 52 }

unfoldable pub normal_of : ℕ → Normal
unfolding normal_at
normal_of bits = normal_at (bits / hidden) (bits % hidden)

-- the odd exponent's treatment, here alone: an even one lends a factor 2 to the digits
unfoldable pub even_of : Normal → Normal
even_of x =
    cond (eqb (x.exponent % 2) 0)
    (record { digits = 2 * x.digits; exponent = x.exponent - 1 })
    x

-- the next two digits of the number come down to the remainder; the root's next digit is 1 if 4·root + 1 still fits
abbrev pub tried_of : ℕ → ℕ → ℕ → Digits
tried_of rest remainder root =
    cond (leb (4 * root + 1) remainder)
    (record { rest = rest; remainder = remainder - (4 * root + 1); root = 2 * root + 1 })
    (record { rest = rest; remainder = remainder; root = 2 * root })

unfoldable pub digit_of : Digits → Digits
digit_of s = tried_of (4 * (s.rest % hidden)) (4 * s.remainder + s.rest / hidden) s.root

abbrev pub digit_turn : ℕ → Digits → Digits
digit_turn i s = digit_of s

unfoldable pub digits_of : ℕ → ℕ
unfolding times digit_of
digits_of n = (for 0 54 digit_turn (record { rest = n; remainder = 0; root = 0 })).root

-- 53 digits are kept and the 54th rounds: it is never followed by zeros alone, so there is no tie
unfoldable pub sqrt_bits : ℕ → ℕ
unfolding normal_of even_of digits_of
sqrt_bits bits =
    let x = even_of (normal_of bits) in
    let q = digits_of x.digits in
    ((x.exponent + 971) / 2 - 1) * hidden + (q / 2 + q % 2)

unfoldable pub sqrt_of : Float → Float
unfolding sqrt_bits Ieee.to_bits Ieee.of_bits
sqrt_of nan = nan
sqrt_of (inf true) = nan
sqrt_of (inf false) = inf false
sqrt_of (fin s zero e) = fin s zero e
sqrt_of (fin true (suc m) e) = nan
sqrt_of (fin false (suc m) e) = Ieee.of_bits binary64 (sqrt_bits (Ieee.to_bits binary64 (fin false (suc m) e)))
