-- The sign, by the tests that the code makes.
--     abs_positive, abs_other   a number above 0 is its own magnitude; any other is subtracted from 0
--     negative-bits             the sign is set where the pattern is 2^63 or more
--     copysign_negative, copysign_positive    the magnitude, negated where the other's sign is set
--     signum_nan, signum_negative, signum_positive    1 with the sign of x, or a NaN
--     negative_is, nan_positive    the library's word for the sign, and that a NaN counts as positive
--     is_positive               what is above 0 and not infinity
-- Assumes nothing.
use mathlib.Core.Path.{◌≡◌, refl, sym}
use mathlib.Core.Bool.{Bool, true, false}
use Prim.Native.Nat.{zero, suc, ◌*◌, ◌^◌, ◌<◌}
use native.Mathlib.Nat.{zero-mul, zero-add, one-mul, mul-one, mul-pos, zero-lt-suc, pow-suc}
use native.Mathlib.Omega.{arith}
use lib.IntN.{ℤ, pos, negsuc}
use lib.Dec.{T, eqb→eq, leb, lt→ltb}
use lib.Ieee as Ieee
use lib.Ieee.{Float, nan, inf, fin, binary64, up, down, top}
use lib.Ieee.Fits.{up_pos}
use lib.Ieee.Bits.{to_bits-lt}
use lib.Ieee.Positive.{positive}
use borrow.Author.Tests.{lt-ltb, le-leb, lt-leb}
use Rattle.std.specs.Float.{is_sign_negative}
use Rattle.loops.proofs.Test.{differs}
use Rattle.numbers.specs.Float.{lit, zero_f}
use Rattle.numbers.specs.Sign.{abs_of, negative, signum_of, copysign_of}
use Rattle.numbers.proofs.Unique.{round-own}

-- a zero that fits has exponent 0
zero_exponent : (s : Bool) (e : ℤ) → T (Ieee.fits binary64 (fin s zero e)) → e ≡ pos 0
unfolding Ieee.fits
zero_exponent s (pos zero) h = refl
zero_exponent s (pos (suc k)) h =
    let q : 2 ^ suc k * 1 ≡ 1 = eqb→eq _ _ h in
    absurd (omega (arith, pow-suc 2 k))
zero_exponent s (negsuc k) h =
    let q : 1 * 2 ^ suc k ≡ 1 = eqb→eq _ _ h in
    absurd (omega (arith, pow-suc 2 k))

pub abs_positive : (x : Float) → Ieee.lt zero_f x ≡ true → abs_of x ≡ x
unfolding abs_of Ieee.lt Ieee.of_bits
abs_positive nan h = refl
abs_positive (inf true) h = differs h
abs_positive (inf false) h = refl
abs_positive (fin true m e) h = differs h
abs_positive (fin false m e) h = refl

pub abs_other : (x : Float) → T (Ieee.fits binary64 x) → Ieee.lt zero_f x ≡ false
    → abs_of x ≡ Ieee.sub binary64 zero_f x
unfolding abs_of Ieee.lt Ieee.sub Ieee.add Ieee.sum Ieee.neg Ieee.of_bits Ieee.fits
abs_other nan g h = refl
abs_other (inf true) g h = refl
abs_other (inf false) g h = differs (sym h)
abs_other (fin true zero e) g h = rw (zero_exponent true e g)
abs_other (fin false zero e) g h = rw (zero_exponent false e g)
abs_other (fin true (suc m) e) g h = rw (zero-mul, zero-add, mul-one, one-mul) (sym (round-own binary64 false m e g))
abs_other (fin false (suc m) e) g h =
    let p : 0 * down e < suc m * up e * 1 = omega (arith, mul-pos (zero-lt-suc m) (up_pos e), zero-mul (down e)) in
    differs (sym (rw (lt-ltb (0 * down e) (suc m * up e * 1) p) at h))

-- a pattern's sign is its highest bit
pub negative-bits : (x : Float) → T (Ieee.fits binary64 x) → leb (top binary64) (Ieee.to_bits binary64 x) ≡ negative x
unfolding negative Ieee.to_bits Ieee.fits
negative-bits nan g = refl
negative-bits (inf true) g = refl
negative-bits (inf false) g = refl
negative-bits (fin true m e) g = le-leb (top binary64) (Ieee.to_bits binary64 (fin true m e)) (omega arith)
negative-bits (fin false m e) g =
    lt-leb (top binary64) (Ieee.to_bits binary64 (fin false m e)) (omega (arith, to_bits-lt binary64 (fin true m e) g))

pub copysign_negative : (x y : Float) → negative y ≡ true → Ieee.neg (abs_of x) ≡ copysign_of x y
unfolding copysign_of abs_of Ieee.neg
copysign_negative nan y h = refl
copysign_negative (inf s) y h = rw h
copysign_negative (fin s m e) y h = rw h

pub copysign_positive : (x y : Float) → negative y ≡ false → abs_of x ≡ copysign_of x y
unfolding copysign_of abs_of
copysign_positive nan y h = refl
copysign_positive (inf s) y h = rw h
copysign_positive (fin s m e) y h = rw h

pub signum_nan : (x : Float) → Ieee.is_nan x ≡ true → x ≡ signum_of x
unfolding Ieee.is_nan signum_of
signum_nan nan h = refl
signum_nan (inf s) h = differs h
signum_nan (fin s m e) h = differs h

pub signum_negative : (x : Float) → negative x ≡ true → Ieee.neg (lit 0x3ff0_0000_0000_0000) ≡ signum_of x
unfolding negative signum_of Ieee.neg Ieee.of_bits
signum_negative nan h = differs h
signum_negative (inf s) h = rw h
signum_negative (fin s m e) h = rw h

pub signum_positive : (x : Float) → Ieee.is_nan x ≡ false → negative x ≡ false → lit 0x3ff0_0000_0000_0000 ≡ signum_of x
unfolding Ieee.is_nan negative signum_of Ieee.of_bits
signum_positive nan g h = differs (sym g)
signum_positive (inf s) g h = rw h
signum_positive (fin s m e) g h = rw h

-- for `signum`'s attribute
pub ruleset signums = (signum_nan, signum_negative, signum_positive)

pub negative_is : (x : Float) → is_sign_negative x ≡ negative x
unfolding is_sign_negative negative
negative_is nan = refl
negative_is (inf s) = refl
negative_is (fin s m e) = refl

pub nan_positive : (x : Float) → Ieee.is_nan x ≡ true → negative x ≡ false
unfolding Ieee.is_nan negative
nan_positive nan h = refl
nan_positive (inf s) h = differs h
nan_positive (fin s m e) h = differs h

-- a number above 0, short of infinity
pub is_positive : (x : Float) → Ieee.eq x (lit 0x7ff0_0000_0000_0000) ≡ false → Ieee.lt zero_f x ≡ true
    → T (positive x)
unfolding Ieee.eq Ieee.lt Ieee.of_bits
is_positive nan g h = differs h
is_positive (inf true) g h = differs h
is_positive (inf false) g h = differs (sym g)
is_positive (fin true zero e) g h = differs h
is_positive (fin false zero e) g h = differs (simp zero-mul at h)
is_positive (fin true (suc m) e) g h = differs h
is_positive (fin false (suc m) e) g h = lt→ltb 0 (suc m) (zero-lt-suc m)
