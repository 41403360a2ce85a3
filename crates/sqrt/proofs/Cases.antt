-- The root by the tests that the code makes, and the bits of a number above 0.
--     root_of_zero, root_of_infinity, root_of_other     what the code returns without a digit
--     positive-bits                 the bits of a finite number above 0 lie above 0 and below infinity's
--     finite_bits, root_of_bits     those bits of such an x, and the root by them
--     tests                         these, by one name
-- Assumes nothing.
use mathlib.Core.Path.{◌≡◌, refl, sym, ◌∙◌}
use mathlib.Core.Bool.{Bool, true, false}
use Prim.Native.Nat.{ℕ, zero, suc, ◌*◌, ◌%◌, ◌<◌}
use native.Mathlib.Nat.{zero-mul, mul-pos, zero-lt-suc, mod-eq_of_lt}
use native.Mathlib.Omega.{arith}
use lib.IntN.{ℤ, pos}
use lib.Dec.{T}
use lib.Ieee as Ieee
use lib.Ieee.{Float, nan, inf, fin, binary64, up, down, top, of_bits, to_bits}
use lib.Ieee.Fits.{up_pos}
use lib.Ieee.Bits.{of_bits-to_bits, to_bits-lt}
use lib.Ieee.Positive.{positive}
use borrow.Author.Tests.{ne_eqb, lt-ltb}
use Rattle.loops.proofs.Test.{differs}
use Rattle.numbers.specs.Float.{lit, zero_f}
use Rattle.numbers.proofs.Bits.{nan_literal, past-infinity}
use Rattle.numbers.proofs.Sign.{is_positive}
use Rattle.sqrt.specs.Sqrt.{sqrt_bits, sqrt_of}

-- a number that is not 0, as the tests see it: its size times the other denominator, which is 1
size-pos : (m : ℕ) (e : ℤ) → 0 < suc m * up e * 1
size-pos m e = omega (arith, mul-pos (zero-lt-suc m) (up_pos e))

not-zero : (s : Bool) (m : ℕ) (e : ℤ) → Ieee.eq (fin s (suc m) e) zero_f ≡ false
unfolding Ieee.eq Ieee.of_bits
not-zero s m e = rw (ne_eqb (suc m * up e * 1) (0 * down e) (λ h. omega (arith, size-pos m e)))

is_zero : (s : Bool) (e : ℤ) → Ieee.eq (fin s zero e) zero_f ≡ true
unfolding Ieee.eq Ieee.of_bits
is_zero true e = rw (zero-mul (up e), zero-mul (down e))
is_zero false e = rw (zero-mul (up e), zero-mul (down e))

above_zero : (m : ℕ) (e : ℤ) → Ieee.lt zero_f (fin false (suc m) e) ≡ true
unfolding Ieee.lt Ieee.of_bits
above_zero m e = lt-ltb (0 * down e) (suc m * up e * 1) (omega (arith, size-pos m e))

-- x == 0.0
pub root_of_zero : (x : Float) → Ieee.eq x zero_f ≡ true → x ≡ sqrt_of x
unfolding sqrt_of Ieee.eq
root_of_zero nan h = refl
root_of_zero (inf true) h = differs h
root_of_zero (inf false) h = refl
root_of_zero (fin s zero e) h = refl
root_of_zero (fin s (suc m) e) h = differs (sym (not-zero s m e) ∙ h)

-- neither x == 0.0 nor x > 0.0
pub root_of_other : (x : Float) → Ieee.eq x zero_f ≡ false → Ieee.lt zero_f x ≡ false → nan ≡ sqrt_of x
unfolding sqrt_of Ieee.eq Ieee.lt Ieee.of_bits
root_of_other nan g h = refl
root_of_other (inf true) g h = refl
root_of_other (inf false) g h = differs (sym h)
root_of_other (fin s zero e) g h = differs (sym g ∙ is_zero s e)
root_of_other (fin true (suc m) e) g h = refl
root_of_other (fin false (suc m) e) g h = differs (sym h ∙ above_zero m e)

-- x == f64::INFINITY
pub root_of_infinity : (x : Float) → Ieee.eq x (lit 0x7ff0_0000_0000_0000) ≡ true → x ≡ sqrt_of x
unfolding sqrt_of Ieee.eq Ieee.of_bits
root_of_infinity nan h = differs h
root_of_infinity (inf true) h = differs h
root_of_infinity (inf false) h = refl
root_of_infinity (fin s m e) h = differs h

-- the bits of a number above 0: without the sign's bit, not those of 0, of an infinity or of a NaN
unsigned : (m : ℕ) (e : ℤ) → T (Ieee.fits binary64 (fin false m e)) → to_bits binary64 (fin false m e) < top binary64
unfolding to_bits Ieee.fits
unsigned m e f = omega (arith, to_bits-lt binary64 (fin true m e) f)

module _ (b m : ℕ) (e : ℤ) (is : of_bits binary64 b ≡ fin false (suc m) e) where
  no_zero : b ≡ 0 → ⊥
  unfolding of_bits
  no_zero h =
      let q : fin false 0 (pos 0) ≡ fin false (suc m) e = rw h at is in
      let z : ◌≡◌ {A = ℕ} 0 (suc m) = cc in
      omega arith

  no-infinity : b ≡ 0x7ff0_0000_0000_0000 → ⊥
  unfolding of_bits
  no-infinity h =
      let q : inf false ≡ fin false (suc m) e = rw h at is in
      let z : ◌≡◌ {A = ℕ} 0 1 = cc in
      omega arith

  no_nan : b < top binary64 → 0x7ff0_0000_0000_0000 < b → ⊥
  no_nan u h =
      let r : b % 0x8000_0000_0000_0000 ≡ b = mod-eq_of_lt u in
      let l : 0x7ff0_0000_0000_0000 < b % 0x8000_0000_0000_0000 = rw r h in
      let q : nan ≡ fin false (suc m) e = sym (past-infinity b l) ∙ is in
      let z : ◌≡◌ {A = ℕ} 0 1 = cc in
      omega arith

  between : b < top binary64 → (0 < b) × (b < 0x7ff0_0000_0000_0000)
  between u = omega (arith, no_zero, no-infinity, no_nan u)

pub positive-bits : (m : ℕ) (e : ℤ) → T (Ieee.fits binary64 (fin false (suc m) e))
    → (0 < to_bits binary64 (fin false (suc m) e)) × (to_bits binary64 (fin false (suc m) e) < 0x7ff0_0000_0000_0000)
positive-bits m e f =
    let x = fin false (suc m) e in
    between (to_bits binary64 x) m e (of_bits-to_bits binary64 x f) (unsigned (suc m) e f)

pub finite_bits : (x : Float) → T (Ieee.fits binary64 x) → T (positive x)
    → (0 < to_bits binary64 x) × (to_bits binary64 x < 0x7ff0_0000_0000_0000)
finite_bits nan f p = absurd p
finite_bits (inf s) f p = absurd p
finite_bits (fin true m e) f p = absurd p
finite_bits (fin false zero e) f p = absurd p
finite_bits (fin false (suc m) e) f p = positive-bits m e f

pub root_of_bits : (x : Float) → T (positive x) → of_bits binary64 (sqrt_bits (to_bits binary64 x)) ≡ sqrt_of x
unfolding sqrt_of
root_of_bits nan p = absurd p
root_of_bits (inf s) p = absurd p
root_of_bits (fin true m e) p = absurd p
root_of_bits (fin false zero e) p = absurd p
root_of_bits (fin false (suc m) e) p = refl

-- what the tests of `sqrt` say
pub ruleset tests = (root_of_zero, root_of_infinity, root_of_other, finite_bits, root_of_bits, is_positive, nan_literal)
