-- Signed fractions are exact: their sums and products have the laws by which Horner's rule is the polynomial.
--     fractions    all of them
--     cancel       of two equal products with the value of a finite float that is not 0, the other factors are equal
-- Every law is an equation of whole numbers, multiplied out. Assumes nothing.
use mathlib.Core.Path.{◌≡◌, sym, ap}
use mathlib.Core.Bool.{true, false}
use Prim.Native.Nat.{ℕ, zero, suc, ◌+◌, ◌*◌}
use native.Mathlib.Nat.{zero-mul, mul-pos, zero-lt-suc, eq_of_mul-eq-mul_right}
use native.Mathlib.Omega.{arith}
use lib.IntN.{ℤ}
use lib.Ieee as Ieee
use lib.Ieee.{Float, nan, inf, fin, up, down}
use lib.Ieee.Fits.{up_pos, down_pos}
use Rattle.loops.proofs.Test.{differs}
use Rattle.numbers.specs.Float.{zero_f}
use Rattle.interpolation.specs.Fraction.{Fraction, ◌≈◌, ◌⊞◌, ◌⊠◌, one, Finite, exact_of}
use Rattle.interpolation.specs.Published.{Exact}

through : (x y z : Fraction) → x ≈ y → y ≈ z → x ≈ z
through x y z p q =
    eq_of_mul-eq-mul_right y.bottom y.proper
    (x.plus * z.bottom + z.minus * x.bottom) (z.plus * x.bottom + x.minus * z.bottom)
    (omega (arith, ap (λ (k : ℕ). k * z.bottom) p, ap (λ (k : ℕ). k * x.bottom) q))

sum_left : (x y z : Fraction) → x ≈ y → x ⊞ z ≈ y ⊞ z
sum_left x y z p = omega (arith, ap (λ (k : ℕ). k * (z.bottom * z.bottom)) p)

sum-right : (x y z : Fraction) → x ≈ y → z ⊞ x ≈ z ⊞ y
sum-right x y z p = omega (arith, ap (λ (k : ℕ). k * (z.bottom * z.bottom)) p)

product-left : (x y z : Fraction) → x ≈ y → x ⊠ z ≈ y ⊠ z
product-left x y z p =
    omega (arith, ap (λ (k : ℕ). k * (z.plus * z.bottom)) p, ap (λ (k : ℕ). k * (z.minus * z.bottom)) p)

product-right : (x y z : Fraction) → x ≈ y → z ⊠ x ≈ z ⊠ y
product-right x y z p =
    omega (arith, ap (λ (k : ℕ). k * (z.plus * z.bottom)) p, ap (λ (k : ℕ). k * (z.minus * z.bottom)) p)

-- k times the numerators and the denominator
pub scaled : (x y : Fraction) (k : ℕ) → y.plus ≡ x.plus * k → y.minus ≡ x.minus * k → y.bottom ≡ x.bottom * k
    → x ≈ y
scaled x y k p q r = rw (p, q, r) (omega arith)

distributes : (x y z : Fraction) → (x ⊞ y) ⊠ z ≈ x ⊠ z ⊞ y ⊠ z
distributes x y z =
    scaled ((x ⊞ y) ⊠ z) (x ⊠ z ⊞ y ⊠ z) z.bottom (omega arith) (omega arith) (omega arith)

associates : (x y z : Fraction) → (x ⊠ y) ⊠ z ≈ x ⊠ (y ⊠ z)
associates x y z = omega arith

pub fractions : Exact ◌≈◌ ◌⊞◌ ◌⊠◌ one
fractions = record {
  itself = λ x. omega arith;
  back = λ x y p. sym p;
  through = through;
  sums = λ x y z w p q. through (x ⊞ z) (y ⊞ z) (y ⊞ w) (sum_left x y z p) (sum-right z w y q);
  products = λ x y z w p q. through (x ⊠ z) (y ⊠ z) (y ⊠ w) (product-left x y z p) (product-right z w y q);
  commutes = λ x y. omega arith;
  associates = associates;
  distributes = distributes;
  units = λ x. omega arith;
}

cancel-size : (x y : Fraction) (m : ℕ) (e : ℤ)
    → (x.plus * y.bottom + y.minus * x.bottom) * (suc m * up e * down e)
    ≡ (y.plus * x.bottom + x.minus * y.bottom) * (suc m * up e * down e) → x ≈ y
cancel-size x y m e p =
    eq_of_mul-eq-mul_right (suc m * up e * down e) (mul-pos (mul-pos (zero-lt-suc m) (up_pos e)) (down_pos e))
    (x.plus * y.bottom + y.minus * x.bottom) (y.plus * x.bottom + x.minus * y.bottom) p

pub cancel : (h : Float) → Finite h → Ieee.eq h zero_f ≡ false → (x y : Fraction) → x ⊠ exact_of h ≈ y ⊠ exact_of h
    → x ≈ y
unfolding Ieee.eq Ieee.of_bits
cancel nan f n x y p = absurd f
cancel (inf s) f n x y p = absurd f
cancel (fin true zero e) f n x y p = differs (sym (simp zero-mul at n))
cancel (fin false zero e) f n x y p = differs (sym (simp zero-mul at n))
cancel (fin true (suc m) e) f n x y p = cancel-size x y m e (omega (arith, p))
cancel (fin false (suc m) e) f n x y p = cancel-size x y m e (omega (arith, p))
