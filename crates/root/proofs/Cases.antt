-- Which case of `root_of` an order and of `root_value` a float is, by the tests that the code makes.
-- Assumes nothing.
use mathlib.Core.Path.{◌≡◌, refl, sym}
use mathlib.Core.Bool.{true, false}
use Prim.Native.Nat.{ℕ, zero, suc, ◌*◌, ◌≤◌, ◌<◌}
use native.Mathlib.Nat.{zero-mul, mul-pos, zero-lt-suc}
use native.Mathlib.Decide.{dec_le}
use native.Mathlib.Omega.{arith}
use lib.IntN.{ℤ}
use lib.Ieee as Ieee
use lib.Ieee.{Float, nan, inf, fin, binary64, up, down}
use lib.Ieee.Fits.{up_pos}
use borrow.Author.Tests.{lt-ltb, ne_eqb, le-leb, lt-leb}
use Rattle.loops.proofs.Test.{differs}
use Rattle.numbers.specs.Float.{lit, zero_f}
use Rattle.root.specs.Root.{root_bits, root_value, root_of}
use Rattle.root.specs.Largest.{infinity_bits}

pub accepted : (x : Float) (k : ℕ) → 2 ≤ k → k ≤ 13 → root_of x k ≡ record { value = root_value x k }
unfolding root_of
accepted x k g h = rw (le-leb 2 k g, le-leb k 13 h)

pub refused : (x : Float) (k : ℕ) → (2 ≤ k → k ≤ 13 → ⊥) → root_of x k ≡ record { value = nan }
unfolding root_of
refused x k h = elim (dec_le 2 k) [
  | yes g ↦ rw (le-leb 2 k g, lt-leb k 13 (omega (arith, h g)))
  | no g ↦ rw (lt-leb 2 k (omega arith))
]

-- a number other than 0, over the denominator of 0
size-pos : (m : ℕ) (e : ℤ) → 0 * down e < suc m * up e * 1
size-pos m e = omega (arith, mul-pos (zero-lt-suc m) (up_pos e), zero-mul (down e))

pub of_zero : (x : Float) (k : ℕ) → Ieee.eq x zero_f ≡ true → zero_f ≡ root_value x k
unfolding root_value Ieee.eq Ieee.of_bits
of_zero nan k h = differs h
of_zero (inf true) k h = differs h
of_zero (inf false) k h = differs h
of_zero (fin s zero e) k h = refl
of_zero (fin true (suc m) e) k h =
    differs (rw (ne_eqb (suc m * up e * 1) (0 * down e) (λ q. omega (arith, size-pos m e))) at h)
of_zero (fin false (suc m) e) k h =
    differs (rw (ne_eqb (suc m * up e * 1) (0 * down e) (λ q. omega (arith, size-pos m e))) at h)

pub of_infinity : (x : Float) (k : ℕ) → Ieee.eq x (lit infinity_bits) ≡ true → x ≡ root_value x k
unfolding root_value Ieee.eq Ieee.of_bits
of_infinity nan k h = differs h
of_infinity (inf true) k h = differs h
of_infinity (inf false) k h = refl
of_infinity (fin s m e) k h = differs h

pub of_positive : (x : Float) (k : ℕ) → Ieee.eq x (lit infinity_bits) ≡ false → Ieee.lt zero_f x ≡ true
    → Ieee.of_bits binary64 (root_bits x k) ≡ root_value x k
unfolding root_value Ieee.eq Ieee.lt Ieee.of_bits
of_positive nan k g h = differs h
of_positive (inf true) k g h = differs h
of_positive (inf false) k g h = differs (sym g)
of_positive (fin true zero e) k g h = differs h
of_positive (fin false zero e) k g h = differs (simp zero-mul at h)
of_positive (fin true (suc m) e) k g h = differs h
of_positive (fin false (suc m) e) k g h = refl

pub of_other : (x : Float) (k : ℕ) → Ieee.eq x zero_f ≡ false → Ieee.eq x (lit infinity_bits) ≡ false
    → Ieee.lt zero_f x ≡ false → nan ≡ root_value x k
unfolding root_value Ieee.eq Ieee.lt Ieee.of_bits
of_other nan k f g h = refl
of_other (inf true) k f g h = refl
of_other (inf false) k f g h = differs (sym g)
of_other (fin true zero e) k f g h = differs (sym (simp zero-mul at f))
of_other (fin false zero e) k f g h = differs (sym (simp zero-mul at f))
of_other (fin true (suc m) e) k f g h = refl
of_other (fin false (suc m) e) k f g h =
    differs (sym (rw (lt-ltb (0 * down e) (suc m * up e * 1) (size-pos m e)) at h))
