-- Floats without a sign, zero and infinity included: their order is the one of their values, infinity on top, and
-- a product with a positive float grows with both factors.
--     zero-le, le-inf, infinity-above              the order
--     lt-is, above-unsigned                        x is below y where y is not at most x, and then y has no sign
--     mul-unsigned, mul-up                         products have no sign either, and keep the order
-- Assumes nothing.
use mathlib.Core.Path.{◌≡◌, refl, sym, ◌∙◌, subst}
use mathlib.Core.Bool.{Bool, true, false, not, cond}
use mathlib.Core.Logic.{⊎_elim}
use Prim.Native.Nat.{ℕ, zero, suc, ◌+◌, ◌*◌, ◌^◌, ◌≤◌}
use native.Mathlib.Nat.{zero-mul, mul-pos, mul-le-mul, mul-mul-mul_comm}
use native.Mathlib.Omega.{arith}
use lib.IntN.{ℤ, pos}
use lib.Dec.{T, ltb, leb, ltb→lt}
use lib.Ieee.{Float, nan, inf, fin, Format, prec, emax, low, up, down, units, odd, round, mul, le, lt}
use lib.Ieee.Fits.{down_pos, round_is}
use lib.Ieee.Bits.{is_true}
use lib.Ieee.Order.{round_mono, kept, drop}
use lib.Ieee.Positive.{positive, num, den, den_pos, le→cross}
use borrow.Author.Tests.{leb-true, le-leb, ne_eqb}
use Rattle.loops.proofs.Test.{differs}
use Rattle.numbers.proofs.Order.{Number, at-most, nan-or, total, lt_not_le}
use Rattle.root.specs.Largest.{unsigned}

-- ---- the order, as one comparison of numbers
le-fin : (m n : ℕ) (e d : ℤ) → le (fin false m e) (fin false n d) ≡ leb (m * up e * down d) (n * up d * down e)
unfolding le
le-fin m n e d = at-most (m * up e * down d) (n * up d * down e) _ refl

pub positive-unsigned : (x : Float) → T (positive x) → T (unsigned x)
positive-unsigned nan p = absurd p
positive-unsigned (inf s) p = absurd p
positive-unsigned (fin true m e) p = absurd p
positive-unsigned (fin false m e) p = tt

pub le-inf : (x : Float) → T (unsigned x) → le x (inf false) ≡ true
unfolding le
le-inf nan p = absurd p
le-inf (inf true) p = absurd p
le-inf (inf false) p = refl
le-inf (fin true m e) p = absurd p
le-inf (fin false m e) p = refl

pub zero-le : (x : Float) → T (unsigned x) → le (fin false 0 (pos 0)) x ≡ true
zero-le nan p = absurd p
zero-le (inf true) p = absurd p
zero-le (inf false) p = le-inf (fin false 0 (pos 0)) tt
zero-le (fin true m e) p = absurd p
zero-le (fin false m e) p =
    le-fin 0 m (pos 0) e ∙ le-leb (0 * up (pos 0) * down e) (m * up e * down (pos 0)) (simp zero-mul (omega arith))

number : (x : Float) → T (unsigned x) → Number x
number x p = ⊎_elim (λ e. absurd (subst (λ (z : Float). T (unsigned z)) e p)) (λ n. n) (nan-or x)

pub lt-is : (x y : Float) → T (unsigned x) → T (unsigned y) → lt x y ≡ not (le y x)
lt-is x y p q = by (lt x y) refl (le y x) refl
  where
    by : (s : Bool) → lt x y ≡ s → (t : Bool) → le y x ≡ t → s ≡ not t
    by true e true f = absurd (lt_not_le x y e f)
    by true e false f = refl
    by false e true f = refl
    by false e false f = differs (sym f ∙ total x y (number x p) (number y q) e)

inf-le-fin : (n : ℕ) (d : ℤ) → le (inf false) (fin false n d) ≡ false
unfolding le
inf-le-fin n d = refl

pub infinity-above : (x : Float) → T (positive x) → le (inf false) x ≡ false
infinity-above nan p = absurd p
infinity-above (inf s) p = absurd p
infinity-above (fin true m e) p = absurd p
infinity-above (fin false m e) p = inf-le-fin m e

-- what is above a float without a sign has none
pub above-unsigned : (x y : Float) → T (unsigned x) → lt x y ≡ true → T (unsigned y)
unfolding lt
above-unsigned nan y p h = absurd p
above-unsigned (inf true) y p h = absurd p
above-unsigned (inf false) nan p h = differs h
above-unsigned (inf false) (inf t) p h = differs h
above-unsigned (inf false) (fin t n d) p h = differs h
above-unsigned (fin true m e) y p h = absurd p
above-unsigned (fin false m e) nan p h = differs h
above-unsigned (fin false m e) (inf true) p h = differs h
above-unsigned (fin false m e) (inf false) p h = tt
above-unsigned (fin false m e) (fin true n d) p h = differs h
above-unsigned (fin false m e) (fin false n d) p h = tt

-- ---- products with a positive float
odd-unsigned : (d q k l : ℕ) → T (unsigned (odd d false q k l))
unfolding odd
odd-unsigned d zero k l = tt
odd-unsigned d (suc q) k l = tt

units-unsigned : (f : Format) (q k : ℕ) → T (unsigned (units f false q k))
unfolding units
units-unsigned f q k = pick (ltb (q * 2 ^ k) (2 ^ (low f + suc (emax f)))) (odd-unsigned (suc (prec f)) q k (low f))
  where
    pick : (b : Bool) → T (unsigned (odd (suc (prec f)) false q k (low f)))
        → T (unsigned (cond b (odd (suc (prec f)) false q k (low f)) (inf false)))
    pick true p = p
    pick false p = tt

round-unsigned : (f : Format) (a c : ℕ) → T (unsigned (round f false a c))
round-unsigned f a c =
    let n = a * 2 ^ low f in
    rw (round_is f false a c) (units-unsigned f (kept (prec f) n c) (drop (prec f) n c))

module _ (f : Format) where
  mul-inf : (y : Float) → T (positive y) → mul f (inf false) y ≡ inf false
  unfolding mul
  mul-inf nan p = absurd p
  mul-inf (inf s) p = absurd p
  mul-inf (fin true n d) p = absurd p
  mul-inf (fin false n d) p =
      let h = ltb→lt 0 n p in
      rw (ne_eqb n 0 (λ q. omega arith))

  mul-fin : (m : ℕ) (e : ℤ) (y : Float) → T (positive y)
      → mul f (fin false m e) y ≡ round f false (m * up e * num y) (down e * den y)
  unfolding mul
  mul-fin m e nan p = absurd p
  mul-fin m e (inf s) p = absurd p
  mul-fin m e (fin true n d) p = absurd p
  mul-fin m e (fin false n d) p = refl

  pub mul-unsigned : (x y : Float) → T (unsigned x) → T (positive y) → T (unsigned (mul f x y))
  mul-unsigned nan y p q = absurd p
  mul-unsigned (inf true) y p q = absurd p
  mul-unsigned (inf false) y p q = rw (mul-inf y q) tt
  mul-unsigned (fin true m e) y p q = absurd p
  mul-unsigned (fin false m e) y p q = rw (mul-fin m e y q) (round-unsigned f (m * up e * num y) (down e * den y))

  pub mul-up : (p q y z : Float) → T (unsigned p) → T (unsigned q) → T (positive y) → T (positive z)
      → le p q ≡ true → T (le y z) → le (mul f p y) (mul f q z) ≡ true
  mul-up nan q y z P Q Y Z h k = absurd P
  mul-up (inf true) q y z P Q Y Z h k = absurd P
  mul-up (fin true m e) q y z P Q Y Z h k = absurd P
  mul-up (inf false) nan y z P Q Y Z h k = absurd Q
  mul-up (inf false) (inf true) y z P Q Y Z h k = absurd Q
  mul-up (inf false) (inf false) y z P Q Y Z h k = rw (mul-inf y Y, mul-inf z Z) (le-inf (inf false) tt)
  mul-up (inf false) (fin true n d) y z P Q Y Z h k = absurd Q
  mul-up (inf false) (fin false n d) y z P Q Y Z h k = differs (sym (inf-le-fin n d) ∙ h)
  mul-up (fin false m e) nan y z P Q Y Z h k = absurd Q
  mul-up (fin false m e) (inf true) y z P Q Y Z h k = absurd Q
  mul-up (fin false m e) (inf false) y z P Q Y Z h k =
      rw (mul-inf z Z) (le-inf (mul f (fin false m e) y) (mul-unsigned (fin false m e) y tt Y))
  mul-up (fin false m e) (fin true n d) y z P Q Y Z h k = absurd Q
  mul-up (fin false m e) (fin false n d) y z P Q Y Z h k =
      let first : m * up e * down d ≤ n * up d * down e = leb-true _ _ (sym (le-fin m n e d) ∙ h) in
      let both : m * up e * down d * (num y * den z) ≤ n * up d * down e * (num z * den y) =
      mul-le-mul first (le→cross y z Y Z k) in
      rw (mul-fin m e y Y, mul-fin n d z Z)
      (is_true _
      (round_mono f (m * up e * num y) (down e * den y) (n * up d * num z) (down d * den z)
      (mul-pos (down_pos e) (den_pos y)) (mul-pos (down_pos d) (den_pos z))
      (rw (mul-mul-mul_comm (m * up e) (num y) (down d) (den z), mul-mul-mul_comm (n * up d) (num z) (down e) (den y))
      both)))
