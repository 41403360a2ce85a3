-- A finite float ≥ 0 in units of 2^-1127: digits · 2^exponent of them, as `normal_of` reads them from its pattern.
--     value, written    what a pattern stands for; what 53 digits r under the exponent's field k + 1 stand for
--     own, other        the units of a float that fits, from its own pattern: at most 53 digits times a power of two
--     cross, below      the units as an equation of fractions; the order of two floats is that of their units
-- Assumes nothing.
use mathlib.Core.Path.{◌≡◌, refl, sym, ap, ◌∙◌}
use mathlib.Core.Bool.{true, false, true≢false}
use Prim.Native.Nat.{ℕ, zero, suc, ◌+◌, ◌-◌, ◌*◌, ◌/◌, ◌%◌, ◌^◌, ◌≤◌, ◌<◌}
use native.Mathlib.Nat.{zero-mul, mul_assoc, mul_right_comm, mul-one, mod-eq_of_lt}
use native.Mathlib.Omega.{arith}
use lib.Dec.{T}
use lib.IntN.{ℤ}
use lib.Pow.{pow-add, pow_pos}
use lib.Count.{leading_le}
use lib.Ieee as Ieee
use lib.Ieee.{Float, nan, inf, fin, binary64, up, down, odd, of_bits, to_bits, of_fields}
use lib.Ieee.Exact.{HasValue, odd_sign}
use lib.Ieee.Bits.{of_bits-to_bits}
use lib.Ieee.Positive.{num, den, value→cross}
use borrow.Author.Tests.{ne_eqb, lt-leb, ltb-true}
use Rattle.sqrt.specs.Sqrt.{hidden, shift_of, normal_at, normal_of}
use Rattle.sqrt.proofs.Fractions.{order}
use Rattle.sqrt.proofs.Pattern.{high_is, normal}
use Rattle.sqrt.proofs.Cases.{positive-bits}

-- how many units make 1
abbrev pub units : ℕ
units = 2 ^ 1127

pub units-pos : 0 < units
units-pos = pow_pos 1127

-- x is not negative, and so many units
abbrev pub InUnits : Float → ℕ → Type 0
InUnits x a = HasValue x false a units

pub cross : (x : Float) (a : ℕ) → InUnits x a → num x * units ≡ a * den x
cross x a h = value→cross x a units h

-- a fraction with both parts times k
scaled : (x : Float) (a c k : ℕ) → HasValue x false a c → HasValue x false (a * k) (c * k)
scaled nan a c k h = h
scaled (inf s) a c k h = h
scaled (fin s m e) a c k h =
    (h.0, sym (mul_assoc (m * up e) c k) ∙ ap (λ (z : ℕ). z * k) h.1 ∙ mul_right_comm a (down e) k)

-- powers of two, added up
low_sum : (t s : ℕ) → s ≤ 53 → t * 2 ^ 0 * 2 ^ 53 ≡ t * 2 ^ s * 2 ^ (53 - s)
low_sum t s h =
    let e : s + (53 - s) ≡ 53 = omega arith in
    ap (λ (z : ℕ). z * 2 ^ 53) (mul-one t)
    ∙ ap (λ (z : ℕ). t * 2 ^ z) (sym e)
    ∙ ap (λ (z : ℕ). t * z) (pow-add 2 s (53 - s))
    ∙ sym (mul_assoc t (2 ^ s) (2 ^ (53 - s)))

high_sum : (t x : ℕ) → (hidden + t) * 2 ^ x * 2 ^ 53 ≡ (t + hidden) * 2 ^ (suc x + 52)
high_sum t x =
    let e : suc x + 52 ≡ x + 53 = omega arith in
    let d : hidden + t ≡ t + hidden = omega arith in
    rw (e, pow-add 2 x 53, d) (mul_assoc (t + hidden) (2 ^ x) (2 ^ 53))

value-at : (x t : ℕ) → x < 2047
    → InUnits (of_fields binary64 false x t) ((normal_at x t).digits * 2 ^ (normal_at x t).exponent)
unfolding of_fields normal_at
value-at zero t h =
    rw (← low_sum t (shift_of t) (omega (arith, leading_le 64 t)))
    (scaled (odd 53 false t 0 1074) (t * 2 ^ 0) (2 ^ 1074) (2 ^ 53) (odd_sign 53 false t 0 1074))
value-at (suc x) t h =
    let d = hidden + t in
    rw (ne_eqb (suc x) 2047 (λ e. omega arith), ← high_sum t x)
    (scaled (odd 53 false d x 1074) (d * 2 ^ x) (2 ^ 1074) (2 ^ 53) (odd_sign 53 false d x 1074))

fields : (b : ℕ) → b < 0x7ff0_0000_0000_0000 → of_bits binary64 b ≡ of_fields binary64 false (b / hidden) (b % hidden)
unfolding of_bits
fields b h =
    let m : b % 0x8000_0000_0000_0000 ≡ b = mod-eq_of_lt (omega arith) in
    rw (lt-leb 0x8000_0000_0000_0000 b (omega arith), m)

-- the units that a pattern stands for
abbrev units_of : ℕ → ℕ
units_of b = (normal_of b).digits * 2 ^ (normal_of b).exponent

pub value : (b : ℕ) → b < 0x7ff0_0000_0000_0000 → InUnits (of_bits binary64 b) (units_of b)
unfolding normal_of
value b h = rw (fields b h) (value-at (b / hidden) (b % hidden) (omega arith))

-- 53 digits r under the field k + 1: the leading digit adds one to the field
pub written : (k r : ℕ) → k < 2046 → hidden ≤ r → r < 2 * hidden
    → InUnits (of_bits binary64 (k * hidden + r)) (r * 2 ^ (k + 53))
written k r h l u =
    let b = k * hidden + r in
    let f : b / hidden ≡ k + 1 = omega arith in
    let t : b % hidden + hidden ≡ r = omega arith in
    let e : b / hidden + 52 ≡ k + 53 = omega arith in
    let n : normal_of b ≡ record { digits = r; exponent = k + 53 } = rw (high_is b (λ z. omega arith), t, e) in
    rw n at (value b (omega arith))

pub own : (m : ℕ) (e : ℤ) → T (Ieee.fits binary64 (fin false (suc m) e))
    → InUnits (fin false (suc m) e) (units_of (to_bits binary64 (fin false (suc m) e)))
own m e f =
    let x = fin false (suc m) e in
    let b = to_bits binary64 x in
    let back : of_bits binary64 b ≡ x = of_bits-to_bits binary64 x f in
    rw back at (value b (positive-bits m e f).1)

-- at most 53 digits c, times a power of two
pub record Short (z : Float) : Type 0 where
  pub c : ℕ
  pub j : ℕ
  pub few : c < 2 ^ 53
  pub is : InUnits z (c * 2 ^ j)

pub other : (m : ℕ) (e : ℤ) → T (Ieee.fits binary64 (fin false m e)) → Short (fin false m e)
other zero e f = record {
  c = 0;
  j = 0;
  few = omega arith;
  is = (refl, rw (zero-mul (up e), zero-mul units, zero-mul (down e)));
}
other (suc m) e f =
    let b = to_bits binary64 (fin false (suc m) e) in
    let range = positive-bits m e f in
    record {
      c = (normal_of b).digits;
      j = (normal_of b).exponent;
      few = (normal b range.0 range.1).high;
      is = own m e f;
    }

pub below : (x y : Float) (a b : ℕ) → InUnits x a → InUnits y b → Ieee.lt x y ≡ true → a < b
unfolding Ieee.lt
below nan y a b p q h = absurd p
below (inf s) y a b p q h = absurd p
below (fin true m e) y a b p q h = absurd (true≢false p.0)
below (fin false m e) nan a b p q h = absurd q
below (fin false m e) (inf t) a b p q h = absurd q
below (fin false m e) (fin true n d) a b p q h = absurd (true≢false q.0)
below (fin false m e) (fin false n d) a b p q h =
    order units units-pos (m * up e) (down e) a (n * up d) (down d) b p.1 q.1
    (ltb-true (m * up e * down d) (n * up d * down e) h)
