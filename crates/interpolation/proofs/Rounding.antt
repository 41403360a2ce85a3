-- A rounded sum, difference, product or quotient is off by at most 2^-53 of its exact value and 2^-1075
-- (specs/Rounding.antt).
--     closest-near, unit-small, rounded    the rounding of a fraction, in whole numbers
--     round-small                          the same of a float that is a signed fraction rounded
--     sum_near, difference-near, product-near, quotient-near    the theorems
-- Assumes nothing.
use mathlib.Core.Path.{◌≡◌, refl, sym, ap, ◌∙◌, subst}
use mathlib.Core.Bool.{Bool, true, false, not, cond}
use mathlib.Core.Logic.{inl, inr}
use Prim.Native.Nat.{ℕ, zero, suc, ◌+◌, ◌-◌, ◌*◌, ◌/◌, ◌%◌, ◌^◌, ◌≤◌, ◌<◌, compare, Ordering}
use native.Mathlib.Nat.{zero-mul, zero-lt-suc, mul-pos, mul-le-mul_right, eq-zero-or-pos, mod-lt, div-add-mod'}
use native.Mathlib.Nat.{div-mul-le_self}
use native.Mathlib.Omega.{arith}
use lib.IntN.{ℤ}
use lib.Dec.{T, is_le, compare_is_eq, ltb, leb→le, nleb→lt, eqb→eq, ltb→lt}
use lib.Pow.{pow-add, pow_pos}
use lib.Ieee.{Float, nan, inf, fin, binary64, up, down, unlike, size, nearest, odd, units, round, sum, neg, add, sub}
use lib.Ieee.{mul, div}
use lib.Ieee as Ieee
use lib.Ieee.Digits.{size_reaches}
use lib.Ieee.Exact.{HasValue, units_val}
use lib.Ieee.Fits.{up_pos, down_pos, round_is}
use lib.Ieee.Nearest.{closest}
use lib.Ieee.Order.{kept, drop}
use lib.Ieee.Scale.{grid, overflow}
use borrow.Author.Tests.{ltb-true, ltb-false, ne_eqb}
use Rattle.loops.proofs.Test.{differs}
use Rattle.numbers.specs.Float.{◌⊘◌}
use Rattle.interpolation.specs.Fraction.{Fraction, ◌⊞◌, ◌⊟◌, ◌⊠◌, Finite, exact_of}
use Rattle.interpolation.specs.Rounding.{magnitude_of, Small, SumNear, DifferenceNear, ProductNear, QuotientNear}

-- ---- whole numbers: x and y are at most r apart
abbrev Apart : ℕ → ℕ → ℕ → Type 0
Apart x y r = (x ≤ y + r) × (y ≤ x + r)

tie : (q r u b : ℕ) → b ≤ 1 → r * 2 ≡ u → Apart ((q + b) * u * 2) ((q * u + r) * 2) u
tie q r u zero h e = (omega arith, omega arith)
tie q r u (suc zero) h e = (omega arith, omega arith)
tie q r u (suc (suc b)) h e = absurd (omega arith)

-- a multiple of u nearest to n is at most half of u away
closest-near : (n u : ℕ) → 0 < u → Apart (closest n u * u * 2) (n * 2) u
closest-near n u U = rw (div-add-mod' n u) at at_last
  where
    q : ℕ
    q = n / u

    r : ℕ
    r = n % u

    small : r < u
    small = mod-lt n U

    go : (o : Ordering) → (T (is_le o) → r * 2 ≤ u) → (T (not (is_le o)) → u < r * 2)
        → (T (compare_is_eq o) → r * 2 ≡ u)
        → Apart (nearest q o * u * 2) ((q * u + r) * 2) u
    go Ordering.lt h k e = let l = h tt in (omega arith, omega arith)
    go Ordering.eq h k e = tie q r u (q % 2) (omega arith) (e tt)
    go Ordering.gt h k e = let l = k tt in (omega (arith, small), omega (arith, small))

    at_last : Apart (closest n u * u * 2) ((q * u + r) * 2) u
    at_last = go (compare (r * 2) u) (leb→le (r * 2) u) (nleb→lt (r * 2) u) (eqb→eq (r * 2) u)

-- half of what the last kept digit counts is 2^-53 of the number, or half a unit
unit-small : (n c : ℕ) → c * 2 ^ drop 53 n c * 2 ^ 52 ≤ n + c * 2 ^ 52
unit-small n c = elim (eq-zero-or-pos (drop 53 n c)) [
  | inl e ↦ rw e (omega arith)
  | inr l ↦
      let k = drop 53 n c in
      let reached : 2 ^ 52 * 2 ^ k ≤ n / c = rw (pow-add 2 52 k) at (size_reaches (n / c) (52 + k) (omega arith)) in
      omega (arith, mul-le-mul_right c reached, div-mul-le_self n c)
]

rounded : (n c : ℕ) → 0 < c → Apart (kept 53 n c * 2 ^ drop 53 n c * c * 2 ^ 53) (n * 2 ^ 53) (n + c * 2 ^ 52)
rounded n c C =
    let near = closest-near n (c * 2 ^ drop 53 n c) (mul-pos C (pow_pos (drop 53 n c))) in
    (omega (arith, near.0, unit-small n c), omega (arith, near.1, unit-small n c))

-- w is 2^1022: m / d is g units of 2^-1074
in-units : (m d g a c w : ℕ) → m * (w * 2 ^ 52) ≡ g * d
    → Apart (g * c * 2 ^ 53) (a * (w * 2 ^ 52) * 2 ^ 53) (a * (w * 2 ^ 52) + c * 2 ^ 52)
    → Apart (m * c * (w * 2 ^ 53)) (a * d * (w * 2 ^ 53)) ((a * w + c) * d)
in-units m d g a c w e p =
    let same = ap (λ (z : ℕ). z * (c * 2 ^ 53)) e in
    (omega (arith, same, mul-le-mul_right d p.0), omega (arith, same, mul-le-mul_right d p.1))

-- and the fraction is (p - q) / c
as-difference : (m d a c w p q size : ℕ) → p ≡ q + a → size ≡ a
    → Apart (m * c * (w * 2 ^ 53)) (a * d * (w * 2 ^ 53)) ((a * w + c) * d)
    → Apart ((m * c + q * d) * (c * (w * 2 ^ 53))) ((0 * c + p * d) * (c * (w * 2 ^ 53))) ((size * w + c) * (d * c))
as-difference m d a c w p q size e f h =
    rw (e, f) (omega (arith, mul-le-mul_right c h.0), omega (arith, mul-le-mul_right c h.1))

-- ---- floats
under : (s : Bool) (q k : ℕ) → Finite (units binary64 s q k) → q * 2 ^ k < overflow binary64
unfolding units
under s q k = go (ltb (q * 2 ^ k) (overflow binary64)) (ltb→lt (q * 2 ^ k) (overflow binary64))
  where
    go : (t : Bool) → (T t → q * 2 ^ k < overflow binary64) → Finite (cond t (odd 54 s q k 1074) (inf s))
        → q * 2 ^ k < overflow binary64
    go true f h = f tt
    go false f h = absurd h

round-has : (s : Bool) (a c : ℕ) → Finite (round binary64 s a c)
    → HasValue (round binary64 s a c) s (grid binary64 a c) (2 ^ 1074)
round-has s a c h =
    let n = a * 2 ^ 1074 in
    let same = round_is binary64 s a c in
    let finite = subst (λ (z : Float). Finite z) same h in
    subst (λ (z : Float). HasValue z s (grid binary64 a c) (2 ^ 1074)) (sym same)
    (units_val binary64 s (kept 53 n c) (drop 53 n c) (under s (kept 53 n c) (drop 53 n c) finite))

-- e is a over its denominator, with the sign s
abbrev Signed : Bool → ℕ → Fraction → Type 0
Signed false a e = e.plus ≡ e.minus + a
Signed true a e = e.minus ≡ e.plus + a

small_of : (s : Bool) (a : ℕ) (e : Fraction) → Signed s a e → (x : Float)
    → HasValue x s (grid binary64 a e.bottom) (2 ^ 1074) → Small (exact_of x ⊟ e) e
small_of s a e p nan v = absurd v
small_of s a e p (inf t) v = absurd v
small_of true a e p (fin false m k) v = differs v.0
small_of false a e p (fin true m k) v = differs (sym v.0)
small_of false a e p (fin false m k) v =
    let c = e.bottom in
    let near =
    in-units (m * up k) (down k) (grid binary64 a c) a c (2 ^ 1022) v.1 (rounded (a * 2 ^ 1074) c e.proper)
    in
    as-difference (m * up k) (down k) a c (2 ^ 1022) e.plus e.minus (magnitude_of e) p (omega arith) near
small_of true a e p (fin true m k) v =
    let c = e.bottom in
    let near =
    in-units (m * up k) (down k) (grid binary64 a c) a c (2 ^ 1022) v.1 (rounded (a * 2 ^ 1074) c e.proper)
    in
    let both =
    as-difference (m * up k) (down k) a c (2 ^ 1022) e.minus e.plus (magnitude_of e) p (omega arith) near
    in
    (both.1, both.0)

round-small : (s : Bool) (a : ℕ) (e : Fraction) → Signed s a e → Finite (round binary64 s a e.bottom)
    → Small (exact_of (round binary64 s a e.bottom) ⊟ e) e
round-small s a e p h = small_of s a e p (round binary64 s a e.bottom) (round-has s a e.bottom h)

-- ---- sums of unlike signs, of which the sizes are a and b
abbrev Near : Fraction → Float → Type 0
Near e x = Finite x → Small (exact_of x ⊟ e) e

less_then : (a b : ℕ) (e : Fraction) → e.plus ≡ a → e.minus ≡ b
    → Near e (cond (ltb a b) (round binary64 true (b - a) e.bottom) (round binary64 false (a - b) e.bottom))
less_then a b e p q = go (ltb a b) refl
  where
    go : (t : Bool) → ltb a b ≡ t
        → Near e (cond t (round binary64 true (b - a) e.bottom) (round binary64 false (a - b) e.bottom))
    go true l h = let g = ltb-true a b l in round-small true (b - a) e (omega arith) h
    go false l h = let g = ltb-false a b l in round-small false (a - b) e (omega arith) h

-- a sum that is exactly zero is +0
zero-or-less : (a b : ℕ) (e : Fraction) → e.plus ≡ b → e.minus ≡ a → b ≤ a
    → Near e (round binary64 (ltb b a) (a - b) e.bottom)
zero-or-less a b e p q g = go (ltb b a) refl
  where
    go : (t : Bool) → ltb b a ≡ t → Near e (round binary64 t (a - b) e.bottom)
    go true l h = let k = ltb-true b a l in round-small true (a - b) e (omega arith) h
    go false l h = let k = ltb-false b a l in round-small false (a - b) e (omega arith) h

more-then : (a b : ℕ) (e : Fraction) → e.plus ≡ b → e.minus ≡ a
    → Near e (cond (ltb a b) (round binary64 false (b - a) e.bottom) (round binary64 (ltb b a) (a - b) e.bottom))
more-then a b e p q = go (ltb a b) refl
  where
    go : (t : Bool) → ltb a b ≡ t
        → Near e (cond t (round binary64 false (b - a) e.bottom) (round binary64 (ltb b a) (a - b) e.bottom))
    go true l h = let g = ltb-true a b l in round-small false (b - a) e (omega arith) h
    go false l h = zero-or-less a b e p q (ltb-false a b l) h

pub sum_near : SumNear
unfolding add sum
sum_near nan y p q h = absurd p
sum_near (inf s) y p q h = absurd p
sum_near (fin s m e) nan p q h = absurd q
sum_near (fin s m e) (inf t) p q h = absurd q
sum_near (fin false m e) (fin false n d) p q h =
    let x = exact_of (fin false m e) ⊞ exact_of (fin false n d) in
    round-small false (m * up e * down d + n * up d * down e) x (omega arith) h
sum_near (fin true m e) (fin true n d) p q h =
    let x = exact_of (fin true m e) ⊞ exact_of (fin true n d) in
    round-small true (m * up e * down d + n * up d * down e) x (omega arith) h
sum_near (fin false m e) (fin true n d) p q h =
    let x = exact_of (fin false m e) ⊞ exact_of (fin true n d) in
    less_then (m * up e * down d) (n * up d * down e) x (omega arith) (omega arith) h
sum_near (fin true m e) (fin false n d) p q h =
    let x = exact_of (fin true m e) ⊞ exact_of (fin false n d) in
    more-then (m * up e * down d) (n * up d * down e) x (omega arith) (omega arith) h

pub difference-near : DifferenceNear
unfolding sub neg
difference-near x nan p q h = absurd q
difference-near x (inf t) p q h = absurd q
difference-near x (fin false n d) p q h = sum_near x (fin true n d) p tt h
difference-near x (fin true n d) p q h = sum_near x (fin false n d) p tt h

pub product-near : ProductNear
unfolding mul
product-near nan y p q h = absurd p
product-near (inf s) y p q h = absurd p
product-near (fin s m e) nan p q h = absurd q
product-near (fin s m e) (inf t) p q h = absurd q
product-near (fin false m e) (fin false n d) p q h =
    round-small false (m * up e * (n * up d)) (exact_of (fin false m e) ⊠ exact_of (fin false n d)) (omega arith) h
product-near (fin true m e) (fin true n d) p q h =
    round-small false (m * up e * (n * up d)) (exact_of (fin true m e) ⊠ exact_of (fin true n d)) (omega arith) h
product-near (fin false m e) (fin true n d) p q h =
    round-small true (m * up e * (n * up d)) (exact_of (fin false m e) ⊠ exact_of (fin true n d)) (omega arith) h
product-near (fin true m e) (fin false n d) p q h =
    round-small true (m * up e * (n * up d)) (exact_of (fin true m e) ⊠ exact_of (fin false n d)) (omega arith) h

div_is : (s t : Bool) (m n : ℕ) (e d : ℤ)
    → fin s m e ⊘ fin t (suc n) d ≡ round binary64 (unlike s t) (m * up e * down d) (suc n * up d * down e)
unfolding div
div_is s t m n e d = rw (ne_eqb (suc n) 0 (λ q. omega arith))

-- m · 2^e over (n + 1) · 2^d
module _ (m n : ℕ) (e d : ℤ) where
  abbrev over : ℕ → ℕ → Fraction
  over p q = record {
    plus = p;
    minus = q;
    bottom = suc n * up d * down e;
    proper = mul-pos (mul-pos (zero-lt-suc n) (up_pos d)) (down_pos e);
  }

  abbrev top : ℕ
  top = m * up e * down d

  rounds : (s t : Bool) (q : Fraction) → q.bottom ≡ suc n * up d * down e → Signed (unlike s t) top q
      → Finite (fin s m e ⊘ fin t (suc n) d) → Small (exact_of (fin s m e ⊘ fin t (suc n) d) ⊟ q) q
  rounds s t q b g h =
      let same = div_is s t m n e d ∙ ap (λ (c : ℕ). round binary64 (unlike s t) top c) (sym b) in
      let finite = subst (λ (x : Float). Finite x) same h in
      subst (λ (x : Float). Small (exact_of x ⊟ q) q) (sym same) (round-small (unlike s t) top q g finite)

pub quotient-near : QuotientNear
unfolding Ieee.eq Ieee.of_bits
quotient-near nan y p q z h = absurd p
quotient-near (inf s) y p q z h = absurd p
quotient-near (fin s m e) nan p q z h = absurd q
quotient-near (fin s m e) (inf t) p q z h = absurd q
quotient-near (fin s m e) (fin true zero d) p q z h = differs (sym (simp zero-mul at z))
quotient-near (fin s m e) (fin false zero d) p q z h = differs (sym (simp zero-mul at z))
quotient-near (fin false m e) (fin false (suc n) d) p q z h =
    let f = over m n e d (top m n e d) 0 in
    record { exact = f; is = omega arith; near = rounds m n e d false false f refl (omega arith) h }
quotient-near (fin true m e) (fin true (suc n) d) p q z h =
    let f = over m n e d (top m n e d) 0 in
    record { exact = f; is = omega arith; near = rounds m n e d true true f refl (omega arith) h }
quotient-near (fin false m e) (fin true (suc n) d) p q z h =
    let f = over m n e d 0 (top m n e d) in
    record { exact = f; is = omega arith; near = rounds m n e d false true f refl (omega arith) h }
quotient-near (fin true m e) (fin false (suc n) d) p q z h =
    let f = over m n e d 0 (top m n e d) in
    record { exact = f; is = omega arith; near = rounds m n e d true false f refl (omega arith) h }
