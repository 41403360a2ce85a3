-- The k-fold product, each rounded, grows with the candidate's pattern. So the kept bits are the largest pattern whose
-- product is at most x, and the root is the largest such float, products that underflow or overflow included.
--     product-unsigned, product-mono    no product is a NaN, and a larger pattern has no smaller product
--     largest                           what `root_bits` finds
--     fails-beyond                      from infinity's pattern on, where the NaNs lie, none passes
--     root_is, largest-float            the same of the root
-- They hold for every x that is finite and above 0, which is `positive x`. Assumes nothing.
use mathlib.Core.Path.{◌≡◌, refl, sym, ap, ◌∙◌}
use mathlib.Core.Bool.{Bool, true, false, not, cond}
use mathlib.Core.Logic.{inl, inr}
use Prim.Native.Nat.{ℕ, zero, suc, ◌+◌, ◌/◌, ◌%◌, ◌^◌, ◌≤◌, ◌<◌}
use native.Mathlib.Nat.{eq-zero-or-pos, eq-or-lt_of_le, mod-eq_of_lt, pow-succ', lt_of_not-le}
use native.Mathlib.Omega.{arith}
use lib.IntN.{pos}
use lib.Dec.{T}
use lib.Ieee.{Float, nan, inf, fin, binary64, of_bits, nan_bits, to_bits, fits, mul, le, lt}
use lib.Ieee.Bits.{is_true, of_bits-to_bits}
use lib.Ieee.Positive.{positive}
use Rattle.std.proofs.lemmas.Float.{not_nan_f64_bits}
use Rattle.loops.proofs.Test.{differs}
use Rattle.loops.specs.For.{times}
use Rattle.loops.proofs.For.{stays}
use Rattle.numbers.proofs.Bits.{nan_literal, past-infinity}
use Rattle.numbers.proofs.Sign.{is_positive}
use Rattle.root.specs.Root.{factor, power_of, keep_of, bit_turn, root_bits, root_value, root_of}
use Rattle.root.specs.Largest.{infinity_bits, unsigned, product_of, Largest, LargestFloat}
use Rattle.root.proofs.Laws.{alike}
use Rattle.root.proofs.Cases.{accepted, refused, of_zero, of_infinity, of_positive, of_other}
use Rattle.numbers.proofs.Order.{le_trans}
use Rattle.root.proofs.Unsigned.{zero-le, le-inf, infinity-above, lt-is}
use Rattle.root.proofs.Unsigned.{positive-unsigned, above-unsigned, mul-unsigned, mul-up}
use Rattle.root.proofs.Patterns.{bits-zero, bits-infinity, bits_positive, bits-unsigned, bits-le, bits_of}

-- ---- products
abbrev InOrder : Float → Float → Type 0
InOrder p q = T (unsigned p) × T (unsigned q) × (le p q ≡ true)

power-up : (k : ℕ) (y z : Float) → T (positive y) → T (positive z) → T (le y z) → InOrder (power_of k y) (power_of k z)
unfolding power_of
power-up k y z Y Z h =
    alike InOrder (factor y) (factor z)
    (λ i p q r. (
      mul-unsigned binary64 p y r.0 Y,
      mul-unsigned binary64 q z r.1 Z,
      mul-up binary64 p q y z r.0 r.1 Y Z r.2 h,
    ))
    1 k y z (positive-unsigned y Y, positive-unsigned z Z, is_true (le y z) h)

power_zero : (k : ℕ) → power_of k (fin false 0 (pos 0)) ≡ fin false 0 (pos 0)
unfolding power_of mul
power_zero k = stays (factor (fin false 0 (pos 0))) 1 k (fin false 0 (pos 0)) (λ i. refl)

power-infinity : (k : ℕ) → power_of k (inf false) ≡ inf false
unfolding power_of mul
power-infinity k = stays (factor (inf false)) 1 k (inf false) (λ i. refl)

power-nan : (k : ℕ) → power_of k nan ≡ nan
unfolding power_of mul
power-nan k = stays (factor nan) 1 k nan (λ i. refl)

pub product-unsigned : (k b : ℕ) → b ≤ infinity_bits → T (unsigned (product_of k b))
product-unsigned k b h = elim (eq-or-lt_of_le h) [
  | inl e ↦ rw (e, bits-infinity, power-infinity k) tt
  | inr l ↦ elim (eq-zero-or-pos b) [
    | inl e ↦ rw (e, bits-zero, power_zero k) tt
    | inr p ↦
        let y = of_bits binary64 b in
        let Y = bits_positive b p l in
        (power-up k y y Y Y (bits-le b b (omega arith) l)).0
  ]
]

pub product-mono : (k a b : ℕ) → a ≤ b → b ≤ infinity_bits → le (product_of k a) (product_of k b) ≡ true
product-mono k a b g h = elim (eq-or-lt_of_le h) [
  | inl e ↦ rw (e, bits-infinity, power-infinity k) (le-inf (product_of k a) (product-unsigned k a (omega arith)))
  | inr l ↦ elim (eq-zero-or-pos a) [
    | inl e ↦ rw (e, bits-zero, power_zero k) (zero-le (product_of k b) (product-unsigned k b h))
    | inr p ↦
        (power-up k (of_bits binary64 a) (of_bits binary64 b)
        (bits_positive a p (omega arith)) (bits_positive b (omega arith) l) (bits-le a b g l)).2
  ]
]

-- ---- the search, bit by bit
abbrev passes : Float → ℕ → ℕ → Bool
passes x k b = le (product_of k b) x

-- n bits are still to be tried: the pattern so far passes, and none does whose higher bits are larger
record Left (x : Float) (k n bits : ℕ) : Type 0 where
  room : bits + 2 ^ n ≤ 2 ^ 63
  here : passes x k bits ≡ true
  beyond : (b : ℕ) → bits + 2 ^ n ≤ b → b ≤ infinity_bits → passes x k b ≡ false

nan-apart : (x : Float) → le nan x ≡ false
unfolding le
nan-apart x = refl

module _ (x : Float) (k : ℕ) (above : T (positive x)) where
  fails-above : (a b : ℕ) → a ≤ b → b ≤ infinity_bits → passes x k a ≡ false → passes x k b ≡ false
  fails-above a b g h n = go (passes x k b) refl
    where
      go : (t : Bool) → passes x k b ≡ t → t ≡ false
      go false e = refl
      go true e =
          differs (sym n ∙ le_trans (product_of k a) (product_of k b) x (product-mono k a b g h) e)

  -- infinity's product and the NaNs of the patterns above it are not at most x
  pub fails-beyond : (b : ℕ) → infinity_bits ≤ b → b < 2 ^ 63 → le (product_of k b) x ≡ false
  fails-beyond b g h = elim (eq-or-lt_of_le g) [
    | inl e ↦ rw (← e, bits-infinity, power-infinity k) (infinity-above x above)
    | inr l ↦
        let r : b % 2 ^ 63 ≡ b = mod-eq_of_lt h in
        rw (past-infinity b (omega arith), power-nan k) (nan-apart x)
  ]

  fails-is : (b : ℕ) → b ≤ infinity_bits → lt x (product_of k b) ≡ not (passes x k b)
  fails-is b h = lt-is x (product_of k b) (positive-unsigned x above) (product-unsigned k b h)

  kept-bit : (n bits : ℕ) → Left x k (suc n) bits → Left x k n (keep_of x k bits (2 ^ n))
  unfolding keep_of
  kept-bit n bits l = go (passes x k (bits + 2 ^ n)) refl
    where
      go : (t : Bool) → passes x k (bits + 2 ^ n) ≡ t → Left x k n (cond t (bits + 2 ^ n) bits)
      go true e = record {
        room = omega (arith, pow-succ' 2 n);
        here = e;
        beyond = λ b g. l.beyond b (omega (arith, pow-succ' 2 n));
      }
      go false e = record {
        room = omega (arith, pow-succ' 2 n);
        here = l.here;
        beyond = λ b g h. fails-above (bits + 2 ^ n) b g h e;
      }

  kept-bits : (n i bits : ℕ) → Left x k n bits
      → Left x k 0 (times (bit_turn x k) n i (record { bits = bits; bit = 2 ^ n / 2 })).bits
  unfolding times
  kept-bits zero i bits l = l
  kept-bits (suc n) i bits l =
      let half : 2 ^ suc n / 2 ≡ 2 ^ n = omega (arith, pow-succ' 2 n) in
      rw half (kept-bits n (i + 1) (keep_of x k bits (2 ^ n)) (kept-bit n bits l))

  searched : Left x k 0 (root_bits x k)
  unfolding root_bits
  searched =
      kept-bits 63 0 0 (record {
        room = omega arith;
        here = rw (bits-zero, power_zero k) (zero-le x (positive-unsigned x above));
        beyond = λ b g h. absurd (omega arith);
      })

pub largest : (x : Float) (k : ℕ) → T (positive x) → Largest x k (root_bits x k)
largest x k p =
    let s = searched x k p in
    record {
      finite = lt_of_not-le (λ g. differs (sym (fails-beyond x k p (root_bits x k) g (omega arith)) ∙ s.here));
      reached = s.here;
      passed = λ b l h. fails-is x k p b h ∙ ap not (s.beyond b (omega arith) h);
    }

pub root_number : (x : Float) (k : ℕ) → T (positive x) → T (not (nan_bits binary64 (root_bits x k)))
root_number x k p = not_nan_f64_bits _ (omega (arith, (largest x k p).finite))

-- ---- the root itself
pub root_is : (x : Float) (k : ℕ) → T (positive x) → 2 ≤ k → k ≤ 13
    → root_of x k ≡ record { value = of_bits binary64 (root_bits x k) }
unfolding root_value
root_is nan k p g h = absurd p
root_is (inf s) k p g h = absurd p
root_is (fin true m e) k p g h = absurd p
root_is (fin false zero e) k p g h = absurd p
root_is (fin false (suc m) e) k p g h = accepted (fin false (suc m) e) k g h

-- a float above that of pattern r is that of a larger pattern
above-bits : (r : ℕ) (z : Float) → r < infinity_bits → T (unsigned z) → T (fits binary64 z)
    → lt (of_bits binary64 r) z ≡ true → r < to_bits binary64 z
above-bits r z h u f a =
    let y = of_bits binary64 r in
    lt_of_not-le (λ g.
    let e : le z y ≡ true = is_true _ (rw (of_bits-to_bits binary64 z f) at (bits-le (to_bits binary64 z) r g h)) in
    differs (sym (ap not e) ∙ sym (lt-is y z (bits-unsigned r h) u) ∙ a))

pub largest-float : (x : Float) (k : ℕ) → T (positive x) → 2 ≤ k → k ≤ 13 → LargestFloat x k (root_of x k).value
largest-float x k p g h =
    let r = root_bits x k in
    let l = largest x k p in
    rw (root_is x k p g h)
    (record {
      reached = l.reached;
      passed = λ z f a.
          let u = above-unsigned (of_bits binary64 r) z (bits-unsigned r l.finite) a in
          rw (of_bits-to_bits binary64 z f) at
          (l.passed (to_bits binary64 z) (above-bits r z l.finite u f a) (bits_of z u f));
    })

-- what the tests of `root` say, and that what the search finds is no NaN's
pub ruleset tests = (
  accepted,
  refused,
  of_zero,
  of_infinity,
  of_positive,
  of_other,
  is_positive,
  nan_literal,
  root_number,
)
