-- The 53 digits r that the 54 digits q of the root of n · 2^54 round to: whole numbers alone.
--     halves         (2r - 1)² < n · 2^54 < (2r + 1)²: the root of n · 2^54 is less than 1 away from 2r
--     grid           a number of 53 digits times a power of two that lies above r · 2^k is 2^k above it, at least
--     under, over    so (r · 2^k + z)² lies on its side of n · 2^54 · 2^2k for every such z
-- Assumes nothing.
use mathlib.Core.Path.{◌≡◌, sym, ap, ◌∙◌}
use mathlib.Core.Logic.{◌⊎◌, inl, inr}
use Prim.Native.Nat.{ℕ, suc, ◌+◌, ◌-◌, ◌*◌, ◌/◌, ◌%◌, ◌^◌, ◌≤◌, ◌<◌}
use native.Mathlib.Nat.{lt_of_lt_of_le, lt_of_le_of_lt, eq-or-lt_of_le, eq-zero-or-pos, mul_assoc, mul-mul-mul_comm}
use native.Mathlib.Nat.{mul-pos, mul-le-mul_right, pow-suc, mul-lt-mul_of_pos_right, lt_of_mul-lt-mul_right}
use native.Mathlib.Decide.{dec_le}
use native.Mathlib.Omega.{arith}
use lib.Pow.{pow-add, pow_pos, pow_mono}
use Rattle.sqrt.proofs.Laws.{square_le, square-lt}
use Rattle.sqrt.proofs.Turns.{Root}

pub record Halves (n r : ℕ) : Type 0 where
  pub low : 2 ^ 52 ≤ r
  pub high : r < 2 ^ 53
  pub below : (2 * r - 1) * (2 * r - 1) < n * 2 ^ 54
  pub above : n * 2 ^ 54 < (2 * r + 1) * (2 * r + 1)
  pub edge : r ≡ 2 ^ 52 → 2 * r * (2 * r) ≤ n * 2 ^ 54

module _ (n q : ℕ) (l : 2 ^ 52 ≤ n) (u : n + 2 ≤ 2 ^ 54) (k : Root n q) where
  least : 2 ^ 53 ≤ q
  least =
      let small : suc q ≤ 2 ^ 53 → ⊥ = λ h. omega (arith, square_le h, k.high) in
      omega arith

  most : q + 2 ≤ 2 ^ 54
  most =
      let large : 2 ^ 54 - 1 ≤ q → ⊥ = λ h. omega (arith, square_le h, k.low) in
      omega arith

  -- an odd number's square is odd, and n · 2^54 is not
  no_tie : q % 2 ≡ 1 → q * q ≡ n * 2 ^ 54 → ⊥
  no_tie o e =
      let s : q ≡ 2 * (q / 2) + 1 = omega arith in
      let w : q * q ≡ (2 * (q / 2) + 1) * (2 * (q / 2) + 1) = ap (λ (z : ℕ). z * z) s in
      omega arith

  rounds : (r : ℕ) → (2 * r ≡ q) ⊎ (2 * r ≡ q + 1) → Halves n r
  rounds r (inl e) =
      let a : 2 * r - 1 < q = omega (arith, least) in
      let b : suc q ≤ 2 * r + 1 = omega arith in
      record {
        low = omega (arith, least);
        high = omega (arith, most);
        below = lt_of_lt_of_le (square-lt (2 * r - 1) q a) k.low;
        above = lt_of_lt_of_le k.high (square_le b);
        edge = λ _. rw e k.low;
      }
  rounds r (inr e) =
      let o : q % 2 ≡ 1 = omega arith in
      let a : 2 * r - 1 ≡ q = omega arith in
      let b : suc q ≤ 2 * r + 1 = omega arith in
      record {
        low = omega (arith, least);
        high = omega (arith, most);
        below = rw a (omega (arith, k.low, no_tie o));
        above = lt_of_lt_of_le k.high (square_le b);
        edge = λ f. absurd (omega (arith, least));
      }

  pub halves : Halves n (q / 2 + q % 2)
  halves =
      rounds (q / 2 + q % 2)
      (elim (eq-zero-or-pos (q % 2)) [ inl z ↦ inl (omega arith) | inr p ↦ inr (omega arith) ])

-- c · 2^j is a multiple of 2^k where it is at least 2^52 · 2^k, since c has 53 digits
grid : (r k c j : ℕ) → 2 ^ 52 ≤ r → c < 2 ^ 53 → r * 2 ^ k < c * 2 ^ j → suc r * 2 ^ k ≤ c * 2 ^ j
grid r k c j l u h = elim (dec_le k j) [
  | yes g ↦
      let e : j - k + k ≡ j = omega arith in
      let w : c * 2 ^ j ≡ c * 2 ^ (j - k) * 2 ^ k =
      ap (λ (z : ℕ). c * 2 ^ z) (sym e)
      ∙ ap (λ (z : ℕ). c * z) (pow-add 2 (j - k) k)
      ∙ sym (mul_assoc c (2 ^ (j - k)) (2 ^ k)) in
      let m : r * 2 ^ k < c * 2 ^ (j - k) * 2 ^ k = rw w at h in
      rw w (mul-le-mul_right (2 ^ k) (lt_of_mul-lt-mul_right (2 ^ k) m))
  | no g ↦
      let s : suc j ≤ k = omega arith in
      let p : 2 ^ suc j ≤ 2 ^ k = pow_mono s in
      let a : c * 2 ^ j ≤ 2 ^ 53 * 2 ^ j = mul-le-mul_right (2 ^ j) (omega arith) in
      let b : 2 ^ 52 * 2 ^ k ≤ r * 2 ^ k = mul-le-mul_right (2 ^ k) l in
      absurd (omega (arith, pow-suc 2 j))
]

-- v against s units p, squared
square-of : (s p : ℕ) → s * p * (s * p) ≡ s * s * (p * p)
square-of s p = mul-mul-mul_comm s p s p

module _ (s p n v : ℕ) (pos : 0 < p) where
  pub squared-below : v ≤ s * p → s * s < n → v * v < n * (p * p)
  squared-below h l =
      lt_of_le_of_lt (rw (square-of s p) at (square_le h)) (mul-lt-mul_of_pos_right l (mul-pos pos pos))

  squared-strictly : v < s * p → s * s ≤ n → v * v < n * (p * p)
  squared-strictly h l = lt_of_lt_of_le (rw (square-of s p) at (square-lt v (s * p) h)) (mul-le-mul_right (p * p) l)

  pub squared-above : s * p ≤ v → n < s * s → n * (p * p) < v * v
  squared-above h l =
      lt_of_lt_of_le (mul-lt-mul_of_pos_right l (mul-pos pos pos)) (rw (square-of s p) at (square_le h))

-- r · 2^k and another number of 53 digits times a power of two, c · 2^j: their sum, squared
module _ (n r k c j : ℕ) (h : Halves n r) (u : c < 2 ^ 53) where
  abbrev both : ℕ
  both = r * 2 ^ k + c * 2 ^ j

  pub under : c * 2 ^ j < r * 2 ^ k → both * both < n * 2 ^ 54 * (2 ^ k * 2 ^ k)
  under l = elim (eq-or-lt_of_le h.low) [
    | inl e ↦ squared-strictly (2 * r) (2 ^ k) (n * 2 ^ 54) both (pow_pos k) (omega arith) (h.edge (sym e))
    | inr g ↦
        let t = r - 1 in
        let e : r ≡ suc t = omega arith in
        let d : 2 * r - 1 ≡ 2 * t + 1 = omega arith in
        let w : r * 2 ^ k ≡ suc t * 2 ^ k = ap (λ (z : ℕ). z * 2 ^ k) e in
        let far : t * 2 ^ k < c * 2 ^ j → ⊥ = λ m. omega (arith, grid t k c j (omega arith) u m) in
        squared-below (2 * r - 1) (2 ^ k) (n * 2 ^ 54) both (pow_pos k) (rw d (omega arith)) h.below
  ]

  pub over : r * 2 ^ k < c * 2 ^ j → n * 2 ^ 54 * (2 ^ k * 2 ^ k) < both * both
  over l =
      squared-above (2 * r + 1) (2 ^ k) (n * 2 ^ 54) both (pow_pos k) (omega (arith, grid r k c j h.low u l))
      h.above
