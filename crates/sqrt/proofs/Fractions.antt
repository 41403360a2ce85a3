-- Fractions of whole numbers, each in so many units 1 / u: a / b is c units where a · u ≡ c · b.
--     order, same           two fractions compare as their units do
--     sum                   the units of a sum
--     half-below, half-above       (a / b)² against 4 · x, by the units
--     two-sides             two middles that contradict each other
--     square-below, square_above   the same where x is a square
-- Assumes nothing.
use mathlib.Core.Path.{◌≡◌, sym, ap, ◌∙◌}
use Prim.Native.Nat.{ℕ, ◌+◌, ◌*◌, ◌<◌}
use native.Mathlib.Nat.{add-mul, eq_of_mul-eq-mul_right, mul-pos, mul-lt-mul_of_pos_right, lt_of_mul-lt-mul_right}
use native.Mathlib.Omega.{arith}
use Rattle.sqrt.proofs.Laws.{square-lt}

module _ (u : ℕ) (pos : 0 < u) where
  module _ (a b c d e f : ℕ) (p : a * u ≡ c * b) (q : d * u ≡ f * e) where
    left : a * e * u ≡ c * (b * e)
    left = omega (arith, ap (λ (z : ℕ). z * e) p)

    right : d * b * u ≡ f * (b * e)
    right = omega (arith, ap (λ (z : ℕ). z * b) q)

    pub order : a * e < d * b → c < f
    order h = lt_of_mul-lt-mul_right (b * e) (rw (left, right) at (mul-lt-mul_of_pos_right h pos))

    pub same : c ≡ f → a * e ≡ d * b
    same h = eq_of_mul-eq-mul_right u pos (a * e) (d * b) (left ∙ ap (λ (z : ℕ). z * (b * e)) h ∙ sym right)

    pub sum : (a * e + d * b) * u ≡ (c + f) * (b * e)
    sum = add-mul (a * e) (d * b) u ∙ rw (left, right) (sym (add-mul c f (b * e)))

  -- v = a / b is c units, x = n / d is k units
  module _ (a b c n d k : ℕ) (B : 0 < b) (D : 0 < d) (p : a * u ≡ c * b) (q : n * u ≡ k * d) where
    square : a * a * d * (u * u) ≡ c * c * (b * b * d)
    square =
        let s : a * u * (a * u) ≡ c * b * (c * b) = ap (λ (z : ℕ). z * z) p in
        omega (arith, ap (λ (z : ℕ). z * d) s)

    four : 4 * n * (b * b) * (u * u) ≡ 4 * k * u * (b * b * d)
    four = omega (arith, ap (λ (z : ℕ). z * (u * (b * b))) q)

    pub half-below : c * c < 4 * k * u → a * a * d < 4 * n * (b * b)
    half-below h =
        lt_of_mul-lt-mul_right (u * u) (rw (square, four) (mul-lt-mul_of_pos_right h (mul-pos (mul-pos B B) D)))

    pub half-above : 4 * k * u < c * c → 4 * n * (b * b) < a * a * d
    half-above h =
        lt_of_mul-lt-mul_right (u * u) (rw (square, four) (mul-lt-mul_of_pos_right h (mul-pos (mul-pos B B) D)))

-- the middle of a / b and n / d, against the root of k / c
pub two-sides : (a b n d k c : ℕ) → 4 * k * (b * d * (b * d)) < (a * d + n * b) * (a * d + n * b) * c
    → (n * b + a * d) * (n * b + a * d) * c < 4 * k * (d * b * (d * b)) → ⊥
two-sides a b n d k c h l = omega arith

-- k / c is the square of n / d
module _ (a b n d k c : ℕ) (C : 0 < c) (s : k * (d * d) ≡ n * n * c) where
  four-times : 4 * k * (d * b * (d * b)) ≡ 2 * (n * b) * (2 * (n * b)) * c
  four-times = omega (arith, ap (λ (z : ℕ). z * (b * b)) s)

  pub square-below : a * d < n * b → (n * b + a * d) * (n * b + a * d) * c < 4 * k * (d * b * (d * b))
  square-below h =
      rw four-times (mul-lt-mul_of_pos_right (square-lt (n * b + a * d) (2 * (n * b)) (omega arith)) C)

  pub square_above : n * b < a * d → 4 * k * (d * b * (d * b)) < (n * b + a * d) * (n * b + a * d) * c
  square_above h =
      rw four-times (mul-lt-mul_of_pos_right (square-lt (2 * (n * b)) (n * b + a * d) (omega arith)) C)
