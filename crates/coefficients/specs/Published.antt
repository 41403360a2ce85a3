-- The published formulas (Petzold; CFODE of ODEPACK) as exact fractions, and what it is for a float to be near one.
--     Adams, order q: l(x) with l'(x) = (x + 1)(x + 2)…(x + q - 1) / (q - 1)! and l(-1) = 0
--     BDF, order q:   l(x) = (x + 1)(x + 2)…(x + q) / k with k = q! (1 + 1/2 + … + 1/q)
-- elco holds the coefficients of l, that of x^i at i. tesco holds the test constants of the orders q - 1, q and q + 1,
-- by which the norms that are tested are divided. That an entry is its fraction rounded is not claimed.
use Rattle.std.specs.Prelude.{true, false, List, [], ◌∷◌, ℕ, zero, suc, ◌+◌, ◌-◌, ◌*◌, ◌≤◌, ◌<◌, get_or, Float}
use Rattle.std.specs.Float.Ieee as Ieee
use Rattle.std.specs.Float.{nan, inf, fin, binary64}
use Rattle.std.specs.Float.Ieee.{up, down}

-- fractions of whole numbers
infix 80 ◌over◌
infixl 70 ◌÷◌
infixl 65 ◌plus◌ ◌minus◌
pub data Ratio : Type 0 where
  ◌over◌ : ℕ → ℕ → Ratio

unfoldable pub ◌plus◌ : Ratio → Ratio → Ratio
a over b plus c over d = (a * d + c * b) over (b * d)

-- taken only where the first is the larger; otherwise it would be 0, and no entry of the table near it
unfoldable pub ◌minus◌ : Ratio → Ratio → Ratio
a over b minus c over d = (a * d - c * b) over (b * d)

unfoldable pub ◌÷◌ : Ratio → Ratio → Ratio
a over b ÷ c over d = (a * d) over (b * c)

unfoldable pub factorial : ℕ → ℕ
factorial zero = 1
factorial (suc n) = suc n * factorial n

-- (x + a) p(x) + c, for a polynomial p given by its coefficients, the lowest first
unfoldable pub by_factor : ℕ → ℕ → List ℕ → List ℕ
by_factor a c [] = c ∷ []
by_factor a c (b ∷ p) = (c + a * b) ∷ by_factor a b p

-- (x + 1)(x + 2)…(x + n)
unfoldable pub product : ℕ → List ℕ
unfolding by_factor
product zero = 1 ∷ []
product (suc n) = by_factor (suc n) 0 (product n)

-- b₀ / k - b₁ / (k + 1) + b₂ / (k + 2) - …: the terms that are added, and those that are taken off
unfoldable mutual
  unfolding ◌plus◌

  pub added : ℕ → List ℕ → Ratio
  added k [] = 0 over 1
  added k (b ∷ p) = b over k plus taken (k + 1) p

  pub taken : ℕ → List ℕ → Ratio
  taken k [] = 0 over 1
  taken k (b ∷ p) = added (k + 1) p

-- the integrals from -1 to 0 of p(x) and of -x p(x)
unfoldable pub integral : List ℕ → Ratio
unfolding added ◌minus◌
integral p = added 1 p minus taken 1 p

unfoldable pub integral_x : List ℕ → Ratio
unfolding added ◌minus◌
integral_x p = added 2 p minus taken 2 p

-- l(0) is the integral of l' from -1 to 0, since l(-1) = 0
unfoldable pub adams_l : ℕ → ℕ → Ratio
unfolding product factorial integral ◌÷◌
adams_l q zero = integral (product (q - 1)) ÷ factorial (q - 1) over 1
adams_l q (suc i) = get_or (product (q - 1)) i 0 over (suc i * factorial (q - 1))

-- 1 / agamq of order q, where q! agamq is the integral from -1 to 0 of -x (x + 1)…(x + q - 1)
unfoldable pub adams_error : ℕ → Ratio
unfolding product factorial integral_x ◌÷◌
adams_error q = factorial q over 1 ÷ integral_x (product (q - 1))

-- the test at order q - 1 is of column q of the history, which holds a derivative divided by q!
unfoldable pub adams_test : ℕ → ℕ → Ratio
unfolding factorial adams_error ◌÷◌
adams_test q zero = adams_error (q - 1) ÷ factorial q over 1
adams_test q (suc zero) = adams_error q
adams_test q (suc (suc i)) = adams_error (q + 1)

-- 1 + 1/2 + … + 1/n
unfoldable pub harmonic : ℕ → Ratio
unfolding ◌plus◌
harmonic zero = 0 over 1
harmonic (suc n) = harmonic n plus 1 over suc n

-- over k, which is q! times the harmonic sum
unfoldable pub bdf_l : ℕ → ℕ → Ratio
unfolding product factorial harmonic ◌÷◌
bdf_l q i = get_or (product q) i 0 over factorial q ÷ harmonic q

-- 1 / (q - 1)!, (q + 1) / l(0) and (q + 2) / l(0)
unfoldable pub bdf_test : ℕ → ℕ → Ratio
unfolding factorial bdf_l ◌÷◌
bdf_test q zero = 1 over factorial (q - 1)
bdf_test q (suc i) = (q + suc i) over 1 ÷ bdf_l q 0

abbrev pub bottom : Ratio → ℕ
bottom (a over b) = b

-- a finite float with no minus sign stands for m * up e / down e: it is at most, or at least, the fraction
abbrev pub AtMost : Float → Ratio → Type 0
AtMost nan f = ⊥
AtMost (inf s) f = ⊥
AtMost (fin true m e) f = ⊥
AtMost (fin false m e) (a over b) = m * up e * b ≤ a * down e

abbrev pub AtLeast : Float → Ratio → Type 0
AtLeast nan f = ⊥
AtLeast (inf s) f = ⊥
AtLeast (fin true m e) f = ⊥
AtLeast (fin false m e) (a over b) = a * down e ≤ m * up e * b

-- the fraction lies between the n-th float below x and the n-th above it: x is right to n units in the last place
pub record WithinUnits (n : ℕ) (x : Float) (f : Ratio) : Type 0 where
  pub proper : 0 < bottom f
  pub low : AtMost (Ieee.of_bits binary64 (Ieee.to_bits binary64 x - n)) f
  pub high : AtLeast (Ieee.of_bits binary64 (Ieee.to_bits binary64 x + n)) f
