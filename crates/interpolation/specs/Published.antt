-- The published formula of the dense output: the polynomial Σ yh_j · s^j at s = (t - tn) / h, where yh_j is column j.
-- `horner` is Horner's rule and `polynomial` the sum, over any addition and multiplication. `Exact` lists the laws by
-- which the two agree: whole numbers and signed fractions have them (Fraction.antt), floats do not. At the end stands
-- what it is for no operation of a pose to round, and that the pose is then the polynomial's value; how far it lies
-- from it otherwise is in Rounding.antt.
use Rattle.std.specs.Prelude.{◌≡◌, false, List, [], ◌∷◌, ℕ, zero, suc, ◌+◌, ◌-◌, ◌*◌, ◌≤◌, ◌<◌, length, get_or, Float}
use Rattle.std.specs.Float.Ieee as Ieee
use Rattle.std.specs.Float.{nan}
use Rattle.numbers.specs.Float.{◌⊕◌, ◌⊖◌, ◌⊗◌, ◌⊘◌, zero_f}
use Rattle.interpolation.specs.declared.Sizes.{Sizes}
use Rattle.interpolation.specs.Header.{Reads}
use Rattle.interpolation.specs.Evaluate.{interpolate_of}
use Rattle.interpolation.specs.Fraction.{Fraction, ◌≈◌, ◌⊞◌, ◌⊟◌, ◌⊠◌, one, Finite, exact_of, Is, SumExact}
use Rattle.interpolation.specs.Fraction.{DifferenceExact, ProductExact, QuotientExact}

-- a₀ + s · (a₁ + s · (a₂ + …)), the last coefficient alone: a is a₀, and the list has the others
unfoldable pub horner : {A : Type 0} → (A → A → A) → (A → A → A) → A → A → List A → A
horner add mul s a [] = a
horner add mul s a (b ∷ rest) = add a (mul s (horner add mul s b rest))

module _ {A : Type 0} (add mul : A → A → A) (unit : A) where
  unfoldable pub power : A → ℕ → A
  power s zero = unit
  power s (suc j) = mul s (power s j)

  -- a₀ · s^j + (a₁ · s^(j + 1) + (a₂ · s^(j + 2) + …))
  unfoldable pub polynomial : A → ℕ → A → List A → A
  polynomial s j a [] = mul a (power s j)
  polynomial s j a (b ∷ rest) = add (mul a (power s j)) (polynomial s (suc j) b rest)

-- same says when two of the numbers are equal: fractions may be written in several ways
pub record Exact {A : Type 0} (same : A → A → Type 0) (add mul : A → A → A) (unit : A) : Type 0 where
  pub itself : (a : A) → same a a
  pub back : (a b : A) → same a b → same b a
  pub through : (a b c : A) → same a b → same b c → same a c
  pub sums : (a b c d : A) → same a b → same c d → same (add a c) (add b d)
  pub products : (a b c d : A) → same a b → same c d → same (mul a c) (mul b d)
  pub commutes : (a b : A) → same (mul a b) (mul b a)
  pub associates : (a b c : A) → same (mul (mul a b) c) (mul a (mul b c))
  pub distributes : (a b c : A) → same (mul (add a b) c) (add (mul a c) (mul b c))
  pub units : (a : A) → same (mul a unit) a

-- the number of state i in column j of a snapshot of n states, whose columns stand from 6 on
abbrev pub number_at : List Float → ℕ → ℕ → ℕ → Float
number_at cont n i j = get_or cont (6 + j * n + i) nan

-- the numbers of state i in the k columns from j on
unfoldable pub numbers_at : List Float → ℕ → ℕ → ℕ → ℕ → List Float
numbers_at cont n i j zero = []
numbers_at cont n i j (suc k) = number_at cont n i j ∷ numbers_at cont n i (j + 1) k

-- ---- where no operation rounds
-- each product and each sum of Horner's rule in floats, at s, is exact
abbrev pub HornerExact : Float → Float → List Float → Type 0
HornerExact s a [] = Finite a
HornerExact s a (b ∷ rest) =
    let v = horner ◌⊕◌ ◌⊗◌ s b rest in
    HornerExact s b rest × ProductExact s v × SumExact a (s ⊗ v)

-- each operation by which the pose of state i at time t is found: t - tn, its quotient by h, and Horner's rule
pub record PoseExact (t : Float) (cont : List Float) (z : Sizes) (i : ℕ) : Type 0 where
  pub difference : DifferenceExact t z.tn
  pub quotient : QuotientExact (t ⊖ z.tn) z.h
  pub columns : HornerExact ((t ⊖ z.tn) ⊘ z.h) (number_at cont z.n i 0) (numbers_at cont z.n i 1 z.nq)

abbrev pub exacts_of : List Float → List Fraction
exacts_of [] = []
exacts_of (x ∷ rest) = exact_of x ∷ exacts_of rest

-- Σ yh_j · s^j over state i's numbers in columns 0 to nq, in fractions
abbrev pub formula_of : List Float → Sizes → ℕ → Fraction → Fraction
formula_of cont z i s =
    polynomial ◌⊞◌ ◌⊠◌ one s 0 (exact_of (number_at cont z.n i 0)) (exacts_of (numbers_at cont z.n i 1 z.nq))

-- Where no refusal applies, nor the copy, and no operation rounds, the pose of state i is the formula's value at the
-- fraction s = (t - tn) / h, the one with s · h = t - tn (proofs/Exact.antt).
abbrev pub PoseIs : Type 0
PoseIs =
    (t : Float) (cont yi : List Float) (z : Sizes) → Reads cont z → (length cont ≡ length yi → ⊥)
    → length yi ≡ z.n → (z.nq + 1) * z.n ≤ length cont - 6 → Ieee.eq z.h zero_f ≡ false
    → (i : ℕ) → i < z.n → PoseExact t cont z i
    → (s : Fraction) → s ⊠ exact_of z.h ≈ exact_of t ⊟ exact_of z.tn
    → Is (get_or (interpolate_of t cont yi).output i nan) (formula_of cont z i s)
