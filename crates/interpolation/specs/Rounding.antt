-- How far a pose lies from the published formula where operations round. Each is off by at most 2^-53 of its exact
-- value and 2^-1075 (`SumNear` and the others). Each turn of Horner's rule moves its column's number by what its
-- product and its sum are off, and the pose is the formula's value on the columns so moved, at the value of the float
-- s = (t - tn) / h (`PoseMoved`). Proved in proofs/Rounding.antt and proofs/Moved.antt.
use Rattle.std.specs.Prelude.{◌≡◌, false, List, [], ◌∷◌, ℕ, ◌+◌, ◌-◌, ◌*◌, ◌^◌, ◌≤◌, ◌<◌, length, get_or, Float}
use Rattle.std.specs.Float.Ieee as Ieee
use Rattle.std.specs.Float.{nan}
use Rattle.numbers.specs.Float.{◌⊕◌, ◌⊖◌, ◌⊗◌, ◌⊘◌, zero_f}
use Rattle.interpolation.specs.declared.Sizes.{Sizes}
use Rattle.interpolation.specs.Header.{Reads}
use Rattle.interpolation.specs.Evaluate.{interpolate_of}
use Rattle.interpolation.specs.Fraction.{Fraction, ◌≈◌, ◌⊞◌, ◌⊟◌, ◌⊠◌, one, Finite, exact_of}
use Rattle.interpolation.specs.Published.{horner, polynomial, number_at, numbers_at}

-- what a sum and a product are off
abbrev pub sum_error : Float → Float → Fraction
sum_error x y = exact_of (x ⊕ y) ⊟ (exact_of x ⊞ exact_of y)

abbrev pub product_error : Float → Float → Fraction
product_error x y = exact_of (x ⊗ y) ⊟ exact_of x ⊠ exact_of y

-- the size of a fraction, over its denominator
abbrev pub magnitude_of : Fraction → ℕ
magnitude_of x = (x.plus - x.minus) + (x.minus - x.plus)

-- |d| ≤ 2^-53 · |e| + 2^-1075, multiplied out
abbrev pub Small : Fraction → Fraction → Type 0
Small d e =
    let k = e.bottom * 2 ^ 1075 in
    let most = (magnitude_of e * 2 ^ 1022 + e.bottom) * d.bottom in
    (d.plus * k ≤ d.minus * k + most) × (d.minus * k ≤ d.plus * k + most)

abbrev pub SumNear : Type 0
SumNear = (x y : Float) → Finite x → Finite y → Finite (x ⊕ y) → Small (sum_error x y) (exact_of x ⊞ exact_of y)

abbrev pub DifferenceNear : Type 0
DifferenceNear =
    (x y : Float) → Finite x → Finite y → Finite (x ⊖ y)
    → Small (exact_of (x ⊖ y) ⊟ (exact_of x ⊟ exact_of y)) (exact_of x ⊟ exact_of y)

abbrev pub ProductNear : Type 0
ProductNear = (x y : Float) → Finite x → Finite y → Finite (x ⊗ y) → Small (product_error x y) (exact_of x ⊠ exact_of y)

-- of a quotient: the fraction that times the divisor is the dividend
pub record Quotient (x y : Float) : Type 0 where
  pub exact : Fraction
  pub is : exact ⊠ exact_of y ≈ exact_of x
  pub near : Small (exact_of (x ⊘ y) ⊟ exact) exact

abbrev pub QuotientNear : Type 0
QuotientNear =
    (x y : Float) → Finite x → Finite y → Ieee.eq y zero_f ≡ false → Finite (x ⊘ y) → Quotient x y

-- the number a of a column, moved by what the turn is off that adds s · v to it; the last column's is as it was
abbrev pub moved_of : Float → Float → List Float → Fraction
moved_of s a [] = exact_of a
moved_of s a (b ∷ rest) =
    let v = horner ◌⊕◌ ◌⊗◌ s b rest in
    exact_of a ⊞ (sum_error a (s ⊗ v) ⊞ product_error s v)

abbrev pub all_moved : Float → List Float → List Fraction
all_moved s [] = []
all_moved s (a ∷ rest) = moved_of s a rest ∷ all_moved s rest

-- where no refusal applies, nor the copy
abbrev pub PoseMoved : Type 0
PoseMoved =
    (t : Float) (cont yi : List Float) (z : Sizes) → Reads cont z → (length cont ≡ length yi → ⊥)
    → length yi ≡ z.n → (z.nq + 1) * z.n ≤ length cont - 6 → Ieee.eq z.h zero_f ≡ false
    → (i : ℕ) → i < z.n
    → let s = (t ⊖ z.tn) ⊘ z.h in
    let a = number_at cont z.n i 0 in
    let rest = numbers_at cont z.n i 1 z.nq in
    exact_of (get_or (interpolate_of t cont yi).output i nan)
    ≈ polynomial ◌⊞◌ ◌⊠◌ one (exact_of s) 0 (moved_of s a rest) (all_moved s rest)
