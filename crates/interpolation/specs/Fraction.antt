-- Signed fractions, the value of a finite float, and what it is for an operation on floats to be exact: operands and
-- result are finite, and the result's value is what the operation gives in fractions. A quotient is exact where it
-- times the divisor is the dividend.
use Rattle.std.specs.Prelude.{◌≡◌, true, false, ℕ, ◌+◌, ◌*◌, ◌<◌, Float}
use Rattle.std.proofs.Common.{mul-pos, zero-lt-suc}
use Rattle.std.specs.Float.{nan, inf, fin}
use Rattle.std.specs.Float.Ieee.{up, down}
use Rattle.std.specs.Float.Ieee.Fits.{down_pos}
use Rattle.numbers.specs.Float.{◌⊕◌, ◌⊖◌, ◌⊗◌, ◌⊘◌}

-- (plus - minus) / bottom
pub record Fraction : Type 0 where
  pub plus : ℕ
  pub minus : ℕ
  pub bottom : ℕ
  pub proper : 0 < bottom

-- the same number: multiplied out, with what is taken off on the other side
infix 50 ◌≈◌
infixl 65 ◌⊞◌ ◌⊟◌
infixl 70 ◌⊠◌
abbrev pub ◌≈◌ : Fraction → Fraction → Type 0
x ≈ y = x.plus * y.bottom + y.minus * x.bottom ≡ y.plus * x.bottom + x.minus * y.bottom

abbrev pub ◌⊞◌ : Fraction → Fraction → Fraction
x ⊞ y = record {
  plus = x.plus * y.bottom + y.plus * x.bottom;
  minus = x.minus * y.bottom + y.minus * x.bottom;
  bottom = x.bottom * y.bottom;
  proper = mul-pos x.proper y.proper;
}

abbrev pub opposite : Fraction → Fraction
opposite x = record { plus = x.minus; minus = x.plus; bottom = x.bottom; proper = x.proper }

abbrev pub ◌⊟◌ : Fraction → Fraction → Fraction
x ⊟ y = x ⊞ opposite y

abbrev pub ◌⊠◌ : Fraction → Fraction → Fraction
x ⊠ y = record {
  plus = x.plus * y.plus + x.minus * y.minus;
  minus = x.plus * y.minus + x.minus * y.plus;
  bottom = x.bottom * y.bottom;
  proper = mul-pos x.proper y.proper;
}

abbrev pub whole_fraction : ℕ → Fraction
whole_fraction k = record { plus = k; minus = 0; bottom = 1; proper = zero-lt-suc 0 }

abbrev pub one : Fraction
one = whole_fraction 1

-- ---- floats
abbrev pub Finite : Float → Type 0
Finite nan = ⊥
Finite (inf s) = ⊥
Finite (fin s m e) = Unit {0}

-- m · 2^e with its sign; 0 stands for what is no number, where nothing is claimed
abbrev pub exact_of : Float → Fraction
exact_of nan = whole_fraction 0
exact_of (inf s) = whole_fraction 0
exact_of (fin false m e) = record { plus = m * up e; minus = 0; bottom = down e; proper = down_pos e }
exact_of (fin true m e) = record { plus = 0; minus = m * up e; bottom = down e; proper = down_pos e }

-- x is finite and its value is q
abbrev pub Is : Float → Fraction → Type 0
Is x q = Finite x × (exact_of x ≈ q)

abbrev pub SumExact : Float → Float → Type 0
SumExact x y = Finite x × Finite y × Is (x ⊕ y) (exact_of x ⊞ exact_of y)

abbrev pub DifferenceExact : Float → Float → Type 0
DifferenceExact x y = Finite x × Finite y × Is (x ⊖ y) (exact_of x ⊟ exact_of y)

abbrev pub ProductExact : Float → Float → Type 0
ProductExact x y = Finite x × Finite y × Is (x ⊗ y) (exact_of x ⊠ exact_of y)

abbrev pub QuotientExact : Float → Float → Type 0
QuotientExact x y = Finite x × Finite y × Finite (x ⊘ y) × (exact_of (x ⊘ y) ⊠ exact_of y ≈ exact_of x)
