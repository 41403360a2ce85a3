-- Floats of the format binary64: literals and counts are, results of operations are (lib.Ieee.Fits), and what absolute
-- value, sign, maximum and minimum make of such floats is.
-- Assumes nothing.
use Prim.Native.Nat.{ℕ, zero, suc}
use lib.Ieee as Ieee
use lib.Ieee.{Float, nan, inf, fin, binary64, fits}
use lib.Ieee.Fits as Fits
use lib.Ieee.Bits.{of_bits-fits}
use Rattle.loops.proofs.Test.{chosen}
use Rattle.numbers.specs.Float.{◌⊕◌, ◌⊖◌, ◌⊗◌, ◌⊘◌, lit}
use Rattle.numbers.specs.Sign.{abs_of, signum_of, copysign_of}
use Rattle.numbers.specs.Order.{max_of, min_of}
use Rattle.session.proofs.Fits.{Fit}

pub literal : (b : ℕ) → Fit (lit b)
literal b = of_bits-fits binary64 b

pub sum : (x y : Float) → Fit (x ⊕ y)
sum x y = Fits.add-fits binary64 x y

pub difference : (x y : Float) → Fit (x ⊖ y)
difference x y = Fits.sub-fits binary64 x y

pub product : (x y : Float) → Fit (x ⊗ y)
product x y = Fits.mul-fits binary64 x y

pub quotient : (x y : Float) → Fit (x ⊘ y)
quotient x y = Fits.div-fits binary64 x y

pub absolute : (x : Float) → Fit x → Fit (abs_of x)
unfolding abs_of fits
absolute nan p = tt
absolute (inf s) p = tt
absolute (fin s zero e) p = p
absolute (fin s (suc m) e) p = p

pub signum : (x : Float) → Fit (signum_of x)
unfolding signum_of fits
signum nan = tt
signum (inf s) = tt
signum (fin s m e) = tt

pub copysign : (x y : Float) → Fit x → Fit (copysign_of x y)
unfolding copysign_of fits
copysign nan y p = tt
copysign (inf s) y p = tt
copysign (fin s zero e) y p = p
copysign (fin s (suc m) e) y p = p

pub maximum : (a b : Float) → Fit a → Fit b → Fit (max_of a b)
unfolding max_of
maximum a b p q = chosen Fit (Ieee.lt a b) q (chosen Fit (Ieee.ne a a) q p)

pub minimum : (a b : Float) → Fit a → Fit b → Fit (min_of a b)
unfolding min_of
minimum a b p q = chosen Fit (Ieee.lt b a) q (chosen Fit (Ieee.ne a a) q p)
