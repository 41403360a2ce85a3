-- The condition of 11 by the signs of a first step h and of d, end minus start: h is zero, a NaN, or of another
-- `signum` than d, which has none if it is a NaN. `negative` is the sign, which zeros have too.
-- proofs/FirstStep.antt: the test `refused` decides both, each exactly.
use Rattle.std.specs.Prelude.{◌⊎◌, ◌≢◌, ◌≡◌, Float}
use Rattle.std.specs.Float.{nan, inf, fin}
use Rattle.numbers.specs.Sign.{negative}

-- zero, of either sign
abbrev pub IsZero : Float → Type 0
IsZero nan = ⊥
IsZero (inf s) = ⊥
IsZero (fin s m e) = m ≡ 0

abbrev pub StepRefused : Float → Float → Type 0
StepRefused h d = IsZero h ⊎ (h ≡ nan) ⊎ (d ≡ nan) ⊎ (negative h ≢ negative d)

pub record StepTaken (h d : Float) : Type 0 where
  pub nonzero : IsZero h → ⊥
  pub number : h ≢ nan
  pub direction : d ≢ nan
  pub signum : negative h ≡ negative d
