-- Each refusal has a number: a test that refuses nothing is known by its entry. Assumes nothing.
use mathlib.Core.Bool.{false}
use mathlib.Core.Path.{◌≡◌, refl}
use lib.Dec.{eqb}
use Rattle.refusals.specs.declared.Refusal.{Refusal}
use Rattle.refusals.specs.Refusal.{entry}

pub refuses : (r : Refusal) → eqb (entry r).number 0 ≡ false
refuses Refusal.TooManyStates = refl
refuses Refusal.ToleranceLength = refl
refuses Refusal.LentLength = refl
refuses Refusal.LargeSetting = refl
refuses Refusal.NoSteps = refl
refuses Refusal.NoIterations = refl
refuses Refusal.NoOrder = refl
refuses Refusal.Banded = refl
refuses (Refusal.RelativeTolerance i) = refl
refuses (Refusal.AbsoluteTolerance i) = refl
refuses (Refusal.FirstStep h) = refl
refuses (Refusal.Weight i) = refl
refuses Refusal.SessionRange = refl
refuses Refusal.Unasked = refl
