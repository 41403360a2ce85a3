-- At order 1, after a reset, the record is in range (`StepInRange`), whatever the flag. To retract rejects nothing.
-- Assumes nothing.
use mathlib.Core.Bool.{Bool}
use mathlib.Core.Path.{◌≡◌, refl}
use native.Mathlib.Omega.{arith}
use Rattle.common.specs.declared.Settings.{Settings}
use Rattle.common.specs.declared.Common.{Common}
use Rattle.common.specs.Record.{with_due, with_ialth, with_nq}
use Rattle.common.specs.Rules.{reset_of}
use Rattle.common.specs.Ranges.{StepInRange}
use Rattle.history.proofs.Laws.{same-range, reset-range}
use Rattle.attempt.specs.Attempt.{retracted_of}

pub same-rejected : (c : Common) → (retracted_of c).rejected ≡ c.rejected
unfolding retracted_of
same-rejected c = refl

pub in-range-lowered : (s : Settings) (c : Common) → StepInRange s c → (due : Bool)
    → StepInRange s (reset_of s (with_nq 1 (with_due due (with_ialth 5 c))))
in-range-lowered s c p due = reset-range 1 (omega arith) (omega arith) (same-range _ refl refl refl refl p)
