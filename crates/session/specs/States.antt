-- The numbers that stand for a flag, a family and a phase (docs/SESSION.md). Where 13 is passed a word has one of them.
use Rattle.std.specs.Prelude.{Bool, true, false, cond, ℕ, eqb}
use Rattle.common.specs.declared.MethodFamily.{MethodFamily}
use Rattle.common.specs.declared.MethodFamily.TheVariants.{Adams, Bdf}
use Rattle.questions.specs.declared.Phase.{Phase}

abbrev pub flag_number : Bool → ℕ
flag_number false = 0
flag_number true = 1

abbrev pub flag_of : ℕ → Bool
flag_of w = eqb w 1

abbrev pub family_number : MethodFamily → ℕ
family_number Adams = 1
family_number Bdf = 2

unfoldable pub family_of : ℕ → MethodFamily
family_of w = cond (eqb w 1) Adams Bdf

abbrev pub phase_number : Phase → ℕ
phase_number Phase.FirstDerivative = 0
phase_number Phase.FirstReport = 1
phase_number Phase.FirstModified = 2
phase_number Phase.Opened = 3
phase_number Phase.JacobianAsked = 4
phase_number Phase.DifferenceColumn = 5
phase_number Phase.FurtherDerivative = 6
phase_number Phase.Restep = 7
phase_number Phase.Report = 8
phase_number Phase.Modified = 9
phase_number Phase.Finished = 10

-- an unknown number, which 13 refuses, is read as the last
unfoldable pub phase_of : ℕ → Phase
phase_of w =
    cond (eqb w 0) Phase.FirstDerivative
    (cond (eqb w 1) Phase.FirstReport
    (cond (eqb w 2) Phase.FirstModified
    (cond (eqb w 3) Phase.Opened
    (cond (eqb w 4) Phase.JacobianAsked
    (cond (eqb w 5) Phase.DifferenceColumn
    (cond (eqb w 6) Phase.FurtherDerivative
    (cond (eqb w 7) Phase.Restep
    (cond (eqb w 8) Phase.Report
    (cond (eqb w 9) Phase.Modified Phase.Finished)))))))))
