-- What a reply asks of a session and of what is lent.
use Rattle.std.specs.Prelude.{List, ℕ, ◌-◌, Float}
use Rattle.vectors.specs.Tolerance.{List1OrN}
use Rattle.common.specs.Ranges.{Ranges, Lent}
use Rattle.questions.specs.declared.Session.{Session}
use Rattle.questions.specs.declared.Phase.{Phase}

-- a session, the tolerance lists, the work and the pivots that a reply takes
pub record Resumes (x : Session) (rtol atol work : List Float) (ipiv : List ℕ) : Type 0 where
  pub ranges : Ranges x.settings x.common
  pub relative : List1OrN rtol (x.settings.n - 1)
  pub absolute : List1OrN atol (x.settings.n - 1)
  pub lent : Lent x.settings.n work ipiv

-- a finished session needs nothing
abbrev pub UnlessFinished : Phase → Type 0 → Type 0
UnlessFinished Phase.FirstDerivative X = X
UnlessFinished Phase.FirstReport X = X
UnlessFinished Phase.FirstModified X = X
UnlessFinished Phase.Opened X = X
UnlessFinished Phase.JacobianAsked X = X
UnlessFinished Phase.DifferenceColumn X = X
UnlessFinished Phase.FurtherDerivative X = X
UnlessFinished Phase.Restep X = X
UnlessFinished Phase.Report X = X
UnlessFinished Phase.Modified X = X
UnlessFinished Phase.Finished X = Unit {0}
