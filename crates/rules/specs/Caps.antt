-- The caps of demand 3, for one step: functions of the step's own limits, of the family it began in, and of what a
-- Jacobian costs. (A mxncf of 0 counts as 1 in the limits.)
-- The second family's cap is an upper bound; that a run attains it is not claimed (docs/PROOFS.md).
use Rattle.std.specs.Prelude.{List, [], ◌∷◌, ℕ, ◌+◌, ◌*◌, ◌≤◌}
use Rattle.common.specs.declared.MethodFamily.{MethodFamily}
use Rattle.common.specs.declared.MethodFamily.TheVariants.{Adams, Bdf}
use Rattle.rules.specs.Play.{Limits}
use Rattle.rules.specs.Steps.{Step}

-- corrector passes of a step
abbrev pub passes_of : MethodFamily → Limits → ℕ
passes_of Adams l = l.mxncf + 9
passes_of Bdf l = l.mxncf + 12

abbrev pub retries_of : MethodFamily → ℕ
retries_of Adams = 0
retries_of Bdf = 3

abbrev pub jacobians_of : Limits → ℕ
jacobians_of l = l.mxncf + 9

-- derivatives, beside those that difference Jacobians cost: maxcor a pass, and the seven from -3 to -9
abbrev pub derivatives_of : MethodFamily → Limits → ℕ
derivatives_of f l = passes_of f l * l.maxcor + 7

pub record Capped (x : Step) : Type 0 where
  pub derivatives : x.tally.derivatives ≤ derivatives_of x.family x.limits + x.tally.paid
  pub jacobians : x.tally.jacobians ≤ jacobians_of x.limits
  pub passes : x.tally.passes ≤ passes_of x.family x.limits
  pub retries : x.tally.retries ≤ retries_of x.family

abbrev pub Every : (Step → Type 0) → List Step → Type 0
Every P [] = Unit {0}
Every P (x ∷ xs) = P x × Every P xs
