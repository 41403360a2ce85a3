-- A run as a tree: it asks a question, tells a report, says what happens, or ends. A host is a path through the tree.
-- A question and a report stand beside the state that the run keeps until the reply. Events ask nothing of the host:
-- they mark the steps, passes, Jacobians and retries that demand 3 counts.
use Rattle.std.specs.Prelude.{List, ℕ, Float}
use Rattle.common.specs.declared.MethodFamily.{MethodFamily}
use Rattle.common.specs.State.{State}
use Rattle.between_steps.specs.declared.Answer.{Answer}
use Rattle.between_steps.specs.declared.Status.{Status}

-- wanted at this time and state
pub data Question : Type 0 where
  derivative_at jacobian_at : Float → List Float → Question

-- the first report has no snapshot
pub record Report : Type 0 where
  pub previous : Float
  pub time : Float
  pub y : List Float
  pub count : ℕ
  pub snapshot : List Float

-- the limits of a step: convergence failures that end it, iterations of a pass, derivatives of a difference Jacobian
pub record Limits : Type 0 where
  pub mxncf : ℕ
  pub maxcor : ℕ
  pub columns : ℕ

pub data Source : Type 0 where
  by_differences supplied : Source

-- how a step ends
pub data Ending : Type 0 where
  accepted gap too_small poor : Ending

pub data Event : Type 0 where
  begins : MethodFamily → Limits → Event
  opens : Event
  jacobian : Source → Event
  retries : Event
  ends : Ending → Event

-- how a run ends: with a status, by 11, by 12; `exhausted` is where a bound of the rules' recursion is used up
pub data End : Type 0 where
  finished : Status → State → End
  step_refused : Float → State → End
  weight_refused : ℕ → State → End
  exhausted : State → End

-- a report is answered with y and a time
pub data Play : Type 0 where
  ret : End → Play
  ask : Question → State → (List Float → Play) → Play
  tell : Report → State → (Answer → List Float → Float → Play) → Play
  say : Event → Play → Play
