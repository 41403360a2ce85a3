-- Between steps, as in `solve`: the interval's end, the largest number of steps, and a step's first pass.
-- That this is the loop of the Rust is not claimed here: refinement has it of the tree in rules.
use Rattle.std.specs.Prelude.{Bool, true, false, ℕ, leb}
use Rattle.common.specs.declared.Settings.{Settings}
use Rattle.common.specs.Layout.{y_at}
use Rattle.common.specs.State.{State, moved_to}
use Rattle.history.specs.Columns.{copy_of}
use Rattle.between_steps.specs.declared.Status.TheVariants.{Success, NeedsMoreSteps}
use Rattle.between_steps.specs.Begin.{is_going, first_prediction_of}
use Rattle.questions.specs.declared.Phase.TheVariants.{Opened}
use Rattle.questions.specs.Turns.{RunState, run_state, turn_at, asked_in_step_of, finished_of}

-- the derivative at the prediction is wanted
unfoldable pub open_pass_of : ℕ → State → RunState
open_pass_of n x = run_state (asked_in_step_of x.c Opened) (copy_of n (y_at n) 0 x.w) x.p

unfoldable pub began_of : Settings → State → RunState
began_of s x = open_pass_of s.n (moved_to x (first_prediction_of s x.c x.w))

-- the interval is not done; as many steps as may be are
unfoldable pub go_on_at : Settings → State → Bool → Bool → RunState
go_on_at s x false enough = turn_at (finished_of x.c Success) x
go_on_at s x true true = turn_at (finished_of x.c NeedsMoreSteps) x
go_on_at s x true false = began_of s x

unfoldable pub go_on_of : Settings → State → RunState
go_on_of s x = go_on_at s x (is_going s x.c) (leb s.maxsteps x.c.nst)
