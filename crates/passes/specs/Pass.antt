-- The replies inside a step, and what they lead to: the Jacobian, the iterations, the verdict, the error test,
-- acceptance, the report. That this is `stoda` of the Rust is not claimed here: refinement has it of the tree in rules.
use Rattle.std.specs.Prelude.{Bool, true, false, List, ℕ, ◌+◌, ltb, Float, Result, Ok, Err}
use Rattle.std.specs.Float.Ieee as Ieee
use Rattle.numbers.specs.Float.{zero_f, one_f}
use Rattle.vectors.specs.declared.NotPositive.{NotPositive}
use Rattle.common.specs.declared.Settings.{Settings}
use Rattle.common.specs.declared.Common.{Common}
use Rattle.common.specs.Layout.{ftem_at, acor_at, y_at, yfd_at}
use Rattle.common.specs.Record.{with_total, with_column}
use Rattle.common.specs.State.{Given, State, state, made, put_c, put_w, moved_to}
use Rattle.history.specs.Columns.{copy_of, fill_of}
use Rattle.history.specs.Parts.{stored_of}
use Rattle.jacobian.specs.Jacobian.{is_supplied, begin_of, perturb_of, restore_of, finish_jacobian_of as factors_of}
use Rattle.jacobian.specs.Jacobian as Jacobian
use Rattle.corrector.specs.declared.Pass.{Pass}
use Rattle.corrector.specs.Verdict.{verdict_of}
use Rattle.corrector.specs.Iterate.{open_of, correct_of}
use Rattle.attempt.specs.declared.Next.{Next}
use Rattle.attempt.specs.Attempt.{Attempt, no_convergence_of, error_of, failed_of}
use Rattle.attempt.specs.Attempt as Attempt
use Rattle.acceptance.specs.declared.Branch.{Branch}
use Rattle.acceptance.specs.declared.Branch.TheVariants.{Unchanged, SmallGain, Lowered, Kept as KeptOrder, Raised}
use Rattle.acceptance.specs.declared.Branch.TheVariants.{HeldBySm1, FamilyChanged, CoefficientGap}
use Rattle.acceptance.specs.Accept.{accept_of, closed_of}
use Rattle.between_steps.specs.declared.Status.TheVariants.{StepTooSmall, PoorConvergence}
use Rattle.between_steps.specs.declared.Status.TheVariants as Status
use Rattle.between_steps.specs.Start.{with_derivative}
use Rattle.questions.specs.declared.Phase.TheVariants.{JacobianAsked, DifferenceColumn, FurtherDerivative}
use Rattle.questions.specs.declared.Phase.TheVariants.{Restep, Report}
use Rattle.questions.specs.declared.Question.TheVariants as Question
use Rattle.questions.specs.declared.Turn.{Turn}
use Rattle.questions.specs.Turns.{RunState, run_state, turn_at, asked_in_step_of, finished_of, weight_refused}
use Rattle.questions.specs.Begin.{open_pass_of}

-- ---- after a pass that was not accepted

unfoldable pub attempted_at : ℕ → State → Next → RunState
attempted_at n x Next.Pass = open_pass_of n x
attempted_at n x Next.Restep = turn_at (asked_in_step_of x.c Restep) x
attempted_at n x Next.TooSmall = turn_at (finished_of x.c StepTooSmall) x
attempted_at n x Next.Poor = turn_at (finished_of x.c PoorConvergence) x

abbrev pub attempted_of : ℕ → State → Attempt → RunState
attempted_of n x a = attempted_at n (made x a.common a.work) a.next

-- ---- acceptance

-- y is the new state; the total is refreshed here alone
unfoldable pub reported_of : ℕ → State → RunState
reported_of n x =
    let c = x.c in
    run_state (record {
      question = Question.Report (record { previous = c.told; time = c.tn; count = c.count; order = c.nq });
      phase = Report;
      common = with_total (c.nst + c.rejected) c;
    })
    (copy_of n (y_at n) 0 x.w) x.p

unfoldable pub closed_at : ℕ → State → Result Unit NotPositive → RunState
closed_at n x (Err e) = turn_at (weight_refused x.c e.index) x
closed_at n x (Ok u) = reported_of n x

unfoldable pub end_step_of : Given → State → ℕ → RunState
end_step_of g x order =
    let e = closed_of g.s x.c order g.rtol g.atol x.w in
    closed_at g.s.n (put_w e.work x) e.weights

unfoldable pub accepted_at : Given → State → ℕ → Branch → RunState
accepted_at g x order CoefficientGap = turn_at (finished_of x.c Status.CoefficientGap) x
accepted_at g x order Unchanged = end_step_of g x order
accepted_at g x order SmallGain = end_step_of g x order
accepted_at g x order Lowered = end_step_of g x order
accepted_at g x order KeptOrder = end_step_of g x order
accepted_at g x order Raised = end_step_of g x order
accepted_at g x order HeldBySm1 = end_step_of g x order
accepted_at g x order FamilyChanged = end_step_of g x order

-- the weights are scaled by the order that the step used
unfoldable pub accepted_of : Given → State → Float → RunState
accepted_of g x dsm =
    let a = accept_of g.s x.c dsm x.w in
    accepted_at g (made x a.common a.work) x.c.nq a.branch

-- the error is above 1
unfoldable pub error_test_at : Given → State → Float → Bool → RunState
error_test_at g x dsm true = attempted_of g.s.n x (failed_of g.s x.c dsm x.w)
error_test_at g x dsm false = accepted_of g x dsm

unfoldable pub error_test_of : Given → State → Float → RunState
error_test_of g x del =
    let dsm = error_of g.s x.c del x.w in
    error_test_at g x dsm (Ieee.lt one_f dsm)

unfoldable pub pass_failed_of : Settings → State → RunState
pass_failed_of s x = attempted_of s.n x (no_convergence_of s x.c x.w)

-- ---- iterations

unfoldable pub concluded_at : Given → State → Pass → Float → RunState
concluded_at g x Pass.Converged del = error_test_of g x del
concluded_at g x Pass.Retry del = open_pass_of g.s.n x
concluded_at g x Pass.NoConvergence del = pass_failed_of g.s x
concluded_at g x Pass.Further del = turn_at (asked_in_step_of x.c FurtherDerivative) x

unfoldable pub iterate_of : Given → State → RunState
iterate_of g x =
    let r = correct_of g.s x.c x.p x.w in
    let v = verdict_of g.s x.c r in
    concluded_at g (made x v.common r.work) v.pass r.del

unfoldable pub iterations_of : Given → State → RunState
iterations_of g x = iterate_of g (made x (open_of x.c) (fill_of g.s.n (acor_at g.s.n) zero_f x.w))

-- ---- the Jacobian

-- a singular matrix gives no convergence
unfoldable pub matrix_done_at : Given → State → Bool → RunState
matrix_done_at g x true = iterations_of g x
matrix_done_at g x false = pass_failed_of g.s x

unfoldable pub matrix_done_of : Given → State → RunState
matrix_done_of g x =
    let f = factors_of g.s x.c x.w x.p in
    matrix_done_at g (state f.common f.work f.ipiv) f.done

-- difference column j is asked for
unfoldable pub ask_column_of : Settings → State → ℕ → RunState
ask_column_of s x j =
    run_state (asked_in_step_of (with_column j x.c) DifferenceColumn) (perturb_of s x.c j x.w) x.p

abbrev pub jacobian_asked : Common → Turn
jacobian_asked c = record { question = Question.Jacobian (record { time = c.tn }); phase = JacobianAsked; common = c }

unfoldable pub ask_jacobian_at : Settings → State → Bool → RunState
ask_jacobian_at s x true = turn_at (jacobian_asked x.c) x
ask_jacobian_at s x false = ask_column_of s (put_w (copy_of s.n (yfd_at s.n) (y_at s.n) x.w) x) 0

unfoldable pub ask_jacobian_of : Settings → State → RunState
ask_jacobian_of s x = ask_jacobian_at s (put_c (begin_of x.c) x) (is_supplied s x.c)

-- ---- replies

-- a Jacobian is due
unfoldable pub opened_reply_at : Given → State → Bool → RunState
opened_reply_at g x true = ask_jacobian_of g.s x
opened_reply_at g x false = iterations_of g x

-- the derivative at the prediction
unfoldable pub opened_reply_of : Given → State → List Float → RunState
opened_reply_of g x f = opened_reply_at g (put_w (with_derivative g.s.n f x.w) x) x.c.due

-- the host's Jacobian
unfoldable pub jacobian_reply_of : Given → State → List Float → RunState
jacobian_reply_of g x f = matrix_done_of g (put_w (Jacobian.supplied_of g.s x.c f x.w) x)

-- another column follows
unfoldable pub column_reply_at : Given → State → Bool → RunState
column_reply_at g x true = ask_column_of g.s x (x.c.column + 1)
column_reply_at g x false = matrix_done_of g (put_c (with_column 0 x.c) x)

-- the derivative of a difference column
unfoldable pub column_reply_of : Given → State → List Float → RunState
column_reply_of g x f =
    column_reply_at g (put_w (restore_of g.s x.c x.c.column (stored_of (ftem_at g.s.n) f x.w)) x)
    (ltb (x.c.column + 1) g.s.n)

-- a further derivative
unfoldable pub further_reply_of : Given → State → List Float → RunState
further_reply_of g x f = iterate_of g (put_w (with_derivative g.s.n f x.w) x)

-- the derivative after the third to ninth error failure
unfoldable pub restep_reply_of : Settings → State → List Float → RunState
restep_reply_of s x f = open_pass_of s.n (moved_to x (Attempt.restep_of s x.c (with_derivative s.n f x.w)))
