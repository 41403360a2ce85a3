-- Inside a step and between steps the machine stands at the tree: the attempts, acceptance, the report, the next step.
--     GoesOn                    what follows a step is followed
--     attempts-stand, stepped-stands, step-stands, solve-stands
-- Assumes nothing.
use mathlib.Core.Bool.{Bool, true, false}
use mathlib.Core.List.{List}
use mathlib.Core.Path.{refl}
use Prim.Native.Nat.{ℕ, zero, suc, ◌+◌, ◌≤◌}
use lib.Dec.{leb}
use lib.Ieee as Ieee
use lib.Ieee.{Float}
use Rattle.numbers.specs.Float.{one_f}
use Rattle.std.specs.Prelude.{Result, Ok, Err}
use Rattle.vectors.specs.declared.NotPositive.{NotPositive}
use Rattle.common.specs.Limits.{mxncf_of}
use Rattle.common.specs.State.{Given, State, put_w}
use Rattle.attempt.specs.declared.Next.{Next}
use Rattle.acceptance.specs.declared.Branch.{Branch}
use Rattle.between_steps.specs.declared.Answer.{Answer}
use Rattle.between_steps.specs.declared.Answer.TheVariants.{Continue, Interrupt, Modified}
use Rattle.between_steps.specs.declared.Status.{Status}
use Rattle.between_steps.specs.Begin.{first_prediction_of as opened_of, is_going}
use Rattle.questions.specs.declared.Phase.TheVariants as Phase
use Rattle.questions.specs.Turns.{RunState, turn_at, asked_of, asked_in_step_of, finished_of}
use Rattle.questions.specs.Begin.{open_pass_of, began_of, go_on_at, go_on_of}
use Rattle.passes.specs.Pass.{attempted_at, reported_of, closed_at, end_step_of, accepted_at, accepted_of}
use Rattle.passes.specs.Pass.{error_test_at}
use Rattle.passes.specs.Pass.{error_test_of, pass_failed_of}
use Rattle.passes.specs.Pass as Machine
use Rattle.reports.specs.Reports.{after_report_of, modified_of}
use Rattle.machine.specs.Resume.{resume_at}
use Rattle.rules.specs.Play.{Play, ret, finished}
use Rattle.rules.specs.Pass.{converged, to_retry, unconverged}
use Rattle.rules.specs.Rules.{ended_accepted, single, restepped, follow, attempted, tested, error_at, decide, attempts}
use Rattle.rules.specs.Rules.{reported_state, modified, restarted, after_report, taken, timed, closed, closing, is_gap}
use Rattle.rules.specs.Rules.{after_acceptance, acceptance, settled_state, stepped, predicted, step, solve_at}
use Rattle.refinement.specs.Shown.{shown_as}
use Rattle.refinement.specs.AtNode.{AtNode}
use Rattle.refinement.proofs.Alive.{Alive}
use Rattle.refinement.proofs.Replies.{takes-answer, derivative-stands}
use Rattle.refinement.proofs.Pass.{Outcomes, pass-stands}

module _ (g : Given) where
  -- the end of a run
  abbrev pub ended : Status → State → RunState
  ended status x = turn_at (finished_of x.c status) x

  pub ended-stands : (status : Status) (x : State) → AtNode g (ret (finished status x)) (ended status x)
  unfolding finished_of shown_as
  ended-stands status x =
      record { shows = refl; holds = record { same = refl; takes = λ r. refl } }

  -- what follows a step
  abbrev pub goes : State → RunState
  goes x = go_on_of g.s x

  abbrev pub GoesOn : (State → Play) → Type 0
  GoesOn on = (x : State) → Alive g.s.n (on x) → AtNode g (on x) (goes x)

  -- what follows an attempt
  abbrev pub opens : State → RunState
  opens x = open_pass_of g.s.n x

  module _ (on : State → Play) (onward : GoesOn on) where
    -- ---- the end of a step

    answered-stands : (x : State) (a : Answer) (f : List Float) (t : Float) → Alive g.s.n (after_report g on x a f t)
        → AtNode g (after_report g on x a f t) (after_report_of g.s x a f t)
    unfolding after_report after_report_of asked_of resume_at modified_of
    answered-stands x Continue f t a = onward (timed t (taken g f x)) a
    answered-stands x Interrupt f t a = ended-stands Status.Interrupted (timed t (taken g f x))
    answered-stands x Modified f t a =
        derivative-stands g (modified g f x) _ Phase.Modified (λ kind len n. refl)
        (λ d u h. onward (restarted g d (modified g f x)) (a d h))

    closed-stands : (w : Result Unit NotPositive) (x : State) → Alive g.s.n (closed g on w x)
        → AtNode g (closed g on w x) (closed_at g.s.n x w)
    unfolding closed closed_at reported_of shown_as resume_at
    closed-stands (Err e) x a =
        record { shows = refl; holds = record { same = refl; takes = λ r. refl } }
    closed-stands (Ok u) x a =
        let l = reported_of g.s.n x in (
          record { shows = refl; holds = record { same = refl; takes = λ r. refl } },
          λ b f t h. rw (takes-answer g l f t b (λ k. refl) h) (answered-stands (reported_state g x) b f t (a b f t h)),
        )

    close-stands : (order : ℕ) (x : State)
        → Alive g.s.n (closed g on (closing g order x).weights (put_w (closing g order x).work x))
        → AtNode g (closed g on (closing g order x).weights (put_w (closing g order x).work x))
        (end_step_of g x order)
    unfolding end_step_of
    close-stands order x a = closed-stands (closing g order x).weights (put_w (closing g order x).work x) a

    settled-stands : (order : ℕ) (b : Branch) (x : State) → Alive g.s.n (after_acceptance g on order (is_gap b) x)
        → AtNode g (after_acceptance g on order (is_gap b) x) (accepted_at g x order b)
    unfolding after_acceptance accepted_at
    settled-stands order Branch.CoefficientGap x a = ended-stands Status.CoefficientGap x
    settled-stands order Branch.Unchanged x a = close-stands order x a
    settled-stands order Branch.SmallGain x a = close-stands order x a
    settled-stands order Branch.Lowered x a = close-stands order x a
    settled-stands order Branch.Kept x a = close-stands order x a
    settled-stands order Branch.Raised x a = close-stands order x a
    settled-stands order Branch.HeldBySm1 x a = close-stands order x a
    settled-stands order Branch.FamilyChanged x a = close-stands order x a

    accepted-stands : (dsm : Float) (x : State) → Alive g.s.n (stepped g on (ended_accepted dsm x))
        → AtNode g (stepped g on (ended_accepted dsm x)) (accepted_of g x dsm)
    unfolding stepped accepted_of
    accepted-stands dsm x a =
        settled-stands x.c.nq (acceptance g dsm x).branch (settled_state x (acceptance g dsm x)) a

    -- ---- the attempts

    module _ (again : State → Play)
        (repeats : (x : State) → Alive g.s.n (again x) → AtNode g (again x) (opens x)) where
      follow-stands : (v : Next) (x : State) → Alive g.s.n (follow g again (stepped g on) v x)
          → AtNode g (follow g again (stepped g on) v x) (attempted_at g.s.n x v)
      unfolding follow stepped attempted_at asked_in_step_of resume_at Machine.restep_reply_of
      follow-stands Next.Pass x a = repeats x a
      follow-stands Next.Restep x a =
          derivative-stands g (single x) _ Phase.Restep (λ kind len n. refl)
          (λ f t h. repeats (restepped g f (single x)) (a f h))
      follow-stands Next.TooSmall x a = ended-stands Status.StepTooSmall x
      follow-stands Next.Poor x a = ended-stands Status.PoorConvergence x

      tested-stands : (above : Bool) (dsm : Float) (x : State)
          → Alive g.s.n (tested g again (stepped g on) above dsm x)
          → AtNode g (tested g again (stepped g on) above dsm x) (error_test_at g x dsm above)
      unfolding tested attempted error_test_at
      tested-stands true dsm x a = follow-stands _ _ a
      tested-stands false dsm x a = accepted-stands dsm x a

      decide-stands : Outcomes g (decide g again (stepped g on))
      unfolding decide attempted error_test_of pass_failed_of
      decide-stands (converged del x) a = tested-stands (Ieee.lt one_f (error_at g del x)) (error_at g del x) x a
      decide-stands (to_retry x) a = repeats x a
      decide-stands (unconverged x) a = follow-stands _ _ a

    module _ (some : 1 ≤ g.s.n) where
      pub attempts-stand : (k : ℕ) (x : State) → Alive g.s.n (attempts k g (stepped g on) x)
          → AtNode g (attempts k g (stepped g on) x) (opens x)
      unfolding attempts
      attempts-stand zero x a = absurd a
      attempts-stand (suc k) x a =
          pass-stands g (decide g (attempts k g (stepped g on)) (stepped g on))
          (decide-stands (attempts k g (stepped g on)) (attempts-stand k)) some x a

      pub step-stands : (x : State) → Alive g.s.n (step g on x)
          → AtNode g (step g on x) (began_of g.s x)
      unfolding step began_of opened_of
      step-stands x a = attempts-stand (mxncf_of g.s + 12) (predicted g x) a

  -- ---- the steps

  pub solve-stands : 1 ≤ g.s.n → (k : ℕ) (going enough : Bool) (x : State)
      → Alive g.s.n (solve_at k g going enough x)
      → AtNode g (solve_at k g going enough x) (go_on_at g.s x going enough)
  unfolding solve_at go_on_at go_on_of
  solve-stands some zero false enough x a = ended-stands Status.Success x
  solve-stands some zero true true x a = ended-stands Status.NeedsMoreSteps x
  solve-stands some zero true false x a = absurd a
  solve-stands some (suc k) false enough x a = ended-stands Status.Success x
  solve-stands some (suc k) true true x a = ended-stands Status.NeedsMoreSteps x
  solve-stands some (suc k) true false x a =
      step-stands (λ v. solve_at k g (is_going g.s v.c) (leb g.s.maxsteps v.c.nst) v)
      (λ v b. solve-stands some k (is_going g.s v.c) (leb g.s.maxsteps v.c.nst) v b) some x a
