-- The step rules: the attempts of a step, a step, and `solve` around the steps, in the order of the scope's section
-- 'A step' and of the Rust. The tests, sizes, orders and families are those of the crates below.
-- `on` is what comes after. A bound of a recursion is its first argument: the passes of a step, the steps; that no
-- bound is used up in a run is part of demand 3.
-- That the tree is the Rust's is not claimed by a theorem: it is read beside lsoda.rs and compared by runs.
use Rattle.std.specs.Prelude.{Bool, true, false, List, [], ◌∷◌, ℕ, zero, suc, ◌+◌, ◌*◌, leb, replicate, Float}
use Rattle.std.specs.Float.Ieee as Ieee
use Rattle.loops.specs.Part.{part, put_part}
use Rattle.numbers.specs.Float.{◌⊕◌, whole, zero_f, one_f, uround}
use Rattle.numbers.specs.Sign.{refused}
use Rattle.std.specs.Prelude.{Result, Ok, Err}
use Rattle.vectors.specs.declared.NotPositive.{NotPositive}
use Rattle.vectors.specs.Weights.{ewset_of, ewset_like_of, invert_of, weights_outcome}
use Rattle.common.specs.declared.Settings.{Settings}
use Rattle.common.specs.Layout.{ewt_at, y_at, work_length, y, ewt}
use Rattle.common.specs.Limits.{mxncf_of}
use Rattle.common.specs.Record.{with_total, with_tn, with_h}
use Rattle.common.specs.State.{Given, State, made, put_c, put_w, moved_to}
use Rattle.history.specs.Columns.{copy_of, slope_of}
use Rattle.attempt.specs.declared.Next.{Next}
use Rattle.attempt.specs.Attempt.{Attempt, no_convergence_of, error_of, failed_of, restep_of}
use Rattle.acceptance.specs.declared.Branch.{Branch}
use Rattle.acceptance.specs.Order.{Settled}
use Rattle.acceptance.specs.Accept.{accept_of, Closed, closed_of}
use Rattle.between_steps.specs.declared.Answer.{Answer}
use Rattle.between_steps.specs.declared.Answer.TheVariants.{Continue, Interrupt, Modified}
use Rattle.between_steps.specs.declared.Status.TheVariants as Status
use Rattle.between_steps.specs.Begin.{is_going, prepared_of, entered_of, predicted_at}
use Rattle.between_steps.specs.Start.{first_size_of, first_step_of, inverted, taken_of, restart_of}
use Rattle.common.specs.Initial.{initial_of}
use Rattle.rules.specs.Play.{Report, Limits, accepted, gap, too_small, poor, begins, ends, finished, step_refused}
use Rattle.rules.specs.Play.{weight_refused, exhausted, Play, ret, ask, tell, say}
use Rattle.rules.specs.Pass.{asked, asked_in_step, wanted, stored, columns_of}
use Rattle.rules.specs.Pass.{Outcome, converged, to_retry, unconverged, pass}

-- ---- the attempts of a step

-- how a step ends: accepted, with its error; too small; poor
pub data Ended : Type 0 where
  ended_accepted : Float → State → Ended
  ended_small ended_poor : State → Ended

-- a derivative is asked for after the third to ninth error failure, and order 1 tried
abbrev pub single : State → State
single x = put_c (asked_in_step x.c) x

abbrev pub restepped : Given → List Float → State → State
restepped g f x = moved_to x (restep_of g.s x.c (stored g f x).w)

-- what follows a pass that was not accepted; `again` is the next pass
unfoldable pub follow : Given → (State → Play) → (Ended → Play) → Next → State → Play
follow g again on Next.Pass x = again x
follow g again on Next.Restep x =
    ask (wanted g (single x)) (single x) (λ f. again (restepped g f (single x)))
follow g again on Next.TooSmall x = on (ended_small x)
follow g again on Next.Poor x = on (ended_poor x)

unfoldable pub attempted : Given → (State → Play) → (Ended → Play) → State → Attempt → Play
attempted g again on x a = follow g again on a.next (made x a.common a.work)

abbrev pub after_error : Given → Float → State → Attempt
after_error g dsm x = failed_of g.s x.c dsm x.w

abbrev pub after_no_convergence : Given → State → Attempt
after_no_convergence g x = no_convergence_of g.s x.c x.w

-- the error is above 1, or not
unfoldable pub tested : Given → (State → Play) → (Ended → Play) → Bool → Float → State → Play
tested g again on true dsm x = attempted g again on x (after_error g dsm x)
tested g again on false dsm x = on (ended_accepted dsm x)

abbrev pub error_at : Given → Float → State → Float
error_at g del x = error_of g.s x.c del x.w

unfoldable pub decide : Given → (State → Play) → (Ended → Play) → Outcome → Play
decide g again on (converged del x) = tested g again on (Ieee.lt one_f (error_at g del x)) (error_at g del x) x
decide g again on (to_retry x) = again x
decide g again on (unconverged x) = attempted g again on x (after_no_convergence g x)

-- at most k passes
unfoldable pub attempts : ℕ → Given → (Ended → Play) → State → Play
attempts zero g on x = ret (exhausted x)
attempts (suc k) g on x = pass g (decide g (attempts k g on) on) x

-- ---- the end of a step

-- n, nq, t, h, hu, 2^-52, columns 0 to nq
abbrev pub snapshot_in : Given → State → List Float
snapshot_in g x =
    whole g.s.n ∷ whole x.c.nq ∷ x.c.tn ∷ x.c.h ∷ x.c.hu ∷ uround
    ∷ part 0 ((x.c.nq + 1) * g.s.n) x.w

-- the total is refreshed here alone; y is the new state
abbrev pub reported_state : Given → State → State
reported_state g x =
    made x (with_total (x.c.nst + x.c.rejected) x.c) (copy_of g.s.n (y_at g.s.n) 0 x.w)

abbrev pub report_at : Given → State → Report
report_at g x = record {
  previous = x.c.told;
  time = x.c.tn;
  y = y g.s.n x.w;
  count = x.c.count;
  snapshot = snapshot_in g x;
}

-- the host's y, in y and in column 0
abbrev pub taken : Given → List Float → State → State
taken g f x = put_w (taken_of g.s.n f x.w) x

abbrev pub timed : Float → State → State
timed t x = put_c (with_tn t x.c) x

-- after a step modified ignores the time given: it is the time before the step plus the step
abbrev pub modified : Given → List Float → State → State
modified g f x = taken g f (put_c (asked (with_tn (x.c.told ⊕ x.c.hu) x.c)) x)

-- order 1, Adams, weights 1 / max(|y|, 2^-52), setup due
abbrev pub restarted : Given → List Float → State → State
restarted g f x =
    let n = g.s.n in
    made x (restart_of x.c) (inverted n (ewset_like_of n (ewt_at n) (slope_of n x.c.h (stored g f x).w)))

-- the answer to a step's report; `on` goes on with the run
unfoldable pub after_report : Given → (State → Play) → State → Answer → List Float → Float → Play
after_report g on x Continue f t = on (timed t (taken g f x))
after_report g on x Interrupt f t = ret (finished Status.Interrupted (timed t (taken g f x)))
after_report g on x Modified f t =
    ask (wanted g (modified g f x)) (modified g f x) (λ d. on (restarted g d (modified g f x)))

-- the weights of the new state, inverted or refused (12)
unfoldable pub closed : Given → (State → Play) → Result Unit NotPositive → State → Play
closed g on (Err e) x = ret (weight_refused e.index x)
closed g on (Ok u) x =
    tell (report_at g (reported_state g x)) (reported_state g x) (after_report g on (reported_state g x))

abbrev pub closing : Given → ℕ → State → Closed
closing g order x = closed_of g.s x.c order g.rtol g.atol x.w

abbrev pub is_gap : Branch → Bool
is_gap Branch.CoefficientGap = true
is_gap Branch.Unchanged = false
is_gap Branch.SmallGain = false
is_gap Branch.Lowered = false
is_gap Branch.Kept = false
is_gap Branch.Raised = false
is_gap Branch.HeldBySm1 = false
is_gap Branch.FamilyChanged = false

-- the coefficient gap, or not; the order is the one that the step used
unfoldable pub after_acceptance : Given → (State → Play) → ℕ → Bool → State → Play
after_acceptance g on order true x = say (ends gap) (ret (finished Status.CoefficientGap x))
after_acceptance g on order false x =
    say (ends accepted) (closed g on (closing g order x).weights (put_w (closing g order x).work x))

abbrev pub acceptance : Given → Float → State → Settled
acceptance g dsm x = accept_of g.s x.c dsm x.w

abbrev pub settled_state : State → Settled → State
settled_state x r = made x r.common r.work

unfoldable pub stepped : Given → (State → Play) → Ended → Play
stepped g on (ended_accepted dsm x) =
    after_acceptance g on x.c.nq (is_gap (acceptance g dsm x).branch) (settled_state x (acceptance g dsm x))
stepped g on (ended_small x) = say (ends too_small) (ret (finished Status.StepTooSmall x))
stepped g on (ended_poor x) = say (ends poor) (ret (finished Status.PoorConvergence x))

-- ---- a step, and the steps

-- cut or set up, then predicted
abbrev pub prepared : Given → State → State
prepared g x = moved_to x (prepared_of g.s x.c x.w)

abbrev pub predicted : Given → State → State
predicted g x =
    let q = prepared g x in
    moved_to x (predicted_at g.s (entered_of x.c.tn q.c) q.w)

abbrev pub limits_of : Settings → Limits
limits_of s = record { mxncf = mxncf_of s; maxcor = s.maxcor; columns = columns_of s }

-- corrector passes of a step
abbrev pub passes_allowed : Settings → ℕ
passes_allowed s = mxncf_of s + 12

unfoldable pub step : Given → (State → Play) → State → Play
step g on x =
    say (begins (predicted g x).c.meth (limits_of g.s))
    (attempts (passes_allowed g.s) g (stepped g on) (predicted g x))

-- the interval is not done; as many steps as may be are
unfoldable pub solve_at : ℕ → Given → Bool → Bool → State → Play
solve_at zero g false enough x = ret (finished Status.Success x)
solve_at zero g true true x = ret (finished Status.NeedsMoreSteps x)
solve_at zero g true false x = ret (exhausted x)
solve_at (suc k) g false enough x = ret (finished Status.Success x)
solve_at (suc k) g true true x = ret (finished Status.NeedsMoreSteps x)
solve_at (suc k) g true false x =
    step g (λ v. solve_at k g (is_going g.s v.c) (leb g.s.maxsteps v.c.nst) v) x

-- at most k steps
abbrev pub solve : ℕ → Given → State → Play
solve k g x = solve_at k g (is_going g.s x.c) (leb g.s.maxsteps x.c.nst) x

-- ---- the start

-- the start's time, first step (where it is given), smallest step, 1 / largest step, and state
pub record Start : Type 0 where
  pub x0 : Float
  pub h : Float
  pub hmin : Float
  pub hmxi : Float
  pub y0 : List Float

-- work and pivots are 0, but for y
unfoldable pub beginning : Given → Start → State
beginning g a =
    let n = g.s.n in
    record {
      c = initial_of g.s a.x0 a.h a.hmin a.hmxi;
      w = put_part (y_at n) n (replicate (work_length n) zero_f) a.y0;
      p = replicate n 0;
    }

-- the first report, with the first step's size
abbrev pub sized_state : Given → Float → State → State
sized_state g h x = let h1 = first_size_of g.s x.c h in made x (with_h h1 x.c) (slope_of g.s.n h1 x.w)

abbrev pub first_report_at : Given → State → Report
first_report_at g x = record {
  previous = x.c.tn;
  time = x.c.tn;
  y = y g.s.n x.w;
  count = 0;
  snapshot = [];
}

abbrev pub first_modified : Given → List Float → Float → State → State
first_modified g f t x = taken g f (put_c (asked (with_tn t x.c)) x)

abbrev pub first_restarted : Given → List Float → State → State
first_restarted g f x = put_w (slope_of g.s.n x.c.h (stored g f x).w) x

-- continue and interrupt keep the time alone
unfoldable pub first_answered : Given → State → Answer → List Float → Float → Play
first_answered g x Continue f t = solve g.s.maxsteps g (timed t x)
first_answered g x Interrupt f t = ret (finished Status.Interrupted (timed t x))
first_answered g x Modified f t =
    ask (wanted g (first_modified g f t x)) (first_modified g f t x)
    (λ d. solve g.s.maxsteps g (first_restarted g d (first_modified g f t x)))

-- 11: a first step that is zero, NaN or of another sign
unfoldable pub sized : Given → Bool → Float → State → Play
sized g true h x = ret (step_refused h (put_c (with_h h x.c) x))
sized g false h x =
    tell (first_report_at g (sized_state g h x)) (sized_state g h x) (first_answered g (sized_state g h x))

abbrev pub first_step : Given → State → Float
first_step g x = first_step_of g.s x.c g.rtol g.atol x.w

-- 12: a weight at most 0
unfoldable pub weighted : Given → Result Unit NotPositive → State → Play
weighted g (Err e) x = ret (weight_refused e.index x)
weighted g (Ok u) x = sized g (refused (first_step g x) g.s.direction) (first_step g x) x

-- the first derivative: column 0 is y, and the weights are those of y
abbrev pub first_weights : Given → List Float → State → List Float
first_weights g f x =
    let n = g.s.n in
    ewset_of g.rtol g.atol n (ewt_at n) (copy_of n 0 (y_at n) (stored g f x).w)

unfoldable pub started : Given → List Float → State → Play
started g f x =
    let n = g.s.n in
    let w = first_weights g f x in
    weighted g (weights_outcome (invert_of (ewt n w))) (put_w (inverted n w) x)

-- the run of an accepted start
unfoldable pub start : Given → Start → Play
start g a = ask (wanted g (beginning g a)) (beginning g a) (λ f. started g f (beginning g a))
