-- The start and the reports, as in `solve`: the first weights and the first step, and what the host's answer to a
-- report does. What an answer is to a host is not here: see answers.
use Rattle.std.specs.Prelude.{Bool, true, false, List, Float, Result, Ok, Err}
use Rattle.numbers.specs.Float.{◌⊕◌}
use Rattle.numbers.specs.Sign.{refused}
use Rattle.vectors.specs.declared.NotPositive.{NotPositive}
use Rattle.vectors.specs.Weights.{ewset_of, ewset_like_of, invert_of, weights_outcome}
use Rattle.common.specs.declared.Settings.{Settings}
use Rattle.common.specs.Layout.{ewt_at, y_at, ewt}
use Rattle.common.specs.Record.{with_h, with_tn}
use Rattle.common.specs.State.{Given, State, made, put_c, put_w}
use Rattle.history.specs.Columns.{copy_of, slope_of}
use Rattle.between_steps.specs.declared.Answer.{Answer}
use Rattle.between_steps.specs.declared.Answer.TheVariants.{Continue, Interrupt, Modified}
use Rattle.between_steps.specs.declared.Status.TheVariants.{Interrupted}
use Rattle.between_steps.specs.Start.{with_derivative, inverted, first_step_of, first_size_of, taken_of, restart_of}
use Rattle.questions.specs.declared.Phase.TheVariants as Phase
use Rattle.questions.specs.declared.Question.TheVariants as Question
use Rattle.questions.specs.Turns.{RunState, run_state, turn_at, asked_of, finished_of, weight_refused}
use Rattle.questions.specs.Begin.{go_on_of}

-- ---- the start

-- 11: a first step that is zero, NaN or of another sign
unfoldable pub sized_at : Settings → State → Float → Bool → RunState
sized_at s x h true =
    turn_at (record { question = Question.StepRefused h; phase = Phase.Finished; common = with_h h x.c }) x
sized_at s x h false =
    let h1 = first_size_of s x.c h in
    run_state (record {
      question = Question.FirstReport (record { time = x.c.tn });
      phase = Phase.FirstReport;
      common = with_h h1 x.c;
    })
    (slope_of s.n h1 x.w) x.p

unfoldable pub sized_of : Settings → State → Float → RunState
sized_of s x h = sized_at s x h (refused h s.direction)

-- 12: a weight at most 0
unfoldable pub weighted_at : Given → State → Result Unit NotPositive → RunState
weighted_at g x (Err e) = turn_at (weight_refused x.c e.index) x
weighted_at g x (Ok u) = sized_of g.s x (first_step_of g.s x.c g.rtol g.atol x.w)

-- the derivative at the start
unfoldable pub first_derivative_of : Given → State → List Float → RunState
first_derivative_of g x f =
    let n = g.s.n in
    let w = ewset_of g.rtol g.atol n (ewt_at n) (copy_of n 0 (y_at n) (with_derivative n f x.w)) in
    weighted_at g (put_w (inverted n w) x) (weights_outcome (invert_of (ewt n w)))

-- ---- reports

-- at the first report continue and interrupt keep the time alone
unfoldable pub after_first_report_of : Settings → State → Answer → List Float → Float → RunState
after_first_report_of s x Continue y time = go_on_of s (put_c (with_tn time x.c) x)
after_first_report_of s x Interrupt y time = turn_at (finished_of (with_tn time x.c) Interrupted) x
after_first_report_of s x Modified y time =
    run_state (asked_of (with_tn time x.c) Phase.FirstModified) (taken_of s.n y x.w) x.p

-- the derivative after a modified first report: the weights stay
unfoldable pub first_modified_of : Settings → State → List Float → RunState
first_modified_of s x f = go_on_of s (put_w (slope_of s.n x.c.h (with_derivative s.n f x.w)) x)

-- after a step modified ignores the time given: it is the time before the step plus the step
unfoldable pub after_report_of : Settings → State → Answer → List Float → Float → RunState
after_report_of s x Continue y time = go_on_of s (made x (with_tn time x.c) (taken_of s.n y x.w))
after_report_of s x Interrupt y time =
    run_state (finished_of (with_tn time x.c) Interrupted) (taken_of s.n y x.w) x.p
after_report_of s x Modified y time =
    run_state (asked_of (with_tn (x.c.told ⊕ x.c.hu) x.c) Phase.Modified) (taken_of s.n y x.w) x.p

-- the derivative after a modified report: weights 1 / max(|y|, 2^-52)
unfoldable pub modified_of : Settings → State → List Float → RunState
modified_of s x f =
    let n = s.n in
    go_on_of s (made x (restart_of x.c)
    (inverted n (ewset_like_of n (ewt_at n) (slope_of n x.c.h (with_derivative n f x.w)))))
