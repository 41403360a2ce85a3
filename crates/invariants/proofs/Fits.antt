-- A session's floats are of the format:
--     floats-kept   a reply keeps them so, if its time is of it; nothing is asked of work, reply or tolerances
--     start_fits    those of an accepted start are, if x0, xend, min_step and first_step are
-- Assumes nothing.
use mathlib.Core.Bool.{Bool, true, false}
use mathlib.Core.List.{List}
use lib.Dec.{eqb}
use lib.Ieee as Ieee
use lib.Ieee.{Float}
use Rattle.loops.proofs.Test.{chosen}
use Rattle.numbers.specs.Float.{◌⊖◌, zero_f, one_f}
use Rattle.common.specs.declared.Settings.{Settings}
use Rattle.common.specs.declared.Common.{Common}
use Rattle.common.specs.Record.{with_setup}
use Rattle.common.specs.State.{Given}
use Rattle.common.specs.Rules.{first_call_init_of}
use Rattle.attempt.specs.Attempt.{no_convergence_of, failed_of}
use Rattle.between_steps.specs.declared.Kind.{Kind}
use Rattle.between_steps.specs.Begin.{is_cut, cut_of, setup_of, prepared_at, prepared_of, predicted_at}
use Rattle.between_steps.specs.Begin.{first_prediction_of}
use Rattle.between_steps.specs.Start.{first_step_of as step_of}
use Rattle.questions.specs.Turns.{RunState}
use Rattle.machine.specs.Resume.{resume_of}
use Rattle.refusals.specs.declared.Options.{Options}
use Rattle.refusals.specs.declared.Lengths.{Lengths}
use Rattle.refusals.specs.Start.{largest_of, smallest_of, inverse_of, inverse_largest_of, accepted_settings}
use Rattle.refusals.specs.Start.{given_step_of}
use Rattle.session.proofs.Fits.{Fit, FloatsFit}
use Rattle.invariants.specs.Next.{started_session, session_found}
use Rattle.invariants.proofs.Keeps.{Invariant, each, any, after-pass, Keeps}
use Rattle.invariants.proofs.Walk.{resume-keeps}
use Rattle.invariants.proofs.Floats.{literal, sum, quotient, absolute, signum}
use Rattle.invariants.proofs.Sizes.{norm, initial-step, first-size}
use Rattle.invariants.proofs.Records.{CommonFits, put-tn, put-h, put-told, put-pnorm, commons, floats}
use Rattle.invariants.proofs.Records.{initial-fits}
use Rattle.invariants.proofs.Steps.{first-call-fits, reset-fits, adjust-fits, predicted-fits, failed-fits}
use Rattle.invariants.proofs.Steps.{no-convergence-fits, restep-fits}
use Rattle.invariants.proofs.Correct.{begin-fits, finished-fits, open-fits, size_fits, judge-fits}
use Rattle.invariants.proofs.Accept.{accept-fits}

-- ---- a reply

-- the record's floats; nothing is asked of the work
abbrev Fitting : Invariant
Fitting x = CommonFits x.c

module _ (s : Settings) where
  setup-fits : (c : Common) → CommonFits c → CommonFits (setup_of s c)
  unfolding setup_of
  setup-fits c f =
      reset-fits s (first_call_init_of s (with_setup false c)) (first-call-fits s (with_setup false c) f)

  prepared-at : (cut due : Bool) (c : Common) (work : List Float) → CommonFits c
      → CommonFits (prepared_at s cut due c work).common
  unfolding prepared_at cut_of
  prepared-at true due c work f = adjust-fits s _ _ f
  prepared-at false true c work f = setup-fits c f
  prepared-at false false c work f = f

  first_fits : (c : Common) (work : List Float) → CommonFits c → CommonFits (first_prediction_of s c work).common
  unfolding first_prediction_of prepared_of predicted_at
  first_fits c work f =
      put-pnorm (norm _ _)
      (predicted-fits s _ (put-told f.tn (prepared-at (is_cut s c) c.setup c work f)))

  first_step : (rtol atol : List Float) (c : Common) (work : List Float) → CommonFits c
      → Fit (step_of s c rtol atol work)
  first_step rtol atol c work f = chosen Fit s.given f.h (initial-step _ _ _ _ _ _ _)

floats-keep : (g : Given) (time : Float) → Fit time → Keeps g time Fitting Fitting Fitting
floats-keep g time t = record {
  between-work = λ x f w e. f;
  step-work = λ x f w e. f;
  over = λ x f. f;
  asked = λ x f k. f;
  timed = λ x f. put-tn t f;
  retimed = λ x f. put-tn (sum _ _) f;
  first_step = λ x f w. put-h (first_step g.s g.rtol g.atol x.c w f) f;
  first-size = λ x f w. put-h (first-size g.s x.c _ (first_step g.s g.rtol g.atol x.c w f)) f;
  restarted = λ x f. f;
  totalled = λ x f k. f;
  begun = λ x f e. first_fits g.s x.c x.w f;
  accepted = λ x f dsm w. accept-fits g.s x.c dsm w f;
  asked-in-step = λ x f k j. f;
  opened = λ x f. open-fits x.c f;
  judged = λ x f. judge-fits g.s x.c _ _ (size_fits g.s x.c x.p x.w) f;
  jacobian-begun = λ x f. begin-fits x.c f;
  column = λ x f j e. f;
  factored = λ x f. finished-fits g.s x.c x.w x.p f;
  unconverged = λ x f w.
      let q = no-convergence-fits g.s x.c w f in
      after-pass (no_convergence_of g.s x.c w).next (λ e. q) (λ e. q) q;
  failed = λ x f dsm w.
      let q = failed-fits g.s x.c dsm w f in
      after-pass (failed_of g.s x.c dsm w).next (λ e. q) (λ e. q) q;
  restepped = λ x f w. restep-fits g.s x.c w f;
}

pub floats-kept : (g : Given) (l : RunState) (kind : Kind) (reply : List Float) (time : Float)
    → FloatsFit (session_found g l) → Fit time
    → FloatsFit (session_found g (resume_of g l.phase l.st kind reply time))
floats-kept g l kind reply time f t =
    let c = commons (session_found g l) f in
    let m = resume_of g l.phase l.st kind reply time in
    floats (session_found g m) f.xend f.direction
    (each m.phase (λ h. h) (λ h. h) (λ h. h)
    (resume-keeps g l.phase l.st kind reply time (floats-keep g time t)
    (any l.phase c c c)))

-- ---- a start

smallest-fits : (o : Options) → Fit o.min_step → Fit (smallest_of o)
unfolding smallest_of
smallest-fits o p = chosen Fit (eqb o.has_min_step 0) (literal _) (absolute _ p)

inverse-fits : (hmax : Float) → Fit (inverse_of hmax)
unfolding inverse_of
inverse-fits hmax = chosen Fit (Ieee.lt zero_f hmax) (quotient one_f hmax) (literal _)

inverse-largest-fits : (x0 xend : Float) (o : Options) → Fit (inverse_largest_of x0 xend o)
unfolding inverse_largest_of
inverse-largest-fits x0 xend o = inverse-fits (largest_of o (xend ⊖ x0))

first-step-fits : (o : Options) → Fit o.first_step → Fit (given_step_of o)
unfolding given_step_of
first-step-fits o p = chosen Fit (eqb o.has_first_step 0) (literal _) p

pub start_fits : (x0 xend : Float) (o : Options) (l : Lengths) → Fit x0 → Fit xend → Fit o.min_step
    → Fit o.first_step → FloatsFit (started_session x0 xend o l)
unfolding accepted_settings
start_fits x0 xend o l p q m h =
    floats (started_session x0 xend o l) q (signum (xend ⊖ x0))
    (initial-fits (accepted_settings x0 xend o l) x0 (given_step_of o) (smallest_of o) (inverse_largest_of x0 xend o)
    p (first-step-fits o h) (smallest-fits o m) (inverse-largest-fits x0 xend o))
