-- After the first derivative: 12, then 11, then the first report, each exactly under its condition.
--     first-derivative
--     Says, says     the same as one of three cases
-- Assumes nothing.
use mathlib.Core.Bool.{Bool, true, false, cond}
use mathlib.Core.List.{List}
use mathlib.Core.Path.{◌≡◌, refl, sym, ap, ◌∙◌, subst}
use Prim.Native.Nat.{ℕ, ◌≤◌}
use native.Mathlib.Omega.{arith}
use lib.Dec.{ltb}
use lib.ListN.{get_or}
use lib.Ieee as Ieee
use lib.Ieee.{Float, nan}
use borrow.Author.Tests.{eqb-false, ltb-true, ltb-false}
use Rattle.loops.proofs.Test.{differs}
use Rattle.numbers.specs.Float.{zero_f}
use Rattle.std.specs.Prelude.{Result, Ok, Err}
use Rattle.vectors.specs.declared.NotPositive.{NotPositive}
use Rattle.vectors.specs.Weights.{invert_of, weights_outcome}
use Rattle.vectors.proofs.Laws.{inverted as inverts, stopped}
use Rattle.common.specs.State.{put_w}
use Rattle.questions.specs.declared.Phase.TheVariants as Phase
use Rattle.questions.specs.declared.Session.{Session}
use Rattle.reports.specs.Reports.{sized_at, sized_of, weighted_at, first_derivative_of}
use Rattle.between_steps.specs.Start.{inverted}
use Rattle.machine.specs.Resume.{resume_at}
use Rattle.session.specs.Session.{decode_of}
use Rattle.answers.specs.declared.Reply.{Reply}
use Rattle.answers.specs.Answers.{plain_reply, question_reply}
use Rattle.answers.specs.Called.{Buffers}
use Rattle.replies.specs.Replies.{kind_of}
use Rattle.raimsklo.specs.Calls.{reply_of}
use Rattle.refusals.specs.Rows.{NoneHolds}
use Rattle.calls.specs.ReplyRefused.{phase_in, reply_rows}
use Rattle.calls.specs.ReplyFirst.{FirstBad, AllGood, weighed, stored_weights, stored_step, is_refused}
use Rattle.calls.specs.ReplyFirst.{FirstDerivative}
use Rattle.calls.proofs.ReplyRefused.{given_in, state_in}
use Rattle.calls.proofs.ReplyMeans.{answer_at}

-- ---- the inversion stops at the first weight that is at most 0

module _ (l : List Float) where
  abbrev Good : ℕ → Type 0
  Good j = Ieee.le (get_or l j nan) zero_f ≡ false

  -- refused at an index, or all inverted
  data Found (o : Result Unit NotPositive) : Type 0 where
    bad : (i : ℕ) → FirstBad l i → o ≡ Err (record { index = i }) → Found o
    good : AllGood l → o ≡ Ok tt → Found o

  found_at : (r : Bool) → (invert_of l).refused ≡ r
      → Found (cond r (Err (record { index = (invert_of l).index })) (Ok tt))
  found_at true e =
      let s = stopped l e in
      bad (invert_of l).index (record { here = (s.within, s.refused); before = s.done.passed }) refl
  found_at false e = good (inverts l e).passed refl

  found : Found (weights_outcome (invert_of l))
  found = found_at (invert_of l).refused refl

  -- there is one such index, and then not all are good
  bad-index : (i j : ℕ) → FirstBad l i → FirstBad l j → i ≡ j
  bad-index i j p q = by (ltb i j) refl (ltb j i) refl
    where
      clash : {A : Type 0} (k : ℕ) → Ieee.le (get_or l k nan) zero_f ≡ true → Good k → A
      clash k e f = differs (sym f ∙ e)

      by : (s : Bool) → ltb i j ≡ s → (t : Bool) → ltb j i ≡ t → i ≡ j
      by true e t f = clash i p.here.1 (q.before i (ltb-true i j e))
      by false e true f = clash j q.here.1 (p.before j (ltb-true j i f))
      by false e false f =
          let a : j ≤ i = ltb-false i j e in
          let b : i ≤ j = ltb-false j i f in
          omega arith

  not-both : (i : ℕ) → FirstBad l i → AllGood l → ⊥
  not-both i p g = differs (sym (g i p.here.0) ∙ p.here.1)

-- ---- the reply

module _ (kind : ℕ) (numbers : List Float) (time : Float) (b : Buffers) where
  abbrev x : Session
  x = decode_of b.session

  abbrev reply : Reply
  reply = (reply_of kind numbers time b).reply

  abbrev weights : List Float
  weights = stored_weights numbers b

  abbrev unfit : Bool
  unfit = is_refused numbers b

  abbrev said : Result Unit NotPositive → Reply
  said o =
      question_reply (weighted_at (given_in b) (put_w (inverted x.settings.n (weighed numbers b)) (state_in b)) o
      ).question

  -- what is answered, and why
  pub data Says : Type 0 where
    weighty : (i : ℕ) → FirstBad weights i → reply ≡ plain_reply 12 i zero_f zero_f → Says
    stepped : AllGood weights → unfit ≡ true → reply ≡ plain_reply 11 0 (stored_step numbers b) zero_f → Says
    reported : AllGood weights → unfit ≡ false → reply.number ≡ 102 → Says

  sized : (t : Bool) → unfit ≡ t → AllGood weights → reply ≡ said (Ok tt) → Says
  unfolding weighted_at sized_of sized_at
  sized true f g q = stepped g f (q ∙ rw f)
  sized false f g q = reported g f (ap (λ (a : Reply). a.number) q ∙ rw f)

  says_at : (o : Result Unit NotPositive) → reply ≡ said o → Found weights o → Says
  unfolding weighted_at
  says_at o e (bad i p q) = weighty i p (e ∙ ap said q)
  says_at o e (good g q) = sized unfit refl g (e ∙ ap said q)

  abbrev number_of : {a : Reply} → reply ≡ a → reply.number ≡ a.number
  number_of q = ap (λ (r : Reply). r.number) q

  weight-only : (i : ℕ) → reply ≡ plain_reply 12 i zero_f zero_f → Says → FirstBad weights i
  weight-only i q (weighty j p r) =
      let same : j ≡ i = sym (ap (λ (r : Reply). r.index) r) ∙ ap (λ (r : Reply). r.index) q in
      subst (FirstBad weights) same p
  weight-only i q (stepped g f r) = absurd (eqb-false 12 11 refl (sym (number_of q) ∙ number_of r))
  weight-only i q (reported g f r) = absurd (eqb-false 12 102 refl (sym (number_of q) ∙ r))

  weight-then : (i : ℕ) → FirstBad weights i → Says → reply ≡ plain_reply 12 i zero_f zero_f
  weight-then i p (weighty j q r) = r ∙ ap (λ (j : ℕ). plain_reply 12 j zero_f zero_f) (bad-index weights j i q p)
  weight-then i p (stepped g f r) = absurd (not-both weights i p g)
  weight-then i p (reported g f r) = absurd (not-both weights i p g)

  step-only : reply.number ≡ 11 → Says → AllGood weights × (unfit ≡ true)
  step-only q (weighty j p r) = absurd (eqb-false 11 12 refl (sym q ∙ number_of r))
  step-only q (stepped g f r) = (g, f)
  step-only q (reported g f r) = absurd (eqb-false 11 102 refl (sym q ∙ r))

  step_then : AllGood weights × (unfit ≡ true) → Says → reply ≡ plain_reply 11 0 (stored_step numbers b) zero_f
  step_then s (weighty j p r) = absurd (not-both weights j p s.0)
  step_then s (stepped g f r) = r
  step_then s (reported g f r) = differs (sym f ∙ s.1)

  report-only : reply.number ≡ 102 → Says → AllGood weights × (unfit ≡ false)
  report-only q (weighty j p r) = absurd (eqb-false 102 12 refl (sym q ∙ number_of r))
  report-only q (stepped g f r) = absurd (eqb-false 102 11 refl (sym q ∙ number_of r))
  report-only q (reported g f r) = (g, f)

  report-then : AllGood weights × (unfit ≡ false) → Says → reply.number ≡ 102
  report-then s (weighty j p r) = absurd (not-both weights j p s.0)
  report-then s (stepped g f r) = differs (sym s.1 ∙ f)
  report-then s (reported g f r) = r

  module _ (h : NoneHolds (reply_rows kind numbers b)) (e : phase_in b ≡ Phase.FirstDerivative) where
    reply-is : reply ≡ said (weights_outcome (invert_of weights))
    unfolding resume_at first_derivative_of
    reply-is = answer_at kind numbers time b Phase.FirstDerivative (kind_of kind) h e refl

    pub says : Says
    says = says_at (weights_outcome (invert_of weights)) reply-is (found weights)

  pub first-derivative : FirstDerivative kind numbers time b
  first-derivative = record {
    weight = λ h e i. (λ q. weight-only i q (says h e), λ p. weight-then i p (says h e));
    step = λ h e. (λ q. step-only (number_of q) (says h e), λ s. step_then s (says h e));
    report = λ h e. (λ q. report-only q (says h e), λ s. report-then s (says h e));
  }
