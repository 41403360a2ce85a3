-- What each number that a reply answers means, of any reply and any contents.
--     kinds, numbers     the literal numbers of kinds, questions and ends
--     reply-means
-- Assumes nothing.
use mathlib.Core.Bool.{Bool, true, false, cond}
use mathlib.Core.List.{List}
use mathlib.Core.Logic.{◌⊎◌, inl, inr}
use mathlib.Core.Path.{◌≡◌, refl, sym, ap, ◌∙◌, subst}
use Prim.Native.Nat.{ℕ, ◌≤◌, ◌<◌}
use lib.Dec.{eqb, lit≤}
use lib.Ieee.{Float}
use borrow.Author.Tests.{eqb-true, le-leb, lt-leb}
use Rattle.loops.proofs.Test.{differs}
use Rattle.numbers.specs.Float.{◌⊕◌, zero_f}
use Rattle.common.specs.declared.Settings.{Settings}
use Rattle.common.specs.declared.Common.{Common}
use Rattle.common.specs.Record.{with_tn}
use Rattle.common.specs.State.{state}
use Rattle.between_steps.specs.declared.Answer.TheVariants.{Continue, Interrupt, Modified}
use Rattle.between_steps.specs.declared.Kind.{Kind}
use Rattle.questions.specs.declared.Phase.{Phase}
use Rattle.questions.specs.declared.Question.{Question}
use Rattle.questions.specs.declared.Session.{Session}
use Rattle.between_steps.specs.declared.Status.{Status}
use Rattle.questions.specs.declared.Turn.{Turn}
use Rattle.questions.specs.Turns.{turn_in, asked_of, asked_in_step_of, finished_of}
use Rattle.questions.specs.Begin.{open_pass_of, began_of, go_on_at, go_on_of}
use Rattle.between_steps.specs.Begin.{is_going}
use Rattle.reports.specs.Reports.{after_first_report_of, after_report_of}
use Rattle.machine.specs.Resume.{resume_at, resume_of}
use Rattle.session.specs.Session.{decode_of, encode_of}
use Rattle.answers.specs.declared.Reply.{Reply}
use Rattle.answers.specs.Answers.{plain_reply, status_number, question_reply}
use Rattle.answers.specs.Called.{Buffers, Called}
use Rattle.replies.specs.Replies.{kind_of, turn_written_of, turned, accepted_reply_of}
use Rattle.raimsklo.specs.Calls.{reply_of}
use Rattle.calls.specs.Run.{is_refusal}
use Rattle.refusals.specs.Rows.{Row, NoneHolds}
use Rattle.calls.specs.ReplyRefused.{phase_in, reply_rows}
use Rattle.calls.specs.ReplyMeans.{Kinds, Numbers, Listed, ended_by, AtReport, HeldAtEnd, Meant, ReplyMeans}
use Rattle.calls.proofs.Agrees.{status-number, asking}
use Rattle.calls.proofs.Turns.{resume-means}
use Rattle.calls.proofs.ReplyRefused.{is_refusing, given_in, state_in, stored-phase, gone, is-now, agreed, went}
use Rattle.calls.proofs.ReplyRefused.{refusing, reply-refused}

pub kinds : Kinds
unfolding kind_of
kinds = record { derivative = refl; jacobian = refl; continues = refl; interrupts = refl; modifies = refl }

pub numbers : Numbers
numbers = record {
  derivative = λ a. refl;
  jacobian = λ a. refl;
  first = λ a. refl;
  report = λ r. refl;
  success = λ c. refl;
  interrupted = λ c. refl;
  more = λ c. refl;
  small = λ c. refl;
  poor = λ c. refl;
  gap = λ c. refl;
  step = λ h. refl;
  weight = λ i. refl;
}

-- ---- of a question

module _ (s : Settings) (before : Phase) (kind : Kind) where
  question-listed : (q : Question) (after : Phase) (c : Common) → Meant s before kind q after c
      → Listed (question_reply q).number
  question-listed (Question.Derivative a) after c m = inr (inr (inl (lit≤ tt, lit≤ tt)))
  question-listed (Question.Jacobian a) after c m = inr (inr (inl (lit≤ tt, lit≤ tt)))
  question-listed (Question.FirstReport a) after c m = inr (inr (inl (lit≤ tt, lit≤ tt)))
  question-listed (Question.Report r) after c m = inr (inr (inl (lit≤ tt, lit≤ tt)))
  question-listed (Question.Finished e) after c m = inr (inr (inr (status-number e.status)))
  question-listed (Question.StepRefused h) after c m = inr (inl (lit≤ tt, lit≤ tt))
  question-listed (Question.WeightRefused i) after c m = inr (inl (lit≤ tt, lit≤ tt))
  question-listed Question.Unasked after c m = absurd m

  -- 111 is an interrupt at a report
  only-interrupt : (q : Question) (after : Phase) (c : Common) → Meant s before kind q after c
      → eqb (question_reply q).number 111 ≡ true → AtReport before × (kind ≡ Kind.Report Interrupt)
  only-interrupt (Question.Derivative a) after c m e = differs e
  only-interrupt (Question.Jacobian a) after c m e = differs e
  only-interrupt (Question.FirstReport a) after c m e = differs e
  only-interrupt (Question.Report r) after c m e = differs e
  only-interrupt (Question.Finished e) after c m i = by e.status m.2 i
    where
      by : (status : Status) → HeldAtEnd s before kind status c → eqb (status_number status) 111 ≡ true
          → AtReport before × (kind ≡ Kind.Report Interrupt)
      by Status.Success h i = differs i
      by Status.Interrupted h i = h
      by Status.NeedsMoreSteps h i = differs i
      by Status.StepTooSmall h i = differs i
      by Status.PoorConvergence h i = differs i
      by Status.CoefficientGap h i = differs i
  only-interrupt (Question.StepRefused h) after c m e = differs e
  only-interrupt (Question.WeightRefused i) after c m e = differs e
  only-interrupt Question.Unasked after c m e = absurd m

-- ---- of a kind

abbrev is_interrupt : Kind → Bool
is_interrupt Kind.Derivative = false
is_interrupt Kind.Jacobian = false
is_interrupt (Kind.Report Continue) = false
is_interrupt (Kind.Report Interrupt) = true
is_interrupt (Kind.Report Modified) = false

kind-four : (k : ℕ) → kind_of k ≡ Kind.Report Interrupt → k ≡ 4
unfolding kind_of
kind-four k e = eqb-true k 4 (by (eqb k 1) (eqb k 2) (eqb k 3) (eqb k 4) (ap is_interrupt e))
  where
    by : (p q r t : Bool)
        → is_interrupt (cond p Kind.Derivative (cond q Kind.Jacobian (cond r (Kind.Report Continue)
        (cond t (Kind.Report Interrupt) (Kind.Report Modified))))) ≡ true → t ≡ true
    by true q r t i = differs i
    by false true r t i = differs i
    by false false true t i = differs i
    by false false false true i = refl
    by false false false false i = differs i

-- ---- on continue

module _ (s : Settings) (c : Common) (work : List Float) (pivots : List ℕ) where
  abbrev next : Reply
  next = question_reply (go_on_of s (state c work pivots)).question

  on-done : is_going s c ≡ false → next ≡ ended_by 110 c
  unfolding go_on_of go_on_at finished_of
  on-done e = rw e

  on-more : is_going s c ≡ true → s.maxsteps ≤ c.nst → next ≡ ended_by 112 c
  unfolding go_on_of go_on_at finished_of
  on-more e h = rw (e, le-leb s.maxsteps c.nst h)

  on_step : is_going s c ≡ true → c.nst < s.maxsteps → next.number ≡ 100
  unfolding go_on_of go_on_at began_of open_pass_of asked_in_step_of
  on_step e h = rw (e, lt-leb s.maxsteps c.nst h)

-- ---- the calls

module _ (kind : ℕ) (numbers : List Float) (time : Float) (b : Buffers) where
  abbrev x : Session
  x = decode_of b.session

  abbrev rows : List Row
  rows = reply_rows kind numbers b

  abbrev reply : Called
  reply = reply_of kind numbers time b

  abbrev turn : Turn
  turn = turn_in (turned (kind_of kind) numbers time b)

  meant : NoneHolds rows → Meant x.settings (phase_in b) (kind_of kind) turn.question turn.phase turn.common
  meant h =
      subst (λ (p : Phase). Meant x.settings p (kind_of kind) turn.question turn.phase turn.common)
      (stored-phase b.session)
      (resume-means (given_in b) x.phase (state_in b) (kind_of kind) numbers time (is-now kind numbers time b h))

  kept : NoneHolds rows
      → reply.lent.session
      ≡ encode_of (record { settings = x.settings; common = turn.common; phase = turn.phase }) b.session
  unfolding accepted_reply_of turn_written_of
  kept h =
      ap (λ (c : Called). c.lent.session) (gone kind numbers time b h)
      ∙ rw (asking turn.question turn.phase turn.common (agreed kind numbers time b h))

  listed_at : (r : Bool) → is_refusal reply.reply ≡ r → Listed reply.reply.number
  listed_at true e = by (refusing reply.reply.number e)
    where
      by : (reply.reply.number ≡ 3) ⊎ ((reply.reply.number ≡ 13) ⊎ (reply.reply.number ≡ 14))
          → Listed reply.reply.number
      by (inl i) = inl i
      by (inr (inl i)) = subst Listed (sym i) (inr (inl (lit≤ tt, lit≤ tt)))
      by (inr (inr i)) = subst Listed (sym i) (inr (inl (lit≤ tt, lit≤ tt)))
  listed_at false e =
      let h = (reply-refused kind numbers time b).taken.0 e in
      subst (λ (a : Reply). Listed a.number) (sym (went kind numbers time b h))
      (question-listed x.settings (phase_in b) (kind_of kind) turn.question turn.phase turn.common (meant h))

  -- the answer, of a phase and a kind that are known
  pub answer_at : (p : Phase) (k : Kind) → NoneHolds rows → phase_in b ≡ p → kind_of kind ≡ k
      → reply.reply ≡ question_reply (resume_at (given_in b) p (state_in b) k numbers time).question
  unfolding resume_of
  answer_at p k h e f =
      went kind numbers time b h
      ∙ rw (is-now kind numbers time b h)
      (ap (λ (q : Phase). question_reply (resume_at (given_in b) q (state_in b) (kind_of kind) numbers time).question)
      (stored-phase b.session ∙ e)
      ∙ ap (λ (j : Kind). question_reply (resume_at (given_in b) p (state_in b) j numbers time).question) f)

  kind-is : (k : ℕ) → kind ≡ k → kind_of kind ≡ kind_of k
  kind-is k e = ap kind_of e

  interruption : NoneHolds rows → AtReport (phase_in b) → kind ≡ 4 → reply.reply ≡ ended_by 111 x.common
  unfolding resume_at after_first_report_of after_report_of finished_of
  interruption h (inl e) f = answer_at Phase.FirstReport (Kind.Report Interrupt) h e (kind-is 4 f ∙ kinds.interrupts)
  interruption h (inr e) f = answer_at Phase.Report (Kind.Report Interrupt) h e (kind-is 4 f ∙ kinds.interrupts)

  only_then : reply.reply.number ≡ 111 → NoneHolds rows × AtReport (phase_in b) × (kind ≡ 4)
  only_then e =
      let h = (reply-refused kind numbers time b).taken.0 (ap is_refusing e) in
      let o = only-interrupt x.settings (phase_in b) (kind_of kind) turn.question turn.phase turn.common
      (meant h) (ap (λ (a : Reply). eqb a.number 111) (sym (went kind numbers time b h)) ∙ rw e) in
      (h, o.0, kind-four kind o.1)

  first_modified_run : NoneHolds rows → phase_in b ≡ Phase.FirstReport → kind ≡ 5
      → reply.reply ≡ plain_reply 100 0 zero_f time
  unfolding resume_at after_first_report_of asked_of
  first_modified_run h e f = answer_at Phase.FirstReport (Kind.Report Modified) h e (kind-is 5 f ∙ kinds.modifies)

  modified : NoneHolds rows → phase_in b ≡ Phase.Report → kind ≡ 5
      → reply.reply ≡ plain_reply 100 0 zero_f (x.common.told ⊕ x.common.hu)
  unfolding resume_at after_report_of asked_of
  modified h e f = answer_at Phase.Report (Kind.Report Modified) h e (kind-is 5 f ∙ kinds.modifies)

  abbrev given : Common
  given = with_tn time x.common

  -- continue goes on, from one work or another
  continued : NoneHolds rows → AtReport (phase_in b) → kind ≡ 3
      → (work : List Float) × (reply.reply ≡ next x.settings given work b.pivots)
  unfolding resume_at after_first_report_of after_report_of
  continued h (inl e) f =
      (_, answer_at Phase.FirstReport (Kind.Report Continue) h e (kind-is 3 f ∙ kinds.continues))
  continued h (inr e) f = (_, answer_at Phase.Report (Kind.Report Continue) h e (kind-is 3 f ∙ kinds.continues))

  pub reply-means : ReplyMeans kind numbers time b
  reply-means = record {
    listed = listed_at (is_refusal reply.reply) refl;
    answered = went kind numbers time b;
    kept = kept;
    meant = meant;
    interrupted = (only_then, λ h. ap (λ (a : Reply). a.number) (interruption h.0 h.1 h.2));
    interruption = interruption;
    first_modified_run = first_modified_run;
    modified = modified;
    done = λ h p f e. let c = continued h p f in c.1 ∙ on-done x.settings given c.0 b.pivots e;
    more = λ h p f e l. let c = continued h p f in c.1 ∙ on-more x.settings given c.0 b.pivots e l;
    goes_on = λ h p f e l.
        let c = continued h p f in
        ap (λ (a : Reply). a.number) c.1 ∙ on_step x.settings given c.0 b.pivots e l;
  }
