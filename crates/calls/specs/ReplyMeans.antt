-- What each number that a reply answers means, whatever is lent (01-scope, 'What the host sees', 'Limits and refusals',
-- 'A step'); 3, 13 and 14 are the rows of ReplyRefused. `reply-means`, `kinds` and `numbers` in
-- proofs/ReplyMeans.antt, `gap` in proofs/ReplyGap.antt.
-- A reply that is taken is answered by the machine's turn, which is what the session then keeps. That the
-- contents are a run's is neither asked nor claimed.
use Rattle.std.specs.Prelude.{true, false, List, ◌⊎◌, ◌↔◌, ◌≡◌, ℕ, ◌+◌, ◌-◌, ◌≤◌, ◌<◌, Float}
use Rattle.numbers.specs.Float.{◌⊕◌, zero_f}
use Rattle.numbers.specs.Sign.{refused}
use Rattle.common.specs.declared.MethodFamily.TheVariants.{Bdf}
use Rattle.common.specs.declared.Settings.{Settings}
use Rattle.common.specs.declared.Common.{Common}
use Rattle.common.specs.Limits.{mxncf_of}
use Rattle.common.specs.Record.{with_tn}
use Rattle.common.specs.Rules.{tiny_of}
use Rattle.common.specs.State.{given, state}
use Rattle.acceptance.specs.declared.Branch.TheVariants.{CoefficientGap}
use Rattle.acceptance.specs.Accept.{accept_of}
use Rattle.questions.specs.declared.At.{At}
use Rattle.between_steps.specs.declared.Answer.TheVariants as Answer
use Rattle.questions.specs.declared.End.{End}
use Rattle.between_steps.specs.declared.Kind.{Kind}
use Rattle.questions.specs.declared.Phase.{Phase}
use Rattle.questions.specs.declared.Question.{Question}
use Rattle.between_steps.specs.declared.Status.{Status}
use Rattle.questions.specs.declared.Step.{Step}
use Rattle.questions.specs.Turns.{turn_in}
use Rattle.between_steps.specs.Begin.{is_going}
use Rattle.passes.specs.Pass.{accepted_of}
use Rattle.jacobian.specs.Jacobian.{is_supplied}
use Rattle.session.specs.Session.{decode_of, encode_of}
use Rattle.refusals.specs.Rows.{NoneHolds}
use Rattle.answers.specs.declared.Reply.{Reply}
use Rattle.answers.specs.Answers.{plain_reply, question_reply}
use Rattle.answers.specs.Called.{Buffers}
use Rattle.replies.specs.Replies.{kind_of, turned}
use Rattle.raimsklo.specs.Calls.{reply_of}
use Rattle.calls.specs.ReplyRefused.{derivative, jacobian, nothing, awaits, phase_in, reply_rows}

-- ---- the numbers

-- 3, 11 to 14, 100 to 103, 110 to 115
abbrev pub Listed : ℕ → Type 0
Listed k = (k ≡ 3) ⊎ ((11 ≤ k) × (k ≤ 14)) ⊎ ((100 ≤ k) × (k ≤ 103)) ⊎ ((110 ≤ k) × (k ≤ 115))

-- of the kinds of reply
pub record Kinds : Type 0 where
  pub derivative : kind_of 1 ≡ Kind.Derivative
  pub jacobian : kind_of 2 ≡ Kind.Jacobian
  pub continues : kind_of 3 ≡ Kind.Report Answer.Continue
  pub interrupts : kind_of 4 ≡ Kind.Report Answer.Interrupt
  pub modifies : kind_of 5 ≡ Kind.Report Answer.Modified

-- what an end returns of a record: h, evaluations and steps
abbrev pub ended_by : ℕ → Common → Reply
ended_by number c = record {
  number = number;
  index = 0;
  value = zero_f;
  time = zero_f;
  previous = zero_f;
  count = 0;
  order = 0;
  h = c.h;
  nfe = c.nfe;
  nje = c.nje;
  nlu = c.nlu;
  total = c.total;
  accepted = c.nst;
  rejected = c.rejected;
}

abbrev pub end_from : Status → Common → End
end_from status c = record {
  h = c.h;
  status = status;
  nfe = c.nfe;
  nje = c.nje;
  nlu = c.nlu;
  total = c.total;
  accepted = c.nst;
  rejected = c.rejected;
}

-- of the questions and the ends
pub record Numbers : Type 0 where
  pub derivative : (a : At) → question_reply (Question.Derivative a) ≡ plain_reply 100 0 zero_f a.time
  pub jacobian : (a : At) → question_reply (Question.Jacobian a) ≡ plain_reply 101 0 zero_f a.time
  pub first : (a : At) → (question_reply (Question.FirstReport a)).number ≡ 102
  pub report : (r : Step) → (question_reply (Question.Report r)).number ≡ 103
  pub success : (c : Common) → question_reply (Question.Finished (end_from Status.Success c)) ≡ ended_by 110 c
  pub interrupted : (c : Common) → question_reply (Question.Finished (end_from Status.Interrupted c)) ≡ ended_by 111 c
  pub more : (c : Common) → question_reply (Question.Finished (end_from Status.NeedsMoreSteps c)) ≡ ended_by 112 c
  pub small : (c : Common) → question_reply (Question.Finished (end_from Status.StepTooSmall c)) ≡ ended_by 113 c
  pub poor : (c : Common) → question_reply (Question.Finished (end_from Status.PoorConvergence c)) ≡ ended_by 114 c
  pub gap : (c : Common) → question_reply (Question.Finished (end_from Status.CoefficientGap c)) ≡ ended_by 115 c
  pub step : (h : Float) → question_reply (Question.StepRefused h) ≡ plain_reply 11 0 h zero_f
  pub weight : (i : ℕ) → question_reply (Question.WeightRefused i) ≡ plain_reply 12 i zero_f zero_f

-- ---- what held

-- the host's report is waited for: the first, or a step's
abbrev pub AtReport : Phase → Type 0
AtReport p = (p ≡ Phase.FirstReport) ⊎ (p ≡ Phase.Report)

-- c is the record at the end, `before` and `kind` the phase that waited and what the reply was
--     success: (xend − time)·direction is not above 0; needs more steps: it is, and max_steps are accepted
--     too small: |h| ≤ hmin·1.00001, or the tenth error failure; poor: |h| ≤ hmin·1.00001, or the mxncf-th failure
--     coefficient gap: family 2, order 6 or more, icount below 0 (1,000,000 is added to it)
abbrev pub HeldAtEnd : Settings → Phase → Kind → Status → Common → Type 0
HeldAtEnd s before kind Status.Success c = is_going s c ≡ false
HeldAtEnd s before kind Status.Interrupted c = AtReport before × (kind ≡ Kind.Report Answer.Interrupt)
HeldAtEnd s before kind Status.NeedsMoreSteps c = (is_going s c ≡ true) × (s.maxsteps ≤ c.nst)
HeldAtEnd s before kind Status.StepTooSmall c = (tiny_of c ≡ true) ⊎ (c.kflag ≡ 10)
HeldAtEnd s before kind Status.PoorConvergence c = (tiny_of c ≡ true) ⊎ (c.ncf ≡ mxncf_of s)
HeldAtEnd s before kind Status.CoefficientGap c = (c.meth ≡ Bdf) × (6 ≤ c.nq) × (c.icount < 1000000)

-- the question, the phase that waits for its reply, and the record then
abbrev pub Meant : Settings → Phase → Kind → Question → Phase → Common → Type 0
Meant s before kind (Question.Derivative a) after c = (awaits after ≡ derivative) × (a.time ≡ c.tn)
Meant s before kind (Question.Jacobian a) after c =
    (awaits after ≡ jacobian) × (a.time ≡ c.tn) × (is_supplied s c ≡ true)
Meant s before kind (Question.FirstReport a) after c =
    (before ≡ Phase.FirstDerivative) × (after ≡ Phase.FirstReport) × (a.time ≡ c.tn)
Meant s before kind (Question.Report r) after c =
    (after ≡ Phase.Report) × (r ≡ record { previous = c.told; time = c.tn; count = c.count; order = c.nq })
Meant s before kind (Question.Finished e) after c =
    (awaits after ≡ nothing) × (e ≡ end_from e.status c) × HeldAtEnd s before kind e.status c
Meant s before kind (Question.StepRefused h) after c =
    (awaits after ≡ nothing) × (before ≡ Phase.FirstDerivative) × (refused h s.direction ≡ true)
Meant s before kind (Question.WeightRefused i) after c = awaits after ≡ nothing
Meant s before kind Question.Unasked after c = ⊥

-- ---- the claims, of any reply and any contents

pub record ReplyMeans (kind : ℕ) (numbers : List Float) (time : Float) (b : Buffers) : Type 0 where
  pub listed : Listed (reply_of kind numbers time b).reply.number
  -- taken: the machine's turn is answered and kept
  pub answered : NoneHolds (reply_rows kind numbers b)
      → (reply_of kind numbers time b).reply ≡ question_reply (turned (kind_of kind) numbers time b).question
  pub kept : NoneHolds (reply_rows kind numbers b)
      → let t = turn_in (turned (kind_of kind) numbers time b) in
      let s = (decode_of b.session).settings in
      (reply_of kind numbers time b).lent.session
      ≡ encode_of (record { settings = s; common = t.common; phase = t.phase }) b.session
  pub meant : NoneHolds (reply_rows kind numbers b)
      → let t = turn_in (turned (kind_of kind) numbers time b) in
      Meant (decode_of b.session).settings (phase_in b) (kind_of kind) t.question t.phase t.common
  -- 111 exactly if an interrupt (4) is taken at a report; the session's h and counts are returned
  pub interrupted : ((reply_of kind numbers time b).reply.number ≡ 111)
      ↔ (NoneHolds (reply_rows kind numbers b) × AtReport (phase_in b) × (kind ≡ 4))
  pub interruption : NoneHolds (reply_rows kind numbers b) → AtReport (phase_in b) → kind ≡ 4
      → (reply_of kind numbers time b).reply ≡ ended_by 111 (decode_of b.session).common
  -- modified (5): a derivative is wanted, at the time given at the first report, and after a step at the time before it
  -- plus hu
  pub first_modified_run : NoneHolds (reply_rows kind numbers b) → phase_in b ≡ Phase.FirstReport → kind ≡ 5
      → (reply_of kind numbers time b).reply ≡ plain_reply 100 0 zero_f time
  pub modified : NoneHolds (reply_rows kind numbers b) → phase_in b ≡ Phase.Report → kind ≡ 5
      → let c = (decode_of b.session).common in
      (reply_of kind numbers time b).reply ≡ plain_reply 100 0 zero_f (c.told ⊕ c.hu)
  -- continue (3): success where the interval is done at the time given, needs more steps where max_steps are accepted,
  -- else a step's first derivative is wanted
  pub done : NoneHolds (reply_rows kind numbers b) → AtReport (phase_in b) → kind ≡ 3
      → let x = decode_of b.session in
      is_going x.settings (with_tn time x.common) ≡ false
      → (reply_of kind numbers time b).reply ≡ ended_by 110 x.common
  pub more : NoneHolds (reply_rows kind numbers b) → AtReport (phase_in b) → kind ≡ 3
      → let x = decode_of b.session in
      is_going x.settings (with_tn time x.common) ≡ true → x.settings.maxsteps ≤ x.common.nst
      → (reply_of kind numbers time b).reply ≡ ended_by 112 x.common
  pub goes_on : NoneHolds (reply_rows kind numbers b) → AtReport (phase_in b) → kind ≡ 3
      → let x = decode_of b.session in
      is_going x.settings (with_tn time x.common) ≡ true → x.common.nst < x.settings.maxsteps
      → (reply_of kind numbers time b).reply.number ≡ 100

-- the coefficient gap, where a step is accepted: exactly in family 2 at order 6 or more with icount, which the step
-- lowers by 1, below 0; the accepted count is raised, the total as before, and there is no report
pub record GapExactly (s : Settings) (c : Common) (dsm : Float) (work : List Float) : Type 0 where
  pub exactly : ((accept_of s c dsm work).branch ≡ CoefficientGap)
      ↔ ((c.meth ≡ Bdf) × (6 ≤ c.nq) × (c.icount - 1 < 1000000))
  pub ends : (rtol atol : List Float) (pivots : List ℕ) → (accept_of s c dsm work).branch ≡ CoefficientGap
      → (accepted_of (given s rtol atol) (state c work pivots) dsm).question
      ≡ Question.Finished (record {
        h = c.h;
        status = Status.CoefficientGap;
        nfe = c.nfe;
        nje = c.nje;
        nlu = c.nlu;
        total = c.total;
        accepted = c.nst + 1;
        rejected = c.rejected;
      })
