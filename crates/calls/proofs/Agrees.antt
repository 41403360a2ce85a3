-- The question that a turn asks and the phase that waits for its reply: what of them agrees, whatever the floats.
--     Agrees                the question is the phase's
--     not-refusal, asking   such a question is answered by none of 3, 13, 14
--     status-number, status-not   the numbers of the ends
-- Assumes nothing.
use mathlib.Core.Bool.{Bool, true, false}
use mathlib.Core.Path.{◌≡◌, refl}
use Prim.Native.Nat.{ℕ, ◌≤◌, ◌<◌}
use native.Mathlib.Omega.{arith}
use lib.Dec.{eqb, lit≤, lit<}
use borrow.Author.Tests.{ne_eqb}
use Rattle.common.specs.declared.Common.{Common}
use Rattle.questions.specs.declared.Phase.{Phase}
use Rattle.questions.specs.declared.Question.{Question}
use Rattle.between_steps.specs.declared.Status.{Status}
use Rattle.session.specs.States.{phase_number}
use Rattle.answers.specs.Answers.{status_number, question_reply}
use Rattle.replies.specs.Replies.{is_unasked}
use Rattle.calls.specs.Run.{is_refusal}
use Rattle.calls.specs.ReplyRefused.{Awaited, derivative, jacobian, answer, nothing, awaits}

-- the run has ended
abbrev pub is_over : Phase → Bool
is_over phase = eqb (phase_number phase) 10

abbrev pub for_derivative : Awaited → Bool
for_derivative derivative = true
for_derivative jacobian = false
for_derivative answer = false
for_derivative nothing = false

abbrev pub Agrees : Question → Phase → Common → Type 0
Agrees (Question.Derivative a) phase c = awaits phase ≡ derivative
Agrees (Question.Jacobian a) phase c = phase ≡ Phase.JacobianAsked
Agrees (Question.FirstReport a) phase c = (phase ≡ Phase.FirstReport) × (a.time ≡ c.tn)
Agrees (Question.Report r) phase c = (phase ≡ Phase.Report) × (r.order ≡ c.nq) × (r.time ≡ c.tn)
Agrees (Question.Finished e) phase c = phase ≡ Phase.Finished
Agrees (Question.StepRefused h) phase c = phase ≡ Phase.Finished
Agrees (Question.WeightRefused i) phase c = phase ≡ Phase.Finished
Agrees Question.Unasked phase c = ⊥

-- ---- such a question is no refusal

pub status-number : (s : Status) → (110 ≤ status_number s) × (status_number s ≤ 115)
status-number Status.Success = (lit≤ tt, lit≤ tt)
status-number Status.Interrupted = (lit≤ tt, lit≤ tt)
status-number Status.NeedsMoreSteps = (lit≤ tt, lit≤ tt)
status-number Status.StepTooSmall = (lit≤ tt, lit≤ tt)
status-number Status.PoorConvergence = (lit≤ tt, lit≤ tt)
status-number Status.CoefficientGap = (lit≤ tt, lit≤ tt)

-- a status is no number below 110
pub status-not : (s : Status) (k : ℕ) → k < 110 → eqb (status_number s) k ≡ false
status-not s k h = ne_eqb (status_number s) k (λ e. omega (arith, e, h, (status-number s).0))

pub not-refusal : (v : Question) (phase : Phase) (c : Common) → Agrees v phase c → is_refusal (question_reply v) ≡ false
not-refusal (Question.Derivative a) phase c h = refl
not-refusal (Question.Jacobian a) phase c h = refl
not-refusal (Question.FirstReport a) phase c h = refl
not-refusal (Question.Report r) phase c h = refl
not-refusal (Question.Finished e) phase c h =
    let not = status-not e.status in
    rw (not 3 (lit< tt), not 13 (lit< tt), not 14 (lit< tt))
not-refusal (Question.StepRefused v) phase c h = refl
not-refusal (Question.WeightRefused i) phase c h = refl
not-refusal Question.Unasked phase c h = absurd h

pub asking : (v : Question) (phase : Phase) (c : Common) → Agrees v phase c → is_unasked v ≡ false
asking (Question.Derivative a) phase c h = refl
asking (Question.Jacobian a) phase c h = refl
asking (Question.FirstReport a) phase c h = refl
asking (Question.Report r) phase c h = refl
asking (Question.Finished e) phase c h = refl
asking (Question.StepRefused v) phase c h = refl
asking (Question.WeightRefused i) phase c h = refl
asking Question.Unasked phase c h = absurd h
