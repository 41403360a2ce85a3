-- A reply: what it is refused for, and what an accepted one answers and leaves. An end leaves the question as it was
-- (01-scope, 'Limits and refusals').
use Rattle.std.specs.Prelude.{Bool, true, false, cond, not, ◌&&◌, List, [], ◌∷◌, ◌≡◌, ℕ, ◌≤◌, eqb, ltb, leb, length}
use Rattle.std.specs.Prelude.{Float, Option, Some, None}
use Rattle.loops.specs.Part.{part, put_part}
use Rattle.common.specs.declared.Settings.{Settings}
use Rattle.common.specs.declared.Common.{Common}
use Rattle.common.specs.Layout.{y_at, yfd_at, work_length, question_length}
use Rattle.common.specs.Limits.{max_states}
use Rattle.common.specs.SessionWords.{session_length}
use Rattle.common.specs.State.{given, state}
use Rattle.interpolation.specs.Snapshot.{snapshot_of}
use Rattle.between_steps.specs.declared.Answer.TheVariants as Answer
use Rattle.between_steps.specs.declared.Kind.{Kind}
use Rattle.questions.specs.declared.Phase.{Phase}
use Rattle.questions.specs.declared.Question.{Question}
use Rattle.questions.specs.declared.Turn.{Turn}
use Rattle.questions.specs.Turns.{RunState, turn_in}
use Rattle.machine.specs.Resume.{resume_of}
use Rattle.session.specs.Session.{encode_of, decode_of, rtol_of, atol_of, stored_n, finished_in, in_range_of}
use Rattle.refusals.specs.Refusal.{Entry, none, plain, when, in_order, or_else}
use Rattle.answers.specs.declared.Reply.{Reply}
use Rattle.answers.specs.Answers.{question_reply}
use Rattle.answers.specs.Called.{Buffers, Called}

-- 1 derivative, 2 Jacobian, 3 continue, 4 interrupt, 5 modified
abbrev pub is_kind : ℕ → Bool
is_kind k = not (eqb k 0) && leb k 5

unfoldable pub kind_of : ℕ → Kind
kind_of k =
    cond (eqb k 1) Kind.Derivative
    (cond (eqb k 2) Kind.Jacobian
    (cond (eqb k 3) (Kind.Report Answer.Continue)
    (cond (eqb k 4) (Kind.Report Answer.Interrupt) (Kind.Report Answer.Modified))))

abbrev pub kind_in : ℕ → Option Kind
kind_in k = cond (is_kind k) (Some (kind_of k)) None

unfoldable pub lengths_refusal : ℕ → ℕ → ℕ → ℕ → Entry
unfolding in_order
lengths_refusal n work pivots question = in_order none (
    when (not (eqb work (work_length n))) 3
    ∷ when (not (eqb pivots n)) 3
    ∷ when (not (eqb question (question_length n))) 3
    ∷ [])

-- 14: finished; 13: a value out of its range; 14: no kind
unfoldable pub stored_refusal : Bool → List ℕ → List ℕ → Entry
unfolding in_order
stored_refusal known pivots bytes = in_order none (
    when (finished_in bytes) 14
    ∷ when (not (in_range_of bytes pivots)) 13
    ∷ when (not known) 14
    ∷ [])

-- 3: session length; 13: stored n; 3: the lengths that need n; then the rest of 13, and 14
unfoldable pub reply_refusal_of : ℕ → ℕ → List ℕ → List ℕ → ℕ → Entry
reply_refusal_of kind work pivots bytes question =
    cond (not (eqb (length bytes) session_length)) (plain 3)
    (cond (eqb (stored_n bytes) 0) (plain 13)
    (cond (ltb max_states (stored_n bytes)) (plain 13)
    (or_else (lengths_refusal (stored_n bytes) work (length pivots) question)
    (stored_refusal (is_kind kind) pivots bytes))))

-- the n numbers at `at` of the work, first in the question
abbrev pub shown_of : ℕ → ℕ → List Float → List Float → List Float
shown_of n at work q = put_part 0 n q (part at n work)

abbrev pub with_y : Settings → List Float → List Float → List Float
with_y s work q = shown_of s.n (y_at s.n) work q

-- y is first in the question, in a difference column the perturbed y; a report's snapshot stands from n on
unfoldable pub question_of : Settings → Phase → Common → List Float → List Float → List Float
question_of s Phase.FirstDerivative c work q = with_y s work q
question_of s Phase.FirstReport c work q = with_y s work q
question_of s Phase.FirstModified c work q = with_y s work q
question_of s Phase.Opened c work q = with_y s work q
question_of s Phase.JacobianAsked c work q = with_y s work q
question_of s Phase.DifferenceColumn c work q = shown_of s.n (yfd_at s.n) work q
question_of s Phase.FurtherDerivative c work q = with_y s work q
question_of s Phase.Restep c work q = with_y s work q
question_of s Phase.Report c work q = snapshot_of s c work (with_y s work q)
question_of s Phase.Modified c work q = with_y s work q
question_of s Phase.Finished c work q = q

abbrev pub is_unasked : Question → Bool
is_unasked (Question.Derivative a) = false
is_unasked (Question.Jacobian a) = false
is_unasked (Question.FirstReport a) = false
is_unasked (Question.Report s) = false
is_unasked (Question.Finished e) = false
is_unasked (Question.StepRefused h) = false
is_unasked (Question.WeightRefused i) = false
is_unasked Question.Unasked = true

-- the lengths of what is lent for n states
pub record Sized (n : ℕ) (work : List Float) (pivots : List ℕ) (question : List Float) : Type 0 where
  pub states : (1 ≤ n) × (n ≤ max_states)
  pub sized : length work ≡ work_length n
  pub pivoted : length pivots ≡ n
  pub asked : length question ≡ question_length n

-- what a turn leaves of session and question
pub record TurnWritten : Type 0 where
  pub reply : Reply
  pub session : List ℕ
  pub question : List Float

unfoldable pub turn_written_of : Settings → Turn → List Float → List ℕ → List Float → TurnWritten
turn_written_of s t work bytes q =
    cond (is_unasked t.question)
    (record { reply = question_reply t.question; session = bytes; question = q })
    (record {
      reply = question_reply t.question;
      session = encode_of (record { settings = s; common = t.common; phase = t.phase }) bytes;
      question = question_of s t.phase t.common work q;
    })

abbrev pub turned : Kind → List Float → Float → Buffers → RunState
turned kind numbers time b =
    let x = decode_of b.session in
    resume_of (given x.settings (rtol_of b.session) (atol_of b.session)) x.phase
    (state x.common b.work b.pivots) kind numbers time

abbrev pub written : Settings → RunState → Buffers → Called
written s l b =
    let x = turn_written_of s (turn_in l) l.st.w b.session b.question in
    record {
      reply = x.reply;
      lent = record { work = l.st.w; pivots = l.st.p; session = x.session; question = x.question };
    }

unfoldable pub accepted_reply_of : Kind → List Float → Float → Buffers → Called
accepted_reply_of kind numbers time b = written (decode_of b.session).settings (turned kind numbers time b) b
