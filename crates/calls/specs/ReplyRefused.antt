-- What a reply is refused for, whatever is lent: the rows of 01-scope's table for a reply ('Limits and refusals'), in
-- the order in which they are looked at, each condition as a proposition; and what each phase asks for.
-- `reply-refused` (proofs/ReplyRefused.antt): the first row whose condition holds is the answer. Which rows a run
-- can meet is not said here (Follow: no 13).
use Rattle.std.specs.Prelude.{false, List, [], ◌∷◌, ◌⊎◌, ◌≢◌, ◌↔◌, ◌≡◌, ℕ, ◌*◌, ◌<◌, length, Float}
use Rattle.numbers.specs.Float.{zero_f}
use Rattle.common.specs.SessionWords.{session_length}
use Rattle.common.specs.Layout.{work_length, question_length}
use Rattle.common.specs.Limits.{max_states}
use Rattle.questions.specs.declared.Phase.{Phase}
use Rattle.session.specs.States.{phase_of}
use Rattle.session.specs.Names.{n_word, phase_word}
use Rattle.session.specs.InRange.{InRange}
use Rattle.refusals.specs.Rows.{Row, row, NoneHolds, FirstIs}
use Rattle.answers.specs.Answers.{plain_reply}
use Rattle.answers.specs.Called.{Buffers}
use Rattle.raimsklo.specs.Calls.{reply_of}
use Rattle.calls.specs.Run.{is_refusal}

-- ---- what is asked

pub data Awaited : Type 0 where
  derivative jacobian answer nothing : Awaited

-- the phases of docs/SESSION.md
abbrev pub awaits : Phase → Awaited
awaits Phase.FirstDerivative = derivative
awaits Phase.FirstReport = answer
awaits Phase.FirstModified = derivative
awaits Phase.Opened = derivative
awaits Phase.JacobianAsked = jacobian
awaits Phase.DifferenceColumn = derivative
awaits Phase.FurtherDerivative = derivative
awaits Phase.Restep = derivative
awaits Phase.Report = answer
awaits Phase.Modified = derivative
awaits Phase.Finished = nothing

-- the kind of a reply and how many numbers it has, of n states: 1 derivative, 2 Jacobian; 3 continue, 4 interrupt and
-- 5 modified answer a report
abbrev pub Asked : Awaited → ℕ → ℕ → ℕ → Type 0
Asked derivative n kind len = (kind ≡ 1) × (len ≡ n)
Asked jacobian n kind len = (kind ≡ 2) × (len ≡ n * n)
Asked answer n kind len = ((kind ≡ 3) ⊎ (kind ≡ 4) ⊎ (kind ≡ 5)) × (len ≡ n)
Asked nothing n kind len = ⊥

-- what the stored session waits for
abbrev pub phase_in : Buffers → Phase
phase_in b = phase_of (phase_word b.session)

-- ---- the rows of a reply

abbrev pub reply_rows : ℕ → List Float → Buffers → List Row
reply_rows kind numbers b =
    let n = n_word b.session in
    -- the session's length; a stored n that is no number of states; the lengths that need n
    row 3 (length b.session ≢ session_length)
    ∷ row 13 ((n ≡ 0) ⊎ (max_states < n))
    ∷ row 3 ((length b.work ≢ work_length n) ⊎ (length b.pivots ≢ n) ⊎ (length b.question ≢ question_length n))
    -- finished: the other values always pass 13
    ∷ row 14 (phase_word b.session ≡ 10)
    -- a value out of range
    ∷ row 13 (InRange b.session b.pivots → ⊥)
    -- of another kind or length than asked
    ∷ row 14 (Asked (awaits (phase_in b)) n kind (length numbers) → ⊥)
    ∷ []

-- ---- the claim, of any reply and any contents

pub record ReplyRefused (kind : ℕ) (numbers : List Float) (time : Float) (b : Buffers) : Type 0 where
  -- by this number exactly if the first row that holds has it
  pub three : ((reply_of kind numbers time b).reply.number ≡ 3) ↔ FirstIs 3 (reply_rows kind numbers b)
  pub thirteen : ((reply_of kind numbers time b).reply.number ≡ 13) ↔ FirstIs 13 (reply_rows kind numbers b)
  pub fourteen : ((reply_of kind numbers time b).reply.number ≡ 14) ↔ FirstIs 14 (reply_rows kind numbers b)
  -- the number alone is answered, and all that was lent is as it was
  pub unchanged : (k : ℕ) → FirstIs k (reply_rows kind numbers b)
      → reply_of kind numbers time b ≡ record { reply = plain_reply k 0 zero_f zero_f; lent = b }
  -- not refused exactly if no row holds
  pub taken : (is_refusal (reply_of kind numbers time b).reply ≡ false) ↔ NoneHolds (reply_rows kind numbers b)
