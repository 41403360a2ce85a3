-- After the first derivative (01-scope, 'Limits and refusals'): 12 with the index of the first weight rtol·abs(y)+atol
-- that is at most 0; then 11 with the first step, given or computed, that is zero, a NaN or of another sign; else the
-- first report, 102. `first-derivative` (proofs/ReplyFirst.antt). That the session is a run's is not asked; what is
-- left is not said.
use Rattle.std.specs.Prelude.{Bool, true, false, List, ◌↔◌, ◌≡◌, ℕ, ◌<◌, length, get_or, Float}
use Rattle.std.specs.Float.Ieee as Ieee
use Rattle.std.specs.Float.{nan}
use Rattle.numbers.specs.Float.{zero_f}
use Rattle.numbers.specs.Sign.{refused}
use Rattle.vectors.specs.Weights.{ewset_of}
use Rattle.common.specs.Layout.{ewt_at, y_at, ewt}
use Rattle.history.specs.Columns.{copy_of}
use Rattle.questions.specs.declared.Phase.TheVariants as Phase
use Rattle.between_steps.specs.Start.{with_derivative, first_step_of, inverted}
use Rattle.session.specs.Session.{decode_of, rtol_of, atol_of}
use Rattle.answers.specs.Answers.{plain_reply}
use Rattle.answers.specs.Called.{Buffers}
use Rattle.raimsklo.specs.Calls.{reply_of}
use Rattle.refusals.specs.Rows.{NoneHolds}
use Rattle.calls.specs.ReplyRefused.{phase_in, reply_rows}

-- weight i is the first that is at most 0; a NaN is not
pub record FirstBad (weights : List Float) (i : ℕ) : Type 0 where
  pub here : (i < length weights) × (Ieee.le (get_or weights i nan) zero_f ≡ true)
  pub before : (j : ℕ) → j < i → Ieee.le (get_or weights j nan) zero_f ≡ false

abbrev pub AllGood : List Float → Type 0
AllGood weights = (j : ℕ) → j < length weights → Ieee.le (get_or weights j nan) zero_f ≡ false

-- the work with the derivative and the weights of the state in it
abbrev pub weighed : List Float → Buffers → List Float
weighed f b =
    let n = (decode_of b.session).settings.n in
    ewset_of (rtol_of b.session) (atol_of b.session) n (ewt_at n) (copy_of n 0 (y_at n) (with_derivative n f b.work))

abbrev pub stored_weights : List Float → Buffers → List Float
stored_weights f b = ewt (decode_of b.session).settings.n (weighed f b)

-- the first step: the given one, or computed with the weights inverted
abbrev pub stored_step : List Float → Buffers → Float
stored_step f b =
    let x = decode_of b.session in
    first_step_of x.settings x.common (rtol_of b.session) (atol_of b.session)
    (inverted x.settings.n (weighed f b))

abbrev pub is_refused : List Float → Buffers → Bool
is_refused f b = refused (stored_step f b) (decode_of b.session).settings.direction

pub record FirstDerivative (kind : ℕ) (numbers : List Float) (time : Float) (b : Buffers) : Type 0 where
  pub weight : NoneHolds (reply_rows kind numbers b) → phase_in b ≡ Phase.FirstDerivative → (i : ℕ)
      → ((reply_of kind numbers time b).reply ≡ plain_reply 12 i zero_f zero_f) ↔ FirstBad (stored_weights numbers b) i
  pub step : NoneHolds (reply_rows kind numbers b) → phase_in b ≡ Phase.FirstDerivative
      → ((reply_of kind numbers time b).reply ≡ plain_reply 11 0 (stored_step numbers b) zero_f)
      ↔ (AllGood (stored_weights numbers b) × (is_refused numbers b ≡ true))
  pub report : NoneHolds (reply_rows kind numbers b) → phase_in b ≡ Phase.FirstDerivative
      → ((reply_of kind numbers time b).reply.number ≡ 102)
      ↔ (AllGood (stored_weights numbers b) × (is_refused numbers b ≡ false))
