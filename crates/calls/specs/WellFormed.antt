-- A well-formed problem with what is lent for it (01-scope, 'Limits and refusals'). Those are the problems that are
-- accepted: `well-formed` in proofs/WellFormed.antt has WellFormed p b ↔ (the start returns 100). That its run
-- succeeds is not claimed.
use Rattle.std.specs.Prelude.{false, ◌⊎◌, ◌≡◌, ℕ, ◌≤◌, ◌<◌, length, get_or}
use Rattle.std.specs.Float.Ieee as Ieee
use Rattle.std.specs.Float.{nan}
use Rattle.numbers.specs.Float.{◌⊖◌, zero_f}
use Rattle.common.specs.SessionWords.{session_length}
use Rattle.common.specs.Layout.{work_length, question_length}
use Rattle.common.specs.Limits.{max_states}
use Rattle.refusals.specs.FirstStep.{StepTaken}
use Rattle.answers.specs.Called.{Buffers}
use Rattle.raimsklo.specs.Calls.{Problem}

pub record WellFormed (p : Problem) (b : Buffers) : Type 0 where
  -- 1 to 64 states
  pub states : (1 ≤ length p.y0) × (length p.y0 ≤ max_states)
  -- tolerance lists 1 or n long
  pub rtol : (length p.rtol ≡ 1) ⊎ (length p.rtol ≡ length p.y0)
  pub atol : (length p.atol ≡ 1) ⊎ (length p.atol ≡ length p.y0)
  -- n·n + 19·n numbers of work, n pivots, session_length bytes of session, 14·n + 6 numbers of question
  pub work : length b.work ≡ work_length (length p.y0)
  pub pivots : length b.pivots ≡ length p.y0
  pub session : length b.session ≡ session_length
  pub question : length b.question ≡ question_length (length p.y0)
  -- settings up to 1,000,000, four of them not 0
  pub maxsteps : (1 ≤ p.options.max_steps) × (p.options.max_steps ≤ 1000000)
  pub mxordn : (1 ≤ p.options.mxordn) × (p.options.mxordn ≤ 1000000)
  pub mxords : (1 ≤ p.options.mxords) × (p.options.mxords ≤ 1000000)
  pub maxcor : (1 ≤ p.options.maxcor) × (p.options.maxcor ≤ 1000000)
  pub msbp : p.options.msbp ≤ 1000000
  pub mxncf : p.options.mxncf ≤ 1000000
  -- a full matrix
  pub full : p.options.banded ≡ 0
  -- no tolerance below 0; a NaN is not
  pub relative : (i : ℕ) → i < length p.rtol → Ieee.lt (get_or p.rtol i nan) zero_f ≡ false
  pub absolute : (i : ℕ) → i < length p.atol → Ieee.lt (get_or p.atol i nan) zero_f ≡ false
  -- a first step that is given: not zero, no NaN, of the signum of end minus start, which has one
  pub step : (p.options.has_first_step ≡ 0) ⊎ StepTaken p.options.first_step (p.xend ⊖ p.x0)
