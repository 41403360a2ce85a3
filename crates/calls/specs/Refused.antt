-- A refused call leaves every lent slice as it was, whatever was lent, in a run or not; so does a start without states
-- (`refused-unchanged` in proofs/Refused.antt; the table of 01-scope's 'Limits and refusals'). Of 11 and 12 answered
-- to a reply it says nothing: those replies are taken.
use Rattle.std.specs.Prelude.{true, List, ◌⊎◌, ◌≡◌, ℕ, ◌≤◌, length, Float}
use Rattle.numbers.specs.Float.{zero_f}
use Rattle.answers.specs.Answers.{plain_reply}
use Rattle.answers.specs.Called.{Buffers}
use Rattle.raimsklo.specs.Calls.{Problem, start_of, reply_of}
use Rattle.calls.specs.Run.{is_refusal}

pub record RefusedUnchanged : Type 0 where
  -- an empty y0: success, h 0, all counts 0
  pub empty : (p : Problem) (b : Buffers) → length p.y0 ≡ 0
      → start_of p b ≡ record { reply = plain_reply 110 0 zero_f zero_f; lent = b }
  -- any other start wants the first derivative or is refused, by 1 to 11
  pub starts : (p : Problem) (b : Buffers) → 1 ≤ length p.y0
      → let k = (start_of p b).reply.number in (k ≡ 100) ⊎ ((1 ≤ k) × (k ≤ 11))
  pub start : (p : Problem) (b : Buffers) → (start_of p b).reply.number ≤ 11 → (start_of p b).lent ≡ b
  -- a reply that is refused, by 3, 13 or 14
  pub reply : (kind : ℕ) (numbers : List Float) (time : Float) (b : Buffers)
      → let x = reply_of kind numbers time b in is_refusal x.reply ≡ true → x.lent ≡ b
