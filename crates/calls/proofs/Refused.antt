-- Refused calls leave all that was lent: a start by cases of its definition, a reply by its rows (`reply-refused`).
--     refused-unchanged
-- Assumes nothing.
use mathlib.Core.Bool.{Bool, true, false}
use mathlib.Core.List.{List}
use mathlib.Core.Logic.{◌⊎◌, inl, inr}
use mathlib.Core.Path.{◌≡◌, refl, ap}
use Prim.Native.Nat.{ℕ, ◌≤◌}
use native.Mathlib.Omega.{arith}
use lib.Dec.{eqb}
use lib.Ieee.{Float}
use lib.ListN.{length}
use borrow.Author.Tests.{eqb-true, eqb-false}
use Rattle.numbers.specs.Float.{zero_f}
use Rattle.refusals.specs.Rows.{FirstIs}
use Rattle.answers.specs.Answers.{plain_reply}
use Rattle.answers.specs.Called.{Buffers, Called}
use Rattle.raimsklo.specs.Starts.{accepted_start_of}
use Rattle.raimsklo.specs.Calls.{Problem, start_at, start_of, reply_of}
use Rattle.calls.specs.Run.{is_refusal}
use Rattle.calls.specs.Refused.{RefusedUnchanged}
use Rattle.calls.specs.ReplyRefused.{reply_rows, ReplyRefused}
use Rattle.calls.proofs.WellFormed.{refusal_of, at-most-11, some-start}
use Rattle.calls.proofs.ReplyRefused.{refusing, reply-refused}

-- ---- start

module _ (p : Problem) (b : Buffers) where
  pub empty-start : length p.y0 ≡ 0 → start_of p b ≡ record { reply = plain_reply 110 0 zero_f zero_f; lent = b }
  unfolding start_of
  empty-start e = rw e

  abbrev Starts : Called → Type 0
  Starts x = ((x.reply.number ≡ 100) ⊎ ((1 ≤ x.reply.number) × (x.reply.number ≤ 11)))
      × (x.reply.number ≤ 11 → x.lent ≡ b)

  starts-at : (t : Bool) → eqb (refusal_of p b).number 0 ≡ t → Starts (start_at p b (refusal_of p b))
  unfolding start_at accepted_start_of
  starts-at true e = rw e (inl refl, λ h. let z : ⊥ = omega arith in absurd z)
  starts-at false e =
      let z : (refusal_of p b).number ≡ 0 → ⊥ = eqb-false (refusal_of p b).number 0 e in
      rw e (inr (omega arith, at-most-11 p b), λ h. refl)

  some-starts : 1 ≤ length p.y0 → Starts (start_of p b)
  some-starts h = rw (some-start p b h) (starts-at (eqb (refusal_of p b).number 0) refl)

  pub starts : 1 ≤ length p.y0
      → let k = (start_of p b).reply.number in (k ≡ 100) ⊎ ((1 ≤ k) × (k ≤ 11))
  starts h = (some-starts h).0

  start-leaves : (start_of p b).reply.number ≤ 11 → (start_of p b).lent ≡ b
  start-leaves h = by (eqb (length p.y0) 0) refl
    where
      by : (t : Bool) → eqb (length p.y0) 0 ≡ t → (start_of p b).lent ≡ b
      by true e = ap (λ (x : Called). x.lent) (empty-start (eqb-true (length p.y0) 0 e))
      by false e =
          let z : length p.y0 ≡ 0 → ⊥ = eqb-false (length p.y0) 0 e in
          (some-starts (omega arith)).1 h

-- ---- reply

module _ (kind : ℕ) (numbers : List Float) (time : Float) (b : Buffers) where
  abbrev x : Called
  x = reply_of kind numbers time b

  reply-leaves : is_refusal x.reply ≡ true → x.lent ≡ b
  reply-leaves h = by (refusing x.reply.number h)
    where
      r : ReplyRefused kind numbers time b
      r = reply-refused kind numbers time b

      left : (k : ℕ) → FirstIs k (reply_rows kind numbers b) → x.lent ≡ b
      left k f = ap (λ (y : Called). y.lent) (r.unchanged k f)

      by : (x.reply.number ≡ 3) ⊎ ((x.reply.number ≡ 13) ⊎ (x.reply.number ≡ 14)) → x.lent ≡ b
      by (inl e) = left 3 (r.three.0 e)
      by (inr (inl e)) = left 13 (r.thirteen.0 e)
      by (inr (inr e)) = left 14 (r.fourteen.0 e)

pub refused-unchanged : RefusedUnchanged
refused-unchanged = record {
  empty = empty-start;
  starts = starts;
  start = start-leaves;
  reply = reply-leaves;
}
