-- start and reply on lent contents: what is answered and what every lent slice holds then, refused calls included.
-- A refusal leaves all as it was; an end leaves the question as it was (01-scope, 'Limits and refusals').
-- Contents alone: what a call costs, and what a host does between calls, is not said here.
use Rattle.std.specs.Prelude.{cond, List, ℕ, eqb, length, Float}
use Rattle.numbers.specs.Float.{zero_f}
use Rattle.refusals.specs.declared.Options.{Options}
use Rattle.refusals.specs.declared.Lengths.{Lengths}
use Rattle.refusals.specs.Refusal.{Entry}
use Rattle.refusals.specs.Start.{start_refusal_of, accepted_settings, given_step_of, smallest_of, inverse_largest_of}
use Rattle.answers.specs.Answers.{plain_reply, refusal_reply}
use Rattle.answers.specs.Called.{Buffers, Called}
use Rattle.replies.specs.Replies.{kind_of, reply_refusal_of, accepted_reply_of}
use Rattle.raimsklo.specs.Starts.{accepted_start_of}

abbrev pub unchanged : Entry → Buffers → Called
unchanged r b = record { reply = refusal_reply r; lent = b }

-- ---- start

pub record Problem : Type 0 where
  pub x0 : Float
  pub xend : Float
  pub y0 : List Float
  pub rtol : List Float
  pub atol : List Float
  pub options : Options

abbrev pub lengths_of : Problem → Buffers → Lengths
lengths_of p b = record {
  n = length p.y0;
  rtol = length p.rtol;
  atol = length p.atol;
  work = length b.work;
  pivots = length b.pivots;
  session = length b.session;
  question = length b.question;
}

unfoldable pub start_at : Problem → Buffers → Entry → Called
start_at p b r =
    cond (eqb r.number 0)
    (accepted_start_of (accepted_settings p.x0 p.xend p.options (lengths_of p b)) p.x0
    (given_step_of p.options) (smallest_of p.options) (inverse_largest_of p.x0 p.xend p.options)
    p.y0 p.rtol p.atol b)
    (unchanged r b)

-- no states: success, h 0, all counts 0, nothing written
unfoldable pub start_of : Problem → Buffers → Called
start_of p b =
    cond (eqb (length p.y0) 0)
    (record { reply = plain_reply 110 0 zero_f zero_f; lent = b })
    (start_at p b (start_refusal_of p.x0 p.xend p.options (lengths_of p b) p.rtol p.atol))

-- ---- reply

unfoldable pub reply_at : Entry → ℕ → List Float → Float → Buffers → Called
reply_at r kind numbers time b = cond (eqb r.number 0) (accepted_reply_of (kind_of kind) numbers time b) (unchanged r b)

unfoldable pub reply_of : ℕ → List Float → Float → Buffers → Called
reply_of kind numbers time b =
    reply_at (reply_refusal_of kind (length b.work) b.pivots b.session (length b.question)) kind numbers time b
