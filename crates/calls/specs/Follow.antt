-- Demand 2 for the calls: what the calls of a run answer and leave in the question is what the tree of the step rules
-- says, fed the start's arguments and the replies not refused, bit for bit (`calls-follow` in proofs/Follow.antt).
-- What is left in work, pivots and session is the tree's too. No call of a run returns 13; a refused reply returns 3 or
-- 14 and changes nothing. That the tree is the Rust's is believed, not claimed (docs/PROOFS.md).
use Rattle.std.specs.Prelude.{Bool, true, false, cond, not, ◌&&◌, List, [], ◌∷◌, ◌++◌, map, ◌⊎◌, ◌≡◌, ℕ, ◌-◌, eqb}
use Rattle.std.specs.Prelude.{length, replicate, Float}
use Rattle.loops.specs.Part.{put_part}
use Rattle.numbers.specs.Float.{zero_f}
use Rattle.common.specs.SessionWords.{session_length}
use Rattle.common.specs.Limits.{max_states}
use Rattle.between_steps.specs.declared.Kind.TheVariants as Kind
use Rattle.questions.specs.declared.Phase.{Phase}
use Rattle.machine.specs.Resume.{is_asked}
use Rattle.refusals.specs.Start.{accepted_settings, given_step_of, smallest_of, inverse_largest_of}
use Rattle.invariants.specs.Host.{IsF64}
use Rattle.session.specs.Session.{decode_of, rtol_slots, atol_slots}
use Rattle.rules.specs.Play.{derivative_at, jacobian_at, Report, Play, ret, ask, tell, say}
use Rattle.common.specs.State.{Given}
use Rattle.common.specs.Layout.{question_length}
use Rattle.rules.specs.Rules.{Start, start}
use Rattle.rules.specs.Replies.{Reply as Fed}
use Rattle.refinement.specs.Shown.{Shown, wants_derivative, wants_jacobian, reports, ends, refuses_step, refuses_weight}
use Rattle.refinement.specs.Shown.{refuses, stuck, wanted_at, shown_at, asks, tree_next, step_if, keep_if}
use Rattle.refinement.specs.Follows.{state_at}
use Rattle.answers.specs.declared.Reply.{Reply}
use Rattle.answers.specs.Answers.{plain_reply, end_reply}
use Rattle.answers.specs.Called.{Buffers, Called}
use Rattle.replies.specs.Replies.{is_kind, kind_of}
use Rattle.raimsklo.specs.Calls.{Problem, lengths_of, start_of}
use Rattle.calls.specs.Run.{ReplyCall, TimesF64, Solver, lent_for, calls_by, last_by, ours, replied, last_of}
use Rattle.calls.specs.Run.{is_refusal, taken_replies}

-- ---- the tree of a run, from the start's arguments

abbrev pub given_of : Problem → Buffers → Given
given_of p b = record {
  s = accepted_settings p.x0 p.xend p.options (lengths_of p b);
  rtol = p.rtol;
  atol = p.atol;
}

abbrev pub from_of : Problem → Start
from_of p = record {
  x0 = p.x0;
  h = given_step_of p.options;
  hmin = smallest_of p.options;
  hmxi = inverse_largest_of p.x0 p.xend p.options;
  y0 = p.y0;
}

abbrev pub tree_of : Problem → Buffers → Play
tree_of p b = start (given_of p b) (from_of p)

-- ---- what a call says: the numbers returned, and the question slice

pub record Said : Type 0 where
  pub reply : Reply
  pub question : List Float

abbrev pub says : Reply → List Float → Said
says a q = record { reply = a; question = q }

abbrev pub said_by : Called → Said
said_by x = says x.reply x.lent.question

-- a step's report has a snapshot, the first has none
abbrev pub is_step : List Float → Bool
is_step [] = false
is_step (v ∷ l) = true

-- 102 the first report, 103 a step's, with the order of its snapshot
abbrev pub reported_as : ℕ → Report → Reply
reported_as order r = record {
  number = cond (is_step r.snapshot) 103 102;
  index = 0;
  value = zero_f;
  time = r.time;
  previous = r.previous;
  count = r.count;
  order = cond (is_step r.snapshot) order 0;
  h = zero_f;
  nfe = 0;
  nje = 0;
  nlu = 0;
  total = 0;
  accepted = 0;
  rejected = 0;
}

-- what the tree shows, said by a call that was lent the question q: the state stands first (in a difference column the
-- perturbed one), a report's snapshot from n on, and the rest is as lent; an end leaves the question
abbrev pub said_of : ℕ → ℕ → Shown → List Float → Said
said_of n order (wants_derivative t v) q = says (plain_reply 100 0 zero_f t) (put_part 0 n q v)
said_of n order (wants_jacobian t v) q = says (plain_reply 101 0 zero_f t) (put_part 0 n q v)
said_of n order (reports r) q =
    says (reported_as order r) (put_part n (length r.snapshot) (put_part 0 n q r.y) r.snapshot)
said_of n order (ends e) q = says (end_reply e) q
said_of n order (refuses_step h) q = says (plain_reply 11 0 h zero_f) q
said_of n order (refuses_weight i) q = says (plain_reply 12 i zero_f zero_f) q
said_of n order refuses q = says (plain_reply 14 0 zero_f zero_f) q
said_of n order stuck q = says (plain_reply 0 0 zero_f zero_f) q  -- never seen

abbrev pub said_at : ℕ → Play → List Float → Said
said_at n t q = said_of n (state_at t).c.nq (shown_at t) q

-- ---- the tree's answers to replies; t is where it stands

abbrev pub fed_as : ReplyCall → Fed
fed_as r = record { kind = kind_of r.kind; numbers = r.numbers; time = r.time }

-- of the kind and length asked
abbrev pub is_awaited : ℕ → Play → ReplyCall → Bool
is_awaited n t r = is_kind r.kind && asks n t (fed_as r)

-- with a question slice of 14·n + 6 numbers
abbrev pub is_sized : ℕ → ReplyCall → Bool
is_sized n r = eqb (length r.question) (question_length n)

-- 3: question length; 14: a reply of another kind or length than asked, or the run has ended
abbrev pub said_to : ℕ → Play → ReplyCall → Said
said_to n t r =
    cond (is_sized n r)
    (cond (is_awaited n t r) (said_at n (tree_next t (fed_as r)) r.question)
    (says (plain_reply 14 0 zero_f zero_f) r.question))
    (says (plain_reply 3 0 zero_f zero_f) r.question)

-- where the tree stands then; a refused reply is passed over
abbrev pub next_of : ℕ → Play → ReplyCall → Play
next_of n t r = step_if (is_sized n r && is_awaited n t r) t (fed_as r)

-- the answers to any list, refused ones included
unfoldable pub told_by : ℕ → Play → List ReplyCall → List Said
told_by n t [] = []
told_by n t (r ∷ rs) = said_to n t r ∷ told_by n (next_of n t r) rs

-- the tree fed a list
unfoldable pub fed_to : ℕ → Play → List ReplyCall → List Said
fed_to n t [] = []
fed_to n t (r ∷ rs) = said_at n (tree_next t (fed_as r)) r.question ∷ fed_to n (tree_next t (fed_as r)) rs

-- where the tree stands after any list, refused ones included
unfoldable pub stands_at : ℕ → Play → List ReplyCall → Play
stands_at n t [] = t
stands_at n t (r ∷ rs) = stands_at n (next_of n t r) rs

-- what the calls that were not refused say
unfoldable pub heard_of : Called → List ReplyCall → List Said
heard_of x [] = []
heard_of x (r ∷ rs) =
    keep_if (not (is_refusal (replied x r).reply)) (said_by (replied x r)) (heard_of (replied x r) rs)

-- ---- the session that the tree's node stands for

-- one of the seven phases that take a derivative
abbrev pub TakesDerivative : Phase → Type 0
TakesDerivative phase = (len n : ℕ) → is_asked phase Kind.Derivative len n ≡ eqb len n

-- the phase in which the node's reply is awaited. A derivative's asks for it at the node's state: in a difference
-- column at the perturbed one, else at y.
abbrev pub PhaseAt : ℕ → Play → Phase → Type 0
PhaseAt n (ret e) phase = phase ≡ Phase.Finished
PhaseAt n (ask (derivative_at t v) x k) phase = TakesDerivative phase × (v ≡ wanted_at n phase x.w)
PhaseAt n (ask (jacobian_at t v) x k) phase = phase ≡ Phase.JacobianAsked
PhaseAt n (tell r x k) phase = phase ≡ cond (is_step r.snapshot) Phase.Report Phase.FirstReport
PhaseAt n (say e p) phase = PhaseAt n p phase

-- a tolerance list in its slots, one for each state that there can be: those beyond it are 0
abbrev pub slots_of : List Float → List Float
slots_of list = list ++ replicate (max_states - length list) zero_f

pub record SessionAt (p : Problem) (b : Buffers) (t : Play) (bytes : List ℕ) : Type 0 where
  pub sized : length bytes ≡ session_length
  pub settings : (decode_of bytes).settings ≡ (given_of p b).s
  pub common : (decode_of bytes).common ≡ (state_at t).c
  pub phase : PhaseAt (length p.y0) t (decode_of bytes).phase
  -- it takes the replies that the node takes
  pub takes : (r : Fed)
      → is_asked (decode_of bytes).phase r.kind (length r.numbers) (length p.y0) ≡ asks (length p.y0) t r
  pub rtol : rtol_slots bytes ≡ slots_of p.rtol
  pub atol : atol_slots bytes ≡ slots_of p.atol

-- ---- the claim

-- a refused reply: by 3 or 14, with everything that was lent as it was
pub record Refused (x : Called) (r : ReplyCall) : Type 0 where
  pub number : ((replied x r).reply.number ≡ 3) ⊎ ((replied x r).reply.number ≡ 14)
  pub unchanged : (replied x r).lent ≡ lent_for x r

-- demand 2, for the calls of any solver
pub record Demand2 (f : Solver) (p : Problem) (b : Buffers) : Type 0 where
  -- the start
  pub first : said_by (f.start p b) ≡ said_at (length p.y0) (tree_of p b) b.question
  -- any replies, refused ones included
  pub answers : (rs : List ReplyCall) → TimesF64 rs
      → map said_by (calls_by f (f.start p b) rs) ≡ told_by (length p.y0) (tree_of p b) rs
  -- what the session decodes to, at an end too
  pub session : (rs : List ReplyCall) → TimesF64 rs
      → SessionAt p b (stands_at (length p.y0) (tree_of p b) rs) (last_by f (f.start p b) rs).lent.session

-- and for ours
pub record CallsFollow (p : Problem) (b : Buffers) : Type 0 where
  pub demand : Demand2 ours p b
  -- the replies not refused, fed to the tree
  pub taken : (rs : List ReplyCall) → TimesF64 rs
      → heard_of (start_of p b) rs ≡ fed_to (length p.y0) (tree_of p b) (taken_replies (start_of p b) rs)
  -- work and pivots are the tree's
  pub work : (rs : List ReplyCall) → TimesF64 rs
      → (last_of (start_of p b) rs).lent.work ≡ (state_at (stands_at (length p.y0) (tree_of p b) rs)).w
  pub pivots : (rs : List ReplyCall) → TimesF64 rs
      → (last_of (start_of p b) rs).lent.pivots ≡ (state_at (stands_at (length p.y0) (tree_of p b) rs)).p
  -- refused ones change nothing
  pub refused : (rs : List ReplyCall) (r : ReplyCall) → TimesF64 rs → IsF64 r.time
      → is_refusal (replied (last_of (start_of p b) rs) r).reply ≡ true → Refused (last_of (start_of p b) rs) r
  -- no session of a run is out of range
  pub never_13 : (rs : List ReplyCall) (r : ReplyCall) → TimesF64 rs → IsF64 r.time
      → (replied (last_of (start_of p b) rs) r).reply.number ≡ 13 → ⊥
