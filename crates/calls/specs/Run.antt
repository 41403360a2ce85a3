-- A run as a list of calls (01-scope, 'What the host sees'): one accepted start and any replies, refused ones included,
-- each given work, pivots and session exactly as the call before left them, and a question slice lent anew.
-- start and reply are `start_of` and `reply_of` of crate raimsklo, which the contracts of the two functions cite.
-- Nothing asks that the replies belong to one system of equations.
use Rattle.std.specs.Prelude.{Bool, not, ◌||◌, List, [], ◌∷◌, ℕ, eqb, Float}
use Rattle.refinement.specs.Shown.{keep_if}
use Rattle.invariants.specs.Host.{IsF64, AreF64}
use Rattle.answers.specs.declared.Reply.{Reply}
use Rattle.answers.specs.Called.{Buffers, Called}
use Rattle.raimsklo.specs.Calls.{Problem, start_of, reply_of}
use Rattle.calls.specs.WellFormed.{WellFormed}

-- ---- the start

-- the floats that a start is given are f64: this asks nothing of a host (`every-f64` in crates/fits/proofs/Host.antt)
pub record FloatsGiven (p : Problem) : Type 0 where
  pub x0 : IsF64 p.x0
  pub xend : IsF64 p.xend
  pub smallest : IsF64 p.options.min_step
  pub first : IsF64 p.options.first_step
  pub rtol : AreF64 p.rtol
  pub atol : AreF64 p.atol

-- a start that is accepted
pub record Begins (p : Problem) (b : Buffers) : Type 0 where
  pub formed : WellFormed p b
  pub floats : FloatsGiven p

-- ---- the replies

-- kind (1 derivative, 2 Jacobian, 3 continue, 4 interrupt, 5 modified), numbers, time, and the question slice lent
pub record ReplyCall : Type 0 where
  pub kind : ℕ
  pub numbers : List Float
  pub time : Float
  pub question : List Float

-- every time is an f64
abbrev pub TimesF64 : List ReplyCall → Type 0
TimesF64 [] = Unit {0}
TimesF64 (r ∷ rs) = IsF64 r.time × TimesF64 rs

-- ---- the calls of any solver that starts and replies so; x is the call before

pub record Solver : Type 0 where
  pub start : Problem → Buffers → Called
  pub reply : ℕ → List Float → Float → Buffers → Called

abbrev pub lent_for : Called → ReplyCall → Buffers
lent_for x r = record {
  work = x.lent.work;
  pivots = x.lent.pivots;
  session = x.lent.session;
  question = r.question;
}

abbrev pub answered_by : Solver → Called → ReplyCall → Called
answered_by f x r = f.reply r.kind r.numbers r.time (lent_for x r)

unfoldable pub calls_by : Solver → Called → List ReplyCall → List Called
calls_by f x [] = []
calls_by f x (r ∷ rs) = answered_by f x r ∷ calls_by f (answered_by f x r) rs

unfoldable pub last_by : Solver → Called → List ReplyCall → Called
last_by f x [] = x
last_by f x (r ∷ rs) = last_by f (answered_by f x r) rs

-- ours
abbrev pub ours : Solver
ours = record { start = start_of; reply = reply_of }

abbrev pub replied : Called → ReplyCall → Called
replied x r = answered_by ours x r

abbrev pub calls_of : Called → List ReplyCall → List Called
calls_of x rs = calls_by ours x rs

abbrev pub last_of : Called → List ReplyCall → Called
last_of x rs = last_by ours x rs

-- ---- without the refused ones

-- a reply is refused by 3, 13 or 14; one answered by an end, by 11 or by 12 was taken
abbrev pub is_refusal : Reply → Bool
is_refusal a = eqb a.number 3 || (eqb a.number 13 || eqb a.number 14)

unfoldable pub taken_replies : Called → List ReplyCall → List ReplyCall
taken_replies x [] = []
taken_replies x (r ∷ rs) = keep_if (not (is_refusal (replied x r).reply)) r (taken_replies (replied x r) rs)
