-- The sums worked by hand of 01-scope, (1) to (12), as one table (`sums` in proofs/Sums.antt). (8) to (12) go through
-- the calls: a start on any slices of the right lengths, and a host that gives derivatives and continues at reports,
-- each reply with any question slice of the right length. What a sum does not name has the Rust's default.
-- The scope's sums that are only run are not among them.
use Rattle.std.specs.Prelude.{true, false, List, [], ◌∷◌, ◌≡◌, ℕ, ◌+◌, length, Float}
use Rattle.std.specs.Float.{nan}
use Rattle.loops.specs.Part.{part}
use Rattle.numbers.specs.Float.{lit, zero_f, one_f, uround, d0_5, d2, d3, d5, d100}
use Rattle.root.specs.Root.{root_of}
use Rattle.coefficients.specs.Table.{elco_of, tesco_of}
use Rattle.vectors.specs.Norm.{vmnorm_of}
use Rattle.dense.specs.Factor.{factor_of}
use Rattle.dense.specs.Solve.{solve_of}
use Rattle.interpolation.specs.Evaluate.{outputs, interpolate_of}
use Rattle.common.specs.SessionWords.{session_length}
use Rattle.common.specs.Layout.{column}
use Rattle.refusals.specs.declared.Options.{Options}
use Rattle.answers.specs.declared.Reply.{Reply}
use Rattle.answers.specs.Called.{Buffers, Called}
use Rattle.raimsklo.specs.Calls.{Problem, start_of}
use Rattle.calls.specs.Run.{ReplyCall, replied}

abbrev pub d4_5 : Float
d4_5 = lit 0x4012_0000_0000_0000

abbrev pub d6 : Float
d6 = lit 0x4018_0000_0000_0000

abbrev pub d8 : Float
d8 = lit 0x4020_0000_0000_0000

abbrev pub d0_75 : Float
d0_75 = lit 0x3fe8_0000_0000_0000

abbrev pub d1_75 : Float
d1_75 = lit 0x3ffc_0000_0000_0000

-- ---- a problem of one state, from time 0 on, by differences

-- the smallest step is given where it is not 0, the first always is
pub record Single : Type 0 where
  pub y0 : Float
  pub rtol : Float
  pub atol : Float
  pub xend : Float
  pub first : Float
  pub smallest : ℕ
  pub hmin : Float
  pub maxsteps : ℕ
  pub maxcor : ℕ
  pub mxncf : ℕ

abbrev pub options_of : Single → Options
options_of c = record {
  max_steps = c.maxsteps;
  mxordn = 12;
  mxords = 5;
  maxcor = c.maxcor;
  msbp = 20;
  mxncf = c.mxncf;
  banded = 0;
  supplied = 0;
  has_max_step = 0;
  has_min_step = c.smallest;
  has_first_step = 1;
  max_step = zero_f;
  min_step = c.hmin;
  first_step = c.first;
}

abbrev pub problem_of : Single → Problem
problem_of c = record {
  x0 = zero_f;
  xend = c.xend;
  y0 = c.y0 ∷ [];
  rtol = c.rtol ∷ [];
  atol = c.atol ∷ [];
  options = options_of c;
}

-- y0 2, rtol 0.5, atol 0, interval 0 to 1, first step 1
abbrev pub problem8 : Single
problem8 = record {
  y0 = d2;
  rtol = d0_5;
  atol = zero_f;
  xend = one_f;
  first = one_f;
  smallest = 0;
  hmin = zero_f;
  maxsteps = 100000;
  maxcor = 3;
  mxncf = 10;
}

-- with end 2, max_steps 1
abbrev pub problem10 : Single
problem10 = record {
  y0 = d2;
  rtol = d0_5;
  atol = zero_f;
  xend = d2;
  first = one_f;
  smallest = 0;
  hmin = zero_f;
  maxsteps = 1;
  maxcor = 3;
  mxncf = 10;
}

-- y0 0, rtol 0, atol 1, interval 0 to 1, first step 1, maxcor 1, mxncf 1
abbrev pub problem11 : Single
problem11 = record {
  y0 = zero_f;
  rtol = zero_f;
  atol = one_f;
  xend = one_f;
  first = one_f;
  smallest = 0;
  hmin = zero_f;
  maxsteps = 100000;
  maxcor = 1;
  mxncf = 1;
}

-- the same with maxcor 3, minimum step 1
abbrev pub problem12 : Single
problem12 = record {
  y0 = zero_f;
  rtol = zero_f;
  atol = one_f;
  xend = one_f;
  first = one_f;
  smallest = 1;
  hmin = one_f;
  maxsteps = 100000;
  maxcor = 3;
  mxncf = 1;
}

-- ---- a host

-- it gives a derivative, or continues at a report with the report's y and time
pub data Act : Type 0 where
  gives : Float → Act
  continues : Act

-- slices for one state: those of the start, and a question slice for each reply, with whatever they hold
pub record LentOne (b : Buffers) (q : ℕ → List Float) : Type 0 where
  pub work : length b.work ≡ 20
  pub pivots : length b.pivots ≡ 1
  pub session : length b.session ≡ session_length
  pub question : length b.question ≡ 20
  pub replies : (i : ℕ) → length (q i) ≡ 20

abbrev pub reply_with : ℕ → List Float → Float → List Float → ReplyCall
reply_with kind numbers time question = record { kind = kind; numbers = numbers; time = time; question = question }

-- a derivative; or continue, with the state that stands first in the question and the report's time
abbrev pub acted_by : Called → Act → List Float → Called
acted_by x (gives f) q = replied x (reply_with 1 (f ∷ []) zero_f q)
acted_by x continues q = replied x (reply_with 3 (part 0 1 x.lent.question) x.reply.time q)

-- the i-th reply is lent q i
unfoldable pub hosted_by : Called → ℕ → (ℕ → List Float) → List Act → Called
hosted_by x i q [] = x
hosted_by x i q (a ∷ acts) = hosted_by (acted_by x a (q i)) (i + 1) q acts

-- ---- the table of (8) to (12)

-- what the last call returns, and the state then, column 0
pub record Result : Type 0 where
  pub reply : Reply
  pub y : List Float

pub record SumRow : Type 0 where
  pub problem : Single
  pub acts : List Act
  pub result : Result

unfoldable pub result_of : Buffers → (ℕ → List Float) → SumRow → Result
result_of b q r =
    let x = hosted_by (start_of (problem_of r.problem) b) 0 q r.acts in
    record { reply = x.reply; y = column 1 0 x.lent.work }

-- number, h, derivatives, steps (total, accepted, rejected), y; no Jacobian and no factoring
abbrev pub ended : ℕ → Float → ℕ → ℕ → ℕ → ℕ → Float → Result
ended number h nfe total accepted rejected v = record {
  reply = record {
    number = number;
    index = 0;
    value = zero_f;
    time = zero_f;
    previous = zero_f;
    count = 0;
    order = 0;
    h = h;
    nfe = nfe;
    nje = 0;
    nlu = 0;
    total = total;
    accepted = accepted;
    rejected = rejected;
  };
  y = v ∷ [];
}

abbrev pub row8 : SumRow
row8 = record {
  problem = problem8;
  acts = gives zero_f ∷ continues ∷ gives zero_f ∷ continues ∷ [];
  result = ended 110 one_f 2 1 1 0 d2;
}

abbrev pub row9 : SumRow
row9 = record {
  problem = problem8;
  acts = gives zero_f ∷ continues ∷ gives nan ∷ continues ∷ [];
  result = ended 110 one_f 2 1 1 0 nan;
}

abbrev pub row10 : SumRow
row10 = record {
  problem = problem10;
  acts = gives zero_f ∷ continues ∷ gives zero_f ∷ continues ∷ [];
  result = ended 112 one_f 2 1 1 0 d2;
}

abbrev pub row11 : SumRow
row11 = record {
  problem = problem11;
  acts = gives zero_f ∷ continues ∷ gives d100 ∷ [];
  result = ended 114 one_f 2 0 0 0 zero_f;
}

abbrev pub row12 : SumRow
row12 = record {
  problem = problem12;
  acts = gives zero_f ∷ continues ∷ gives d100 ∷ gives d100 ∷ [];
  result = ended 113 one_f 3 0 0 1 zero_f;
}

-- ---- the whole table

-- a snapshot of one state at order 1: time 1, columns 2 and 0.5
abbrev pub snapshot : Float → List Float
snapshot h = one_f ∷ one_f ∷ one_f ∷ h ∷ d0_5 ∷ uround ∷ d2 ∷ d0_5 ∷ []

pub record Sums : Type 0 where
  -- (1) Adams order 1: 1, 1; order 2: 0.5, 1, 0.5
  pub one : (elco_of 1 1 0 ≡ one_f) × (elco_of 1 1 1 ≡ one_f)
      × (elco_of 1 2 0 ≡ d0_5) × (elco_of 1 2 1 ≡ one_f) × (elco_of 1 2 2 ≡ d0_5)
  -- (2) BDF order 2 error entries: 1, 4.5, 6
  pub two : (tesco_of 2 2 0 ≡ one_f) × (tesco_of 2 2 1 ≡ d4_5) × (tesco_of 2 2 2 ≡ d6)
  -- (3) norm of (NaN, 3) with (1, 2): 6
  pub three : vmnorm_of (nan ∷ d3 ∷ []) (one_f ∷ d2 ∷ []) ≡ record { value = d6 }
  -- (4) columns (0, 2), (1, 3) factor to (2, 0), (3, 1), and (1, 5) solves to (1, 1)
  pub four : ((p q : ℕ) → factor_of 2 (zero_f ∷ d2 ∷ one_f ∷ d3 ∷ []) (p ∷ q ∷ [])
      ≡ record { a = d2 ∷ zero_f ∷ d3 ∷ one_f ∷ []; ipiv = 1 ∷ 1 ∷ []; ok = true })
      × (solve_of 2 2 (1 ∷ 1 ∷ []) 0 (one_f ∷ d5 ∷ d2 ∷ zero_f ∷ d3 ∷ one_f ∷ [])
      ≡ record { work = one_f ∷ one_f ∷ d2 ∷ zero_f ∷ d3 ∷ one_f ∷ []; ok = true })
  -- (5) 1 by 1 zero is refused, NaN passes
  pub five : ((ipiv : List ℕ) → factor_of 1 (zero_f ∷ []) ipiv ≡ record { a = zero_f ∷ []; ipiv = ipiv; ok = false })
      × ((p : ℕ) → factor_of 1 (nan ∷ []) (p ∷ []) ≡ record { a = nan ∷ []; ipiv = 0 ∷ []; ok = true })
  -- (6) root 3 of 8 is 2; root 13 of 1 is 1
  pub six : (root_of d8 3 ≡ record { value = d2 }) × (root_of one_f 13 ≡ record { value = one_f })
  -- (7) snapshot n 1, nq 1, t 1, h 0.5, columns 2 and 0.5: at 0.75 the pose is 1.75; with h 0 refused 17
  pub seven : (y : Float) → (interpolate_of d0_75 (snapshot d0_5) (y ∷ []) ≡ outputs 0 (d1_75 ∷ []))
      × (interpolate_of d0_75 (snapshot zero_f) (y ∷ []) ≡ outputs 17 (y ∷ []))
  -- (8) derivatives 0: success, h 1, 2 derivatives, steps 1, 1, 0
  pub eight : (b : Buffers) (q : ℕ → List Float) → LentOne b q → result_of b q row8 ≡ row8.result
  -- (9) second derivative NaN there: success, y NaN
  pub nine : (b : Buffers) (q : ℕ → List Float) → LentOne b q → result_of b q row9 ≡ row9.result
  -- (10) (8) with end 2, max_steps 1: needs more steps
  pub ten : (b : Buffers) (q : ℕ → List Float) → LentOne b q → result_of b q row10 ≡ row10.result
  -- (11) derivatives 0, 100: poor, steps 0, 0, 0
  pub eleven : (b : Buffers) (q : ℕ → List Float) → LentOne b q → result_of b q row11 ≡ row11.result
  -- (12) derivatives 0, 100, 100: too small, steps 0, 0, 1
  pub twelve : (b : Buffers) (q : ℕ → List Float) → LentOne b q → result_of b q row12 ≡ row12.result
