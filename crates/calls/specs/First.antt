-- What the reply to the first derivative is answered (01-scope, 'Limits and refusals'): 12, then 11 for the computed
-- step, and else the first report (102). `first-exactly` in proofs/First.antt. What is then left in work and session is
-- not said here (Follow).
use Rattle.std.specs.Prelude.{true, List, [], ◌∷◌, ◌≡◌, ℕ, zero, suc, ◌+◌, length, get_or, Float}
use Rattle.std.specs.Float.Ieee as Ieee
use Rattle.std.specs.Float.{nan}
use Rattle.numbers.specs.Float.{◌⊕◌, ◌⊖◌, ◌⊗◌, zero_f}
use Rattle.numbers.specs.Sign.{abs_of}
use Rattle.vectors.specs.Tolerance.{tolerance_of}
use Rattle.between_steps.specs.Start.{inverted}
use Rattle.refusals.specs.FirstStep.{StepRefused}
use Rattle.refusals.specs.Rows.{Row, ExactlyFirst}
use Rattle.common.specs.State.{State, put_w}
use Rattle.rules.specs.Rules.{beginning, first_step, first_weights}
use Rattle.answers.specs.Answers.{refusal_reply}
use Rattle.answers.specs.Called.{Buffers}
use Rattle.raimsklo.specs.Calls.{Problem, start_of}
use Rattle.calls.specs.Run.{ReplyCall, replied}
use Rattle.calls.specs.Follow.{given_of, from_of}

-- the weight of state i: rtol·|y| + atol
abbrev pub weight_of : Problem → ℕ → Float
weight_of p i = tolerance_of p.rtol i ⊗ abs_of (get_or p.y0 i nan) ⊕ tolerance_of p.atol i

-- 12 at each of k indices from i on: a weight at most 0
abbrev pub weight_rows : Problem → ℕ → ℕ → List Row → List Row
weight_rows p zero i rest = rest
weight_rows p (suc k) i rest =
    record {
      refusal = record { number = 12; index = i; value = zero_f };
      holds = Ieee.le (weight_of p i) zero_f ≡ true;
    }
    ∷ weight_rows p k (i + 1) rest

-- the state with its weights, f being the first derivative, and the first step there: the one given or computed
abbrev pub weighed_state : Problem → Buffers → List Float → State
weighed_state p b f =
    let g = given_of p b in
    let x = beginning g (from_of p) in
    put_w (inverted (length p.y0) (first_weights g f x)) x

abbrev pub first_step_size : Problem → Buffers → List Float → Float
first_step_size p b f = first_step (given_of p b) (weighed_state p b f)

abbrev pub size_row : Problem → Buffers → List Float → Row
size_row p b f = record {
  refusal = record { number = 11; index = 0; value = first_step_size p b f };
  holds = StepRefused (first_step_size p b f) (p.xend ⊖ p.x0);
}

abbrev pub first_rows : Problem → Buffers → List Float → List Row
first_rows p b f = weight_rows p (length p.y0) 0 (size_row p b f ∷ [])

abbrev pub FirstExactly : Problem → Buffers → ReplyCall → Type 0
FirstExactly p b r =
    let a = (replied (start_of p b) r).reply in
    ExactlyFirst (λ q. a ≡ refusal_reply q) (a.number ≡ 102) (Unit {0}) (first_rows p b r.numbers)
