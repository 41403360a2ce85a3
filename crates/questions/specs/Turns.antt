-- What a reply leads to: the next question, the phase that waits for its reply, the record, the work and the pivots.
-- The counts of derivatives rise when the question is asked. What a host is told of it is not here: see answers.
use Rattle.std.specs.Prelude.{List, ℕ, ◌+◌, Float}
use Rattle.common.specs.declared.Common.{Common}
use Rattle.common.specs.Record.{with_nfe, with_count}
use Rattle.common.specs.State.{State, state}
use Rattle.between_steps.specs.declared.Status.{Status}
use Rattle.questions.specs.declared.Phase.{Phase}
use Rattle.questions.specs.declared.Phase.TheVariants.{Finished}
use Rattle.questions.specs.declared.Question.{Question}
use Rattle.questions.specs.declared.Turn.{Turn}

-- the next question, the phase that waits for its reply, and the state of the run then
pub record RunState : Type 0 where
  pub question : Question
  pub phase : Phase
  pub st : State

-- from what a function of the code answers, and the work and the pivots that it leaves
abbrev pub run_state : Turn → List Float → List ℕ → RunState
run_state t w p = record { question = t.question; phase = t.phase; st = state t.common w p }

-- the work and the pivots stay
abbrev pub turn_at : Turn → State → RunState
turn_at t x = run_state t x.w x.p

abbrev pub turn_in : RunState → Turn
turn_in l = record { question = l.question; phase = l.phase; common = l.st.c }

-- a derivative that belongs to no step
unfoldable pub asked_of : Common → Phase → Turn
asked_of c phase = record {
  question = Question.Derivative (record { time = c.tn });
  phase = phase;
  common = with_nfe (c.nfe + 1) c;
}

-- a derivative of the step under way
unfoldable pub asked_in_step_of : Common → Phase → Turn
asked_in_step_of c phase = record {
  question = Question.Derivative (record { time = c.tn });
  phase = phase;
  common = with_nfe (c.nfe + 1) (with_count (c.count + 1) c);
}

unfoldable pub finished_of : Common → Status → Turn
finished_of c status = record {
  question = Question.Finished (record {
    h = c.h;
    status = status;
    nfe = c.nfe;
    nje = c.nje;
    nlu = c.nlu;
    total = c.total;
    accepted = c.nst;
    rejected = c.rejected;
  });
  phase = Finished;
  common = c;
}

-- 12: the weight at this index is at most 0
abbrev pub weight_refused : Common → ℕ → Turn
weight_refused c i = record { question = Question.WeightRefused i; phase = Finished; common = c }
