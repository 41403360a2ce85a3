-- The number and the values of each case of the machine's question, of a refusal and of a start without states.
-- 100 derivative wanted, 101 Jacobian wanted, 102 first report, 103 report, 110 to 115 the ends; below 100 refusals.
use Rattle.std.specs.Prelude.{ℕ, Float}
use Rattle.numbers.specs.Float.{zero_f}
use Rattle.between_steps.specs.declared.Status.{Status}
use Rattle.questions.specs.declared.Step.{Step}
use Rattle.questions.specs.declared.End.{End}
use Rattle.questions.specs.declared.Question.{Question}
use Rattle.refusals.specs.Refusal.{Entry}
use Rattle.answers.specs.declared.Reply.{Reply}

-- a number with an index, a value or a time; all else 0
abbrev pub plain_reply : ℕ → ℕ → Float → Float → Reply
plain_reply number index value time = record {
  number = number;
  index = index;
  value = value;
  time = time;
  previous = zero_f;
  count = 0;
  order = 0;
  h = zero_f;
  nfe = 0;
  nje = 0;
  nlu = 0;
  total = 0;
  accepted = 0;
  rejected = 0;
}

abbrev pub status_number : Status → ℕ
status_number Status.Success = 110
status_number Status.Interrupted = 111
status_number Status.NeedsMoreSteps = 112
status_number Status.StepTooSmall = 113
status_number Status.PoorConvergence = 114
status_number Status.CoefficientGap = 115

abbrev pub first_report_reply : Float → Reply
first_report_reply time = record {
  number = 102;
  index = 0;
  value = zero_f;
  time = time;
  previous = time;
  count = 0;
  order = 0;
  h = zero_f;
  nfe = 0;
  nje = 0;
  nlu = 0;
  total = 0;
  accepted = 0;
  rejected = 0;
}

abbrev pub report_reply : Step → Reply
report_reply s = record {
  number = 103;
  index = 0;
  value = zero_f;
  time = s.time;
  previous = s.previous;
  count = s.count;
  order = s.order;
  h = zero_f;
  nfe = 0;
  nje = 0;
  nlu = 0;
  total = 0;
  accepted = 0;
  rejected = 0;
}

abbrev pub end_reply : End → Reply
end_reply e = record {
  number = status_number e.status;
  index = 0;
  value = zero_f;
  time = zero_f;
  previous = zero_f;
  count = 0;
  order = 0;
  h = e.h;
  nfe = e.nfe;
  nje = e.nje;
  nlu = e.nlu;
  total = e.total;
  accepted = e.accepted;
  rejected = e.rejected;
}

abbrev pub question_reply : Question → Reply
question_reply (Question.Derivative a) = plain_reply 100 0 zero_f a.time
question_reply (Question.Jacobian a) = plain_reply 101 0 zero_f a.time
question_reply (Question.FirstReport a) = first_report_reply a.time
question_reply (Question.Report s) = report_reply s
question_reply (Question.Finished e) = end_reply e
question_reply (Question.StepRefused h) = plain_reply 11 0 h zero_f
question_reply (Question.WeightRefused i) = plain_reply 12 i zero_f zero_f
question_reply Question.Unasked = plain_reply 14 0 zero_f zero_f

abbrev pub refusal_reply : Entry → Reply
refusal_reply r = plain_reply r.number r.index r.value zero_f
