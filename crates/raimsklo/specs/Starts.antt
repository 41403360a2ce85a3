-- What an accepted start answers, and what every lent slice holds then.
use Rattle.std.specs.Prelude.{List, ℕ, length, replicate, Float}
use Rattle.numbers.specs.Float.{zero_f}
use Rattle.common.specs.declared.Settings.{Settings}
use Rattle.common.specs.declared.Common.{Common}
use Rattle.questions.specs.declared.Phase.TheVariants as Phase
use Rattle.questions.specs.declared.Question.TheVariants as Question
use Rattle.common.specs.Initial.{initial_of}
use Rattle.common.specs.Layout.{y_at}
use Rattle.history.specs.Parts.{stored_of}
use Rattle.session.specs.Session.{encode_of, put_tolerances_of}
use Rattle.answers.specs.Answers.{question_reply}
use Rattle.answers.specs.Called.{Buffers, Called}

-- the session of a start, with its tolerances
unfoldable pub kept_of : Settings → Common → List Float → List Float → List ℕ → List ℕ
kept_of s c rtol atol bytes =
    put_tolerances_of rtol atol (encode_of (record { settings = s; common = c; phase = Phase.FirstDerivative }) bytes)

-- all 0 but for y
abbrev pub laid_of : ℕ → List Float → List Float → List Float
laid_of n y0 work = stored_of (y_at n) y0 (replicate (length work) zero_f)

-- work and pivots are filled with 0 first, y is the start's, and its derivative is wanted
unfoldable pub accepted_start_of : Settings → Float → Float → Float → Float → List Float → List Float → List Float
    → Buffers → Called
accepted_start_of s x0 h hmin hmxi y0 rtol atol b = record {
  reply = question_reply (Question.Derivative (record { time = x0 }));
  lent = record {
    work = laid_of s.n y0 b.work;
    pivots = replicate (length b.pivots) 0;
    session = kept_of s (initial_of s x0 h hmin hmxi) rtol atol b.session;
    question = stored_of 0 y0 b.question;
  };
}
