-- The Rust's own options, and the lengths of what the host lends.
use Rattle.std.specs.Prelude.{cond, ℕ, ltb}
use Rattle.numbers.specs.Float.{zero_f}
use Rattle.common.specs.Layout.{work_length, question_length}
use Rattle.common.specs.Limits.{max_states}
use Rattle.refusals.specs.declared.Options.{Options}

abbrev pub defaults : Options
defaults = record {
  max_steps = 100000;
  mxordn = 12;
  mxords = 5;
  maxcor = 3;
  msbp = 20;
  mxncf = 10;
  banded = 0;
  supplied = 0;
  has_max_step = 0;
  has_min_step = 0;
  has_first_step = 0;
  max_step = zero_f;
  min_step = zero_f;
  first_step = zero_f;
}

-- 0 where n is no number of states
unfoldable pub work_length_for : ℕ → ℕ
work_length_for n = cond (ltb max_states n) 0 (work_length n)

unfoldable pub question_length_for : ℕ → ℕ
question_length_for n = cond (ltb max_states n) 0 (question_length n)
