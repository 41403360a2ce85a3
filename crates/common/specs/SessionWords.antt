-- How many words a session has, and at which the two tolerance lists begin. docs/SESSION.md says which field is
-- which word. Made by tools/record.py from the structs of src/lib.rt.
use Rattle.std.specs.Prelude.{ℕ, ◌+◌, ◌*◌}
use Rattle.common.specs.Limits.{max_states}

-- counts, flags and states, which stand first
abbrev pub count_words : ℕ
count_words = 34

-- floats, which stand behind them
abbrev pub float_words : ℕ
float_words = 19

abbrev pub rtol_at : ℕ
rtol_at = count_words + float_words

abbrev pub atol_at : ℕ
atol_at = rtol_at + max_states

abbrev pub session_words : ℕ
session_words = atol_at + max_states

-- in bytes
abbrev pub session_length : ℕ
session_length = 8 * session_words
