-- Whether an answer of a call is the stored one. How a stored answer is read follows from its number alone: a refusal
-- (below 100), a question or the first report (100 to 102), a report (103), and any other is an end.
-- That our answers are the stored ones is not claimed here: the program counts those that are not.
use Rattle.std.specs.Prelude.{Bool, true, false, cond, ◌&&◌, List, ℕ, ◌+◌, ◌*◌, eqb, ltb, take, Float}
use Rattle.std.specs.Float.Ieee as Ieee
use Rattle.std.specs.Float.{binary64}
use Rattle.common.specs.Layout.{header_length}
use Rattle.answers.specs.declared.Reply.{Reply}
use Rattle.replay_runs.specs.Words.{word_of, limited_word, is_stored_count, is_stored_float, are_stored_three}
use Rattle.replay_runs.specs.Words.{are_stored_floats}

-- the stored answer asks for a reply
unfoldable pub asks_reply : List ℕ → ℕ → Bool
asks_reply stored at = cond (ltb (word_of stored at) 100) false (ltb (word_of stored at) 110)

-- how many numbers a report has: y, and the snapshot behind it
abbrev pub report_numbers : ℕ → ℕ → ℕ
report_numbers order n = n + header_length + (order + 1) * n

unfoldable pub is_stored_refusal : List ℕ → ℕ → Reply → Bool
is_stored_refusal stored at r = is_stored_count stored (at + 1) r.index && is_stored_float stored (at + 2) r.value

-- the first report's previous time is its time
unfoldable pub is_timed : Reply → Bool
is_timed r = cond (eqb r.number 102) (eqb (Ieee.to_bits binary64 r.previous) (Ieee.to_bits binary64 r.time)) true

unfoldable pub is_stored_question : List ℕ → ℕ → Reply → List Float → Bool
is_stored_question stored at r y =
    is_timed r && (is_stored_float stored (at + 1) r.time && are_stored_floats stored (at + 2) y)

unfoldable pub is_stored_report : List ℕ → ℕ → Reply → List Float → Bool
is_stored_report stored at r numbers =
    is_stored_float stored (at + 1) r.previous && (is_stored_float stored (at + 2) r.time
    && (is_stored_count stored (at + 3) r.count && (is_stored_count stored (at + 4) r.order
    && are_stored_floats stored (at + 5) numbers)))

unfoldable pub is_stored_end : List ℕ → ℕ → Reply → Bool
is_stored_end stored at r =
    is_stored_float stored (at + 1) r.h && (are_stored_three stored (at + 2) r.nfe r.nje r.nlu
    && are_stored_three stored (at + 5) r.total r.accepted r.rejected)

unfoldable pub is_stored_answer : List ℕ → ℕ → ℕ → Reply → List Float → Bool
is_stored_answer stored at n r question =
    is_stored_count stored at r.number
    && cond (ltb r.number 100) (is_stored_refusal stored at r)
    (cond (ltb r.number 103) (is_stored_question stored at r (take n question))
    (cond (eqb r.number 103)
    (is_stored_report stored at r (take (report_numbers (limited_word stored (at + 4) 12) n) question))
    (is_stored_end stored at r)))
