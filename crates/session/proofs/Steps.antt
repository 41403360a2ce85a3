-- Lemmas for the functions' attributes. Assumes nothing.
use mathlib.Core.Path.{◌≡◌, sym}
use mathlib.Core.Bool.{true, ◌&&◌}
use mathlib.Core.List.{List, map}
use Prim.Native.Nat.{ℕ, ◌/◌}
use native.Mathlib.Omega.{arith}
use lib.Ieee.{Float, binary64, to_bits}
use Rattle.std.proofs.lemmas.Grind.{common_steps}
use Rattle.std.proofs.lemmas.Bool.Decides.{nat_tests}
use Rattle.loops.specs.For.{for}
use Rattle.words.specs.Words.{put_row_of, put_floats_of}
use Rattle.words.proofs.Rows.{put-floats-row}
use Rattle.common.specs.SessionWords.{count_words}
use Rattle.session.specs.Session.{every, and_at, word_in_range}
use Rattle.session.proofs.Every.{every_halves, run-of-four}

-- a conjunction of tests is that of the definition
pub ruleset tests = (common_steps, nat_tests)

pub ruleset four_tests = (common_steps, nat_tests, run-of-four)

-- floats that are put are a row of words
pub floats_row : (at k : ℕ) (list : List Float) (b : List ℕ)
    → put_floats_of at k list b ≡ put_row_of at k (map (to_bits binary64) list) b
floats_row at k list b = sym (put-floats-row at k list b)

-- the counts in two runs
abbrev half : ℕ
half = count_words / 2

pub words_halves : (u : List ℕ) → every (word_in_range u) count_words
    ≡ for 0 half (and_at (word_in_range u)) true && for half count_words (and_at (word_in_range u)) true
words_halves u = every_halves (word_in_range u) half count_words (omega arith)
