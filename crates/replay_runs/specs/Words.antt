-- The stored words as counts and as floats, and whether a count, a float or a row of floats is what is stored.
-- Behind the end every word is 0. Which word means what is not said here.
use Rattle.std.specs.Prelude.{Bool, cond, ◌&&◌, List, ℕ, ◌+◌, ◌*◌, eqb, ltb, get_or, Float}
use Rattle.std.specs.List.{list_all, enumerate_from}
use Rattle.std.specs.Float.Ieee as Ieee
use Rattle.std.specs.Float.{binary64}
use Rattle.common.specs.Limits.{max_states}

-- as many as a reply can have: those of a Jacobian
abbrev pub most_numbers : ℕ
most_numbers = max_states * max_states

abbrev pub word_of : List ℕ → ℕ → ℕ
word_of words at = get_or words at 0

-- a count that is at most so much
unfoldable pub limited_word : List ℕ → ℕ → ℕ → ℕ
limited_word words at most = cond (ltb (word_of words at) most) (word_of words at) most

abbrev pub float_of : List ℕ → ℕ → Float
float_of words at = Ieee.of_bits binary64 (word_of words at)

unfoldable pub is_stored_count : List ℕ → ℕ → ℕ → Bool
is_stored_count words at n = eqb (word_of words at) n

unfoldable pub is_stored_float : List ℕ → ℕ → Float → Bool
is_stored_float words at x = eqb (word_of words at) (Ieee.to_bits binary64 x)

-- three counts in a row
unfoldable pub are_stored_three : List ℕ → ℕ → ℕ → ℕ → ℕ → Bool
are_stored_three words at a b c =
    is_stored_count words at a && (is_stored_count words (at + 1) b && is_stored_count words (at + 2) c)

-- the floats of the list, from there on
unfoldable pub are_stored_floats : List ℕ → ℕ → List Float → Bool
are_stored_floats words at list = list_all (λ p. is_stored_float words (at + p.0) p.1) (enumerate_from 0 list)
