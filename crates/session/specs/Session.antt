-- A session's record and tolerances in its bytes, and the test of 13 (01-scope, 'Limits and refusals').
-- Counts, floats, then a slot for each state of relative and of absolute tolerances; a slot beyond a list's end is 0.
-- That a session is of a run is not claimed: whatever passes the test is taken.
use Rattle.std.specs.Prelude.{Bool, true, not, ◌&&◌, ◌||◌, List, ◌⊎◌, ◌≡◌, ℕ, ◌+◌, ◌*◌, ◌%◌, eqb, ltb, leb, length}
use Rattle.std.specs.Prelude.{get_or, Float}
use Rattle.std.specs.Float.Ieee as Ieee
use Rattle.loops.specs.For.{for}
use Rattle.loops.specs.Part.{part}
use Rattle.numbers.specs.Float.{zero_f}
use Rattle.common.specs.declared.Settings.{Settings}
use Rattle.common.specs.declared.Common.{Common}
use Rattle.common.specs.Limits.{mxncf_of, max_states}
use Rattle.questions.specs.declared.Session.{Session}
use Rattle.words.specs.Words.{float, counts_in, put_counts_of, floats_in, put_floats_of, floats_over}
use Rattle.session.specs.Fields.{session_of, counts_of, floats_of, lowest, highest}
use Rattle.common.specs.SessionWords.{count_words, float_words, rtol_at, atol_at}
use Rattle.session.specs.Names.{phase_word, n_word}

-- ---- record and tolerances

abbrev pub encode_counts_of : Session → List ℕ → List ℕ
encode_counts_of x bytes = put_counts_of 0 (counts_of x) bytes

abbrev pub encode_floats_of : Session → List ℕ → List ℕ
encode_floats_of x bytes = put_floats_of count_words float_words (floats_of x) bytes

unfoldable pub encode_of : Session → List ℕ → List ℕ
encode_of x bytes = encode_floats_of x (encode_counts_of x bytes)

abbrev pub stored_counts : List ℕ → List ℕ
stored_counts bytes = counts_in bytes 0 count_words

abbrev pub stored_floats : List ℕ → List Float
stored_floats bytes = floats_in bytes count_words float_words

unfoldable pub decode_of : List ℕ → Session
decode_of bytes = session_of (stored_counts bytes) (stored_floats bytes)

unfoldable pub put_tolerances_of : List Float → List Float → List ℕ → List ℕ
put_tolerances_of rtol atol bytes = put_floats_of atol_at max_states atol (put_floats_of rtol_at max_states rtol bytes)

-- the slots, and of these, below, the lists
abbrev pub rtol_slots : List ℕ → List Float
rtol_slots bytes = floats_in bytes rtol_at max_states

abbrev pub atol_slots : List ℕ → List Float
atol_slots bytes = floats_in bytes atol_at max_states

-- the first k of them, read to the first entries of a list
abbrev pub rtol_first : List ℕ → ℕ → List Float → List Float
rtol_first bytes k list = floats_over bytes rtol_at k list

abbrev pub atol_first : List ℕ → ℕ → List Float → List Float
atol_first bytes k list = floats_over bytes atol_at k list

abbrev pub rtol_of : List ℕ → List Float
rtol_of bytes = part 0 (decode_of bytes).settings.nrtol (rtol_slots bytes)

abbrev pub atol_of : List ℕ → List Float
atol_of bytes = part 0 (decode_of bytes).settings.natol (atol_slots bytes)

-- ---- the ranges of 13

abbrev pub stored_n : List ℕ → ℕ
stored_n bytes = n_word bytes

abbrev pub finished_in : List ℕ → Bool
finished_in bytes = eqb (phase_word bytes) 10

-- p at 0, 1, …, below e
abbrev pub and_at : (ℕ → Bool) → ℕ → Bool → Bool
and_at p i ok = ok && p i

unfoldable pub every : (ℕ → Bool) → ℕ → Bool
every p e = for 0 e (and_at p) true

-- what one word says: states, settings, counts, orders
abbrev pub word_in_range : List ℕ → ℕ → Bool
word_in_range u i = leb (get_or lowest i 0) (get_or u i 0) && leb (get_or u i 0) (get_or highest i 0)

-- 1 or n
abbrev pub one_or_n : ℕ → ℕ → Bool
one_or_n n k = eqb k 1 || eqb k n

abbrev pub OneOrN : ℕ → ℕ → Type 0
OneOrN n k = (k ≡ 1) ⊎ (k ≡ n)

-- the lengths of the tolerance lists
unfoldable pub lists_in_range : Settings → Bool
lists_in_range s = one_or_n s.n s.nrtol && one_or_n s.n s.natol

-- l = nq + 1 at most lmax; nqnyh a multiple of n from nq·n to 12·n
unfoldable pub orders_in_range : Settings → Common → Bool
orders_in_range s c =
    ltb c.nq c.lmax
    && eqb (c.nqnyh % s.n) 0 && leb (c.nq * s.n) c.nqnyh && leb c.nqnyh (12 * s.n)

-- failures below mxncf, the corrector's iterations below maxcor, the column below n
unfoldable pub counters_in_range : Settings → Common → Bool
counters_in_range s c = ltb c.ncf (mxncf_of s) && ltb c.m s.maxcor && ltb c.column s.n

-- all of it, u being the counts
unfoldable pub fields_in_range : List ℕ → Settings → Common → Bool
fields_in_range u s c =
    every (word_in_range u) count_words && lists_in_range s && orders_in_range s c && counters_in_range s c

-- a tolerance below 0 is out of range; a NaN passes
abbrev pub not_negative_at : List ℕ → ℕ → ℕ → Bool
not_negative_at bytes at i = not (Ieee.lt (float bytes (at + i)) zero_f)

unfoldable pub not_negative : List ℕ → ℕ → ℕ → Bool
not_negative bytes at k = every (not_negative_at bytes at) k

unfoldable pub tolerances_in_range : List ℕ → Settings → Bool
tolerances_in_range bytes s = not_negative bytes rtol_at s.nrtol && not_negative bytes atol_at s.natol

abbrev pub pivot_below : List ℕ → ℕ → ℕ → Bool
pivot_below ipiv n i = ltb (get_or ipiv i 0) n

unfoldable pub pivots_below : List ℕ → ℕ → Bool
pivots_below ipiv n = every (pivot_below ipiv n) (length ipiv)

unfoldable pub in_range_of : List ℕ → List ℕ → Bool
in_range_of bytes ipiv =
    fields_in_range (stored_counts bytes) (decode_of bytes).settings (decode_of bytes).common
    && tolerances_in_range bytes (decode_of bytes).settings
    && pivots_below ipiv (decode_of bytes).settings.n
