-- The ranges of 13, in the words of 01-scope, 'Limits and refusals': what every value of a session that is not finished
-- must be, and every lent pivot. `in-range` (proofs/InRange.antt): 13 tests just this, of any bytes.
-- Nothing is said of the floats of the record, which may be any.
use Rattle.std.specs.Prelude.{true, false, List, ◌↔◌, ◌≡◌, ℕ, ◌+◌, ◌*◌, ◌%◌, ◌≤◌, ◌<◌, max, length, get_or}
use Rattle.std.specs.Float.Ieee as Ieee
use Rattle.numbers.specs.Float.{zero_f}
use Rattle.common.specs.SessionWords.{rtol_at, atol_at}
use Rattle.words.specs.Words.{float}
use Rattle.session.specs.Names.{n_word, nrtol_word, natol_word, mxncf_word, maxcor_word, nq_word, lmax_word, nqnyh_word}
use Rattle.session.specs.Names.{ncf_word, m_word, column_word}
use Rattle.session.specs.Session.{OneOrN, in_range_of}
use Rattle.session.specs.WordRanges.{WordRanges}

pub record InRange (b pivots : List ℕ) : Type 0 where
  -- each count by itself: settings as start accepts, counts below 2^62, flags, family, orders, phase known
  pub words : WordRanges b
  -- each tolerance list 1 or n long with no entry below 0 (a NaN passes)
  pub nrtol : OneOrN (n_word b) (nrtol_word b)
  pub natol : OneOrN (n_word b) (natol_word b)
  pub rtol : (i : ℕ) → i < nrtol_word b → Ieee.lt (float b (rtol_at + i)) zero_f ≡ false
  pub atol : (i : ℕ) → i < natol_word b → Ieee.lt (float b (atol_at + i)) zero_f ≡ false
  -- l = nq + 1 at most lmax; nqnyh a multiple of n from nq·n to 12·n
  pub l : nq_word b + 1 ≤ lmax_word b
  pub nqnyh : (nqnyh_word b % n_word b ≡ 0) × (nq_word b * n_word b ≤ nqnyh_word b) × (nqnyh_word b ≤ 12 * n_word b)
  -- failures below mxncf, of which 0 acts as 1
  pub ncf : ncf_word b < max (mxncf_word b) 1
  -- pivots below n
  pub below : (k : ℕ) → k < length pivots → get_or pivots k 0 < n_word b
  -- a difference Jacobian's column below n, and the corrector passes' own counter m below maxcor; where none runs, the
  -- column is 0, and m is what the last pass left
  pub column : column_word b < n_word b
  pub m : m_word b < maxcor_word b

-- the test is the ranges, whatever the bytes and the pivots are
abbrev pub ThirteenIs : Type 0
ThirteenIs = (b pivots : List ℕ) → (in_range_of b pivots ≡ true) ↔ InRange b pivots
