-- What is in the ranges passes the test of 13.
--     passes                a record in the ranges, written over bytes whose tolerances pass
--     tolerances-kept       the tolerances pass after an encoding
--     tolerances-put        they pass where a start put lists that it accepts
-- Assumes nothing.
use mathlib.Core.Path.{◌≡◌, ◌∙◌, ap}
use mathlib.Core.Bool.{true, false, not}
use mathlib.Core.List.{List}
use Prim.Native.Nat.{ℕ, ◌+◌, ◌≤◌, ◌<◌}
use native.Mathlib.Omega.{arith}
use lib.ListN.{length, get_or}
use lib.Ieee as Ieee
use lib.Ieee.{Float, nan, binary64, of_bits}
use borrow.Author.Tests.{lt-ltb}
use Rattle.std.proofs.lemmas.Bool.{and_parts}
use Rattle.numbers.specs.Float.{zero_f}
use Rattle.common.specs.declared.Settings.{Settings}
use Rattle.questions.specs.declared.Session.{Session}
use Rattle.common.specs.Ranges.{Ranges}
use Rattle.words.specs.Words.{word, float, slot_of}
use Rattle.session.specs.Fields.{counts_of}
use Rattle.session.specs.Session.{encode_of, decode_of, put_tolerances_of, stored_counts, word_in_range}
use Rattle.session.proofs.Fits.{Fits, ListFits}
use Rattle.session.specs.Session.{OneOrN, fields_in_range, not_negative_at, not_negative, tolerances_in_range}
use Rattle.session.specs.Session.{pivot_below, pivots_below, in_range_of}
use Rattle.common.specs.Limits.{max_states}
use Rattle.common.specs.SessionWords.{count_words, rtol_at, atol_at, session_length}
use Rattle.words.proofs.Rows.{same-default}
use Rattle.session.proofs.Back.{slot-fits, slot-back, rtol-slot, atol-slot, encoded-other, counts-back}
use Rattle.session.proofs.Back.{decode-encode}
use Rattle.session.proofs.Every.{every-at, every-all}
use Rattle.session.proofs.Listed.{record-between}
use Rattle.session.proofs.Within.{between, relates}

-- ---- what is in the ranges passes

module _ (x : Session) (fits : Fits x) (r : Ranges x.settings x.common) where
  pub fields-in-range : OneOrN x.settings.n x.settings.nrtol → OneOrN x.settings.n x.settings.natol
      → fields_in_range (counts_of x) x.settings x.common ≡ true
  fields-in-range rtol atol =
      let o = r.orders in
      let k = r.counters in
      relates (counts_of x) x.settings x.common
      (every-all (word_in_range (counts_of x)) count_words (λ i h. between (record-between x fits.counts r) i h))
      (record {
        nrtol = rtol;
        natol = atol;
        lmax = omega arith;
        whole = o.nqnyh.0;
        least = o.nqnyh.1;
        most = o.nqnyh.2;
        ncf = k.ncf;
        m = k.m;
        column = k.column;
      })

-- the test on a record, of its parts
pub assembled : (t ipiv : List ℕ) (x : Session) (u : List ℕ) → decode_of t ≡ x → stored_counts t ≡ u
    → fields_in_range u x.settings x.common ≡ true → tolerances_in_range t x.settings ≡ true
    → pivots_below ipiv x.settings.n ≡ true → in_range_of t ipiv ≡ true
unfolding in_range_of
assembled t ipiv x u d w f l p = rw (d, w, f, l) p

pub pivots-in-range : (ipiv : List ℕ) (n : ℕ) → ((k : ℕ) → k < length ipiv → get_or ipiv k 0 < n)
    → pivots_below ipiv n ≡ true
unfolding pivots_below
pivots-in-range ipiv n h = every-all (pivot_below ipiv n) (length ipiv) (λ k b. lt-ltb _ _ (h k b))

-- ---- the tolerances

-- entries that are the same pass alike
same-signs : (s t : List ℕ) (at k : ℕ) → ((i : ℕ) → i < k → word t (at + i) ≡ word s (at + i))
    → not_negative s at k ≡ true → not_negative t at k ≡ true
unfolding not_negative
same-signs s t at k e h =
    every-all (not_negative_at t at) k
    (λ i b. ap (λ (w : ℕ). not (Ieee.lt (of_bits binary64 w) zero_f)) (e i b) ∙ every-at (not_negative_at s at) k h i b)

-- a list that a start accepts: no entry is below 0
signs-put : (t : List ℕ) (at : ℕ) (list : List Float) → length list ≤ max_states → ListFits list
    → ((i : ℕ) → i < max_states → word t (at + i) ≡ slot_of list i)
    → ((i : ℕ) → i < length list → Ieee.lt (get_or list i nan) zero_f ≡ false)
    → not_negative t at (length list) ≡ true
unfolding not_negative
signs-put t at list h f put signs =
    every-all (not_negative_at t at) (length list)
    (λ i b.
    let e : float t (at + i) ≡ get_or list i nan =
    ap (of_bits binary64) (put i (omega arith)) ∙ slot-back list i (slot-fits list f i)
    ∙ same-default list i zero_f nan b in
    rw (e, signs i b))

module _ (rtol atol : List Float) (b : List ℕ) (room : session_length ≤ length b) where
  pub tolerances-put : (s : Settings) → s.nrtol ≡ length rtol → s.natol ≡ length atol
      → length rtol ≤ max_states → length atol ≤ max_states → ListFits rtol → ListFits atol
      → ((i : ℕ) → i < length rtol → Ieee.lt (get_or rtol i nan) zero_f ≡ false)
      → ((i : ℕ) → i < length atol → Ieee.lt (get_or atol i nan) zero_f ≡ false)
      → tolerances_in_range (put_tolerances_of rtol atol b) s ≡ true
  unfolding tolerances_in_range
  tolerances-put s d e h k f g p q =
      let t = put_tolerances_of rtol atol b in
      rw (d, e, signs-put t rtol_at rtol h f (rtol-slot rtol atol b room f) p)
      (signs-put t atol_at atol k g (atol-slot rtol atol b room g) q)

module _ (x : Session) (b : List ℕ) (room : session_length ≤ length b) where
  pub tolerances-kept : (s : Settings) → tolerances_in_range b s ≡ true → tolerances_in_range (encode_of x b) s ≡ true
  unfolding tolerances_in_range
  tolerances-kept s h =
      let p = and_parts (not_negative b rtol_at s.nrtol) (not_negative b atol_at s.natol) h in
      let kept = encoded-other x b room in
      rw (same-signs b (encode_of x b) rtol_at s.nrtol (λ i l. kept (rtol_at + i) (omega arith)) p.0)
      (same-signs b (encode_of x b) atol_at s.natol (λ i l. kept (atol_at + i) (omega arith)) p.1)

  -- a record in the ranges, written over bytes whose tolerances pass, passes with pivots below n
  pub passes : Fits x → Ranges x.settings x.common
      → OneOrN x.settings.n x.settings.nrtol → OneOrN x.settings.n x.settings.natol
      → tolerances_in_range b x.settings ≡ true
      → (ipiv : List ℕ) → ((k : ℕ) → k < length ipiv → get_or ipiv k 0 < x.settings.n)
      → in_range_of (encode_of x b) ipiv ≡ true
  passes fits r rtol atol signs ipiv below =
      assembled (encode_of x b) ipiv x (counts_of x) (decode-encode x b room fits) (counts-back x b room fits)
      (fields-in-range x fits r rtol atol) (tolerances-kept x.settings signs)
      (pivots-in-range ipiv x.settings.n below)
