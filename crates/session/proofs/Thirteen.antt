-- What passes the test of 13 is in the ranges, so that a reply can be taken.
--     small, lists-small     the sizes that the tests themselves need
--     ranges, resumes        what a reply asks of a session and of what is lent
--     states                 its flags, family and phase are among those that are written
--     pivots-pass            the pivots
-- Assumes nothing.
use mathlib.Core.Path.{◌≡◌, sym, ◌∙◌, ap}
use mathlib.Core.Bool.{true}
use mathlib.Core.List.{List, []}
use mathlib.Core.Logic.{inl, inr, ⊎_elim}
use Prim.Native.Nat.{ℕ, ◌-◌, ◌≤◌, ◌<◌}
use native.Mathlib.Omega.{arith}
use lib.ListN.{length, get_or, take}
use lib.Seq.{length-take-le}
use lib.Ieee.{Float}
use Rattle.common.specs.declared.Settings.{Settings}
use Rattle.common.specs.declared.Common.{Common}
use Rattle.common.specs.Layout.{work_length}
use Rattle.common.specs.Limits.{max_states}
use Rattle.common.specs.SessionWords.{count_words, rtol_at, atol_at}
use Rattle.vectors.specs.Tolerance.{List1OrN}
use Rattle.common.specs.Ranges.{Ranges}
use Rattle.questions.specs.Requires.{Resumes}
use Rattle.words.specs.Words.{floats_in}
use Rattle.session.specs.Fields.{counts_of, settings_of, common_of}
use Rattle.session.specs.Session.{stored_counts, stored_floats, decode_of, rtol_of, atol_of, every, word_in_range}
use Rattle.session.specs.Session.{OneOrN, fields_in_range, in_range_of}
use Rattle.session.specs.InRange.{InRange}
use Rattle.words.proofs.Rows.{length-floats}
use Rattle.session.proofs.Within.{words-pass, related}
use Rattle.session.proofs.Listed.{words_of, words-listed, words_back, n-passes, nq-passes, settings-accepted}
use Rattle.session.proofs.Listed.{counts-bounded}
use Rattle.session.proofs.InRange.{stored_is, holds}

-- ---- what the tests themselves need

list-small : {n : ℕ} (k : ℕ) → n ≤ max_states → OneOrN n k → k ≤ max_states
list-small k b h = ⊎_elim (λ e. omega arith) (λ e. omega arith) h

module _ (u : List ℕ) (s : Settings) (c : Common) (n : s.n ≡ (settings_of u []).n) where
  pub small : c.nq ≡ (common_of u []).nq → every (word_in_range u) count_words ≡ true
      → (1 ≤ s.n) × (s.n ≤ max_states) × (c.nq ≤ 12)
  small e q =
      let a = n-passes u q in
      let b = nq-passes u q in
      omega arith

  pub lists-small : fields_in_range u s c ≡ true → (s.nrtol ≤ max_states) × (s.natol ≤ max_states)
  lists-small q =
      let b = (n-passes u (words-pass u s c q)).1 in
      let r = related u s c q in
      (list-small s.nrtol (omega arith) r.nrtol, list-small s.natol (omega arith) r.natol)

-- ---- what passes is in the ranges

-- the counts one by one
in-ranges : (b pivots : List ℕ) (f : List Float) → InRange b pivots
    → Ranges (settings_of (words_of b) f) (common_of (words_of b) f)
in-ranges b pivots f r =
    let w = r.words in
    record {
      settings = settings-accepted b f w;
      counts = counts-bounded b f w;
      orders = record {
        nq = w.nq;
        lmax = (w.lmax.0, w.lmax.1, r.l);
        nqnyh = r.nqnyh;
        table = w.table;
      };
      counters = record {
        ialth = w.ialth.0;
        icount = w.icount;
        kflag = w.kflag;
        ncf = r.ncf;
        m = r.m;
        column = r.column;
      };
    }

-- a tolerance list has the stored length, and is long enough
list_length : (b : List ℕ) (at : ℕ) {n : ℕ} (k : ℕ) → n ≤ max_states → OneOrN n k
    → length (take k (floats_in b at max_states)) ≡ k
list_length b at k m h =
    let l = length-floats b at max_states in
    let few = list-small k m h in
    length-take-le k (floats_in b at max_states) (omega arith)

long-enough : (list : List Float) (k n : ℕ) → 1 ≤ n → length list ≡ k → OneOrN n k → List1OrN list (n - 1)
long-enough list k n p e h = ⊎_elim (λ o. inl (omega arith)) (λ o. inr (omega arith)) h

module _ (b pivots : List ℕ) (q : in_range_of b pivots ≡ true) where
  in-range : InRange b pivots
  in-range = holds b pivots q

  -- every flag, family and phase is one that can be written: the record's words are those that stand there
  pub states : counts_of (decode_of b) ≡ stored_counts b
  states =
      ap counts_of (stored_is b) ∙ words_back b in-range.words (stored_floats b) ∙ sym (words-listed b)

  pub ranges : Ranges (decode_of b).settings (decode_of b).common
  ranges = rw (stored_is b) (in-ranges b pivots (stored_floats b) in-range)

  pub pivots-pass : (k : ℕ) → k < length pivots → get_or pivots k 0 < (decode_of b).settings.n
  pivots-pass = rw (stored_is b) in-range.below

  relative : OneOrN (decode_of b).settings.n (decode_of b).settings.nrtol
  relative = rw (stored_is b) in-range.nrtol

  absolute : OneOrN (decode_of b).settings.n (decode_of b).settings.natol
  absolute = rw (stored_is b) in-range.natol

  pub lists-fit : ((decode_of b).settings.nrtol ≤ max_states) × ((decode_of b).settings.natol ≤ max_states)
  lists-fit =
      let n = ranges.settings.n.1 in
      (list-small (decode_of b).settings.nrtol n relative, list-small (decode_of b).settings.natol n absolute)

  -- what a reply asks of a session and of what is lent
  pub resumes : (work : List Float) → length work ≡ work_length (decode_of b).settings.n
      → length pivots ≡ (decode_of b).settings.n → Resumes (decode_of b) (rtol_of b) (atol_of b) work pivots
  resumes work sized lent =
      let n = ranges.settings.n in
      let s = (decode_of b).settings in
      record {
        ranges = ranges;
        relative = long-enough (rtol_of b) _ _ n.0 (list_length b rtol_at s.nrtol n.1 relative) relative;
        absolute = long-enough (atol_of b) _ _ n.0 (list_length b atol_at s.natol n.1 absolute) absolute;
        lent = record { sized = sized; pivots = lent; below = λ k h. pivots-pass k (omega arith) };
      }
