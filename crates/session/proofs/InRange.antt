-- The test of 13 is the ranges: of any bytes and pivots, in both directions.
--     in-range
--     stored_is     the record that is decoded, from its counts one by one
-- Assumes nothing.
use mathlib.Core.Bool.{Bool, true, false, not, ◌&&◌}
use mathlib.Core.List.{List}
use mathlib.Core.Logic.{⊎_elim}
use mathlib.Core.Path.{◌≡◌, sym, ap, ◌∙◌}
use Prim.Native.Nat.{ℕ, ◌+◌, ◌*◌, ◌≤◌, ◌<◌, max}
use native.Mathlib.Omega.{arith}
use lib.ListN.{length}
use lib.Ieee as Ieee
use lib.Ieee.{Float}
use borrow.Author.Tests.{ltb-true, not-true}
use Rattle.std.proofs.lemmas.Bool.{and_parts}
use Rattle.numbers.specs.Float.{zero_f}
use Rattle.common.specs.Limits.{max_states}
use Rattle.common.specs.SessionWords.{count_words, rtol_at, atol_at}
use Rattle.words.specs.Words.{float}
use Rattle.session.specs.Fields.{settings_of, common_of, session_of}
use Rattle.session.specs.Session.{stored_floats, decode_of, word_in_range, OneOrN, fields_in_range, not_negative_at}
use Rattle.session.specs.Session.{not_negative, tolerances_in_range, pivot_below, pivots_below, in_range_of}
use Rattle.session.specs.Names.{n_word, nrtol_word, natol_word}
use Rattle.session.specs.InRange.{InRange, ThirteenIs}
use Rattle.session.proofs.Every.{every-at, every-all}
use Rattle.session.proofs.Within.{between, words-pass, related, relates}
use Rattle.session.proofs.Listed.{words_of, words-listed, word-ranges, OpenWords, words-between}
use Rattle.session.proofs.Passes.{pivots-in-range}

-- ---- the tolerances

signs-hold : (b : List ℕ) (at k : ℕ) → not_negative b at k ≡ true
    → (i : ℕ) → i < k → Ieee.lt (float b (at + i)) zero_f ≡ false
unfolding not_negative
signs-hold b at k q i h = not-true _ (every-at (not_negative_at b at) k q i h)

signs-pass : (b : List ℕ) (at k : ℕ) → ((i : ℕ) → i < k → Ieee.lt (float b (at + i)) zero_f ≡ false)
    → not_negative b at k ≡ true
unfolding not_negative
signs-pass b at k h = every-all (not_negative_at b at) k (λ i l. ap not (h i l))

-- ---- the whole test

module _ (b : List ℕ) where
  abbrev u : List ℕ
  u = words_of b

  abbrev f : List Float
  f = stored_floats b

  pub stored_is : decode_of b ≡ session_of u f
  unfolding decode_of
  stored_is = ap (λ (v : List ℕ). session_of v f) (words-listed b)

  abbrev fields : List ℕ → Bool
  fields v = fields_in_range v (settings_of v f) (common_of v f)

  abbrev tolerances : List ℕ → Bool
  tolerances v = tolerances_in_range b (settings_of v f)

  module _ (pivots : List ℕ) where
    abbrev whole : List ℕ → Bool
    whole v = (fields v && tolerances v) && pivots_below pivots (settings_of v f).n

    test-is : in_range_of b pivots ≡ whole u
    unfolding in_range_of decode_of
    test-is = ap whole (words-listed b)

    -- ---- what passes

    pub holds : in_range_of b pivots ≡ true → InRange b pivots
    unfolding tolerances_in_range pivots_below
    holds q =
        let p = and_parts (fields u && tolerances u) (pivots_below pivots (n_word b)) (sym test-is ∙ q) in
        let t = and_parts (fields u) (tolerances u) p.0 in
        let signs = and_parts (not_negative b rtol_at (nrtol_word b)) (not_negative b atol_at (natol_word b)) t.1 in
        let r = related u (settings_of u f) (common_of u f) t.0 in
        record {
          words = word-ranges b (words-pass u (settings_of u f) (common_of u f) t.0);
          nrtol = r.nrtol;
          natol = r.natol;
          rtol = signs-hold b rtol_at (nrtol_word b) signs.0;
          atol = signs-hold b atol_at (natol_word b) signs.1;
          l = above r.lmax;
          nqnyh = (r.whole, r.least, r.most);
          ncf = r.ncf;
          below = λ k h. ltb-true _ _ (every-at (pivot_below pivots (n_word b)) (length pivots) p.1 k h);
          column = r.column;
          m = r.m;
        }
      where
        above : {v w : ℕ} → v < w → v + 1 ≤ w
        above h = omega arith

    -- ---- and back

    list-small : {n k : ℕ} → n ≤ max_states → OneOrN n k → k ≤ 18446744073709551615
    list-small h e = ⊎_elim (λ i. omega arith) (λ i. omega arith) e

    -- at most, or below, what is at most 1,000,000
    upto-limit : {v w : ℕ} → v ≤ w → w ≤ 1000000 → v ≤ 18446744073709551615
    upto-limit h k = omega arith

    below-limit : {v w : ℕ} → v < w → w ≤ 1000000 → v ≤ 18446744073709551615
    below-limit h k = omega arith

    failures : {w : ℕ} → w ≤ 1000000 → max w 1 ≤ 1000000
    failures h = omega arith

    columns : {n : ℕ} → n ≤ max_states → (n ≤ 1000000) × (12 * n ≤ 1000000)
    columns h = (omega arith, omega arith)

    module _ (r : InRange b pivots) where
      open-words : OpenWords b
      open-words =
          let n = r.words.n.1 in
          record {
            nrtol = list-small n r.nrtol;
            natol = list-small n r.natol;
            nqnyh = upto-limit r.nqnyh.2 (columns n).1;
            ncf = below-limit r.ncf (failures r.words.mxncf);
            m = below-limit r.m r.words.maxcor.1;
            column = below-limit r.column (columns n).0;
          }

      fields-pass : fields u ≡ true
      fields-pass =
          relates u (settings_of u f) (common_of u f)
          (every-all (word_in_range u) count_words (λ i h. between (words-between b r.words open-words) i h))
          (record {
            nrtol = r.nrtol;
            natol = r.natol;
            lmax = omega (arith, r.l);
            whole = r.nqnyh.0;
            least = r.nqnyh.1;
            most = r.nqnyh.2;
            ncf = r.ncf;
            m = r.m;
            column = r.column;
          })

      tolerances-pass : tolerances u ≡ true
      unfolding tolerances_in_range
      tolerances-pass =
          rw (signs-pass b rtol_at (nrtol_word b) r.rtol) (signs-pass b atol_at (natol_word b) r.atol)

      pub passes : in_range_of b pivots ≡ true
      passes = test-is ∙ rw (fields-pass, tolerances-pass) (pivots-in-range pivots (n_word b) r.below)

pub in-range : ThirteenIs
in-range b pivots = (holds b pivots, passes b pivots)
