-- The tests of 13 on the record, as facts and back.
--     low, high            what one word says
--     related, relates     what fields say of each other
--     between              words between the least and the greatest values pass
-- Assumes nothing.
use mathlib.Core.Path.{◌≡◌, refl}
use mathlib.Core.Bool.{Bool, true, false, ◌&&◌, ◌||◌}
use mathlib.Core.List.{List, [], ◌∷◌}
use mathlib.Core.Logic.{inl, inr, ⊎_elim}
use Prim.Native.Nat.{ℕ, zero, suc, ◌*◌, ◌%◌, ◌≤◌, ◌<◌}
use native.Mathlib.Nat.{not-suc-le-zero, le_of_suc-le-suc}
use native.Mathlib.Omega.{arith}
use lib.Dec.{eqb, ltb, leb}
use lib.ListN.{length, get_or}
use borrow.Author.Tests.{ltb-true, leb-true, eqb-true, lt-ltb, le-leb, eq-eqb}
use Rattle.std.proofs.lemmas.Bool.{and_parts, or_cases}
use Rattle.common.specs.declared.Settings.{Settings}
use Rattle.common.specs.declared.Common.{Common}
use Rattle.common.specs.Limits.{mxncf_of}
use Rattle.common.specs.SessionWords.{count_words}
use Rattle.session.specs.Fields.{lowest, highest}
use Rattle.session.specs.Session.{every, word_in_range, one_or_n, OneOrN, lists_in_range, orders_in_range}
use Rattle.session.specs.Session.{counters_in_range, fields_in_range}
use Rattle.session.proofs.Every.{every-at}

-- ---- what one word says

module _ (u : List ℕ) (q : every (word_in_range u) count_words ≡ true) where
  in-range : (i : ℕ) → i < count_words
      → (leb (get_or lowest i 0) (get_or u i 0) ≡ true) × (leb (get_or u i 0) (get_or highest i 0) ≡ true)
  in-range i h =
      and_parts (leb (get_or lowest i 0) (get_or u i 0)) (leb (get_or u i 0) (get_or highest i 0))
      (every-at (word_in_range u) count_words q i h)

  pub low : (i : ℕ) → i < count_words → get_or lowest i 0 ≤ get_or u i 0
  low i h = leb-true _ _ (in-range i h).0

  pub high : (i : ℕ) → i < count_words → get_or u i 0 ≤ get_or highest i 0
  high i h = leb-true _ _ (in-range i h).1

infixr 30 ◌▹◌
-- each word between its least and its greatest value
pub data Between : List ℕ → List ℕ → List ℕ → Type 0 where
  between_none : Between [] [] []
  ◌▹◌ : {l h w : ℕ} {ls hs ws : List ℕ} → (l ≤ w) × (w ≤ h) → Between ls hs ws → Between (l ∷ ls) (h ∷ hs) (w ∷ ws)

pub between : {ls hs ws : List ℕ} → Between ls hs ws → (i : ℕ) → i < length ws
    → leb (get_or ls i 0) (get_or ws i 0) && leb (get_or ws i 0) (get_or hs i 0) ≡ true
between between_none i h = absurd (not-suc-le-zero h)
between (p ▹ r) zero h = rw (le-leb _ _ p.0, le-leb _ _ p.1)
between (p ▹ r) (suc i) h = between r i (le_of_suc-le-suc h)

pub upto : {w h : ℕ} → w ≤ h → (0 ≤ w) × (w ≤ h)
upto p = (omega arith, p)

-- ---- what fields say of each other

one-or-n : (n k : ℕ) → one_or_n n k ≡ true → OneOrN n k
one-or-n n k e = ⊎_elim (λ t. inl (eqb-true k 1 t)) (λ t. inr (eqb-true k n t)) (or_cases (eqb k 1) (eqb k n) e)

is-one-or-n : (n k : ℕ) → OneOrN n k → one_or_n n k ≡ true
is-one-or-n n k (inl e) = rw (eq-eqb k 1 e)
is-one-or-n n k (inr e) = second (eqb k 1) (eq-eqb k n e)
  where
    second : (a : Bool) {b : Bool} → b ≡ true → a || b ≡ true
    second true e = refl
    second false e = e

pub record Related (s : Settings) (c : Common) : Type 0 where
  pub nrtol : OneOrN s.n s.nrtol
  pub natol : OneOrN s.n s.natol
  pub lmax : c.nq < c.lmax
  pub whole : c.nqnyh % s.n ≡ 0
  pub least : c.nq * s.n ≤ c.nqnyh
  pub most : c.nqnyh ≤ 12 * s.n
  pub ncf : c.ncf < mxncf_of s
  pub m : c.m < s.maxcor
  pub column : c.column < s.n

module _ (u : List ℕ) (s : Settings) (c : Common) where
  -- the four tests
  tests : fields_in_range u s c ≡ true
      → (every (word_in_range u) count_words ≡ true) × (lists_in_range s ≡ true) × (orders_in_range s c ≡ true)
      × (counters_in_range s c ≡ true)
  unfolding fields_in_range
  tests q =
      let w = every (word_in_range u) count_words in
      let l = lists_in_range s in
      let o = orders_in_range s c in
      let k = counters_in_range s c in
      let a = and_parts (w && l && o) k q in
      let b = and_parts (w && l) o a.0 in
      let d = and_parts w l b.0 in
      (d.0, d.1, b.1, a.1)

  pub words-pass : fields_in_range u s c ≡ true → every (word_in_range u) count_words ≡ true
  words-pass q = (tests q).0

  pub related : fields_in_range u s c ≡ true → Related s c
  unfolding lists_in_range orders_in_range counters_in_range
  related q =
      let t = tests q in
      let l = and_parts (one_or_n s.n s.nrtol) (one_or_n s.n s.natol) t.1 in
      let o3 = and_parts _ (leb c.nqnyh (12 * s.n)) t.2 in
      let o2 = and_parts _ (leb (c.nq * s.n) c.nqnyh) o3.0 in
      let o1 = and_parts (ltb c.nq c.lmax) (eqb (c.nqnyh % s.n) 0) o2.0 in
      let k2 = and_parts _ (ltb c.column s.n) t.3 in
      let k1 = and_parts (ltb c.ncf (mxncf_of s)) (ltb c.m s.maxcor) k2.0 in
      record {
        nrtol = one-or-n _ _ l.0;
        natol = one-or-n _ _ l.1;
        lmax = ltb-true _ _ o1.0;
        whole = eqb-true _ _ o1.1;
        least = leb-true _ _ o2.1;
        most = leb-true _ _ o3.1;
        ncf = ltb-true _ _ k1.0;
        m = ltb-true _ _ k1.1;
        column = ltb-true _ _ k2.1;
      }

  pub relates : every (word_in_range u) count_words ≡ true → Related s c → fields_in_range u s c ≡ true
  unfolding fields_in_range lists_in_range orders_in_range counters_in_range
  relates q r =
      rw (
        q,
        is-one-or-n _ _ r.nrtol,
        is-one-or-n _ _ r.natol,
        lt-ltb _ _ r.lmax,
        eq-eqb _ _ r.whole,
        le-leb _ _ r.least,
        le-leb _ _ r.most,
        lt-ltb _ _ r.ncf,
        lt-ltb _ _ r.m,
        lt-ltb _ _ r.column,
      )
