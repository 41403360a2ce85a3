-- The laws that name every field of a session.
--     counts-small, floats-fit       what the bytes can keep, of the lists of words
--     counts-fit                     the ranges keep every count below 2^64
--     record-back                    the record from its own words
--     words-listed                   the counts in the bytes, one by one
--     word-ranges, words-between     what passes word by word, by the fields' names, and back
--     n-passes, nq-passes            the sizes that the other tests need
--     settings-accepted, counts-bounded     what passes, of the record of a run
--     words_back                     what passes has states that are written
--     record-between                 a record in the ranges passes word by word
-- Made by tools/record.py from the structs of crates/common/src/lib.rt. Assumes nothing.
use mathlib.Core.List.{List, [], ◌∷◌}
use mathlib.Core.Logic.{⊎_elim}
use mathlib.Core.Path.{◌≡◌, refl}
use mathlib.Core.Bool.{true}
use Prim.Native.Nat.{ℕ, zero, suc, ◌-◌, ◌^◌, ◌≤◌, ◌<◌}
use native.Mathlib.Omega.{arith}
use lib.Dec.{lit<}
use lib.ListN.{get_or}
use lib.Ieee.{Float, of_bits, fits}
use Rattle.loops.specs.For.{times}
use Rattle.numbers.specs.Float.{zero_f}
use Rattle.common.specs.Limits.{max_states}
use Rattle.common.specs.SessionWords.{count_words}
use Rattle.questions.specs.declared.Session.{Session}
use Rattle.common.specs.Ranges.{Accepted, Counts, shape_of, step_numbers_of, Orders, EndedCounters, Ranges}
use Rattle.words.specs.Words.{counts_over}
use Rattle.session.specs.Fields.{counts_of, floats_of, settings_of, common_of, session_of, lowest, highest}
use Rattle.session.specs.Names.{phase_word, n_word, maxsteps_word, mxordn_word, mxords_word, maxcor_word, msbp_word}
use Rattle.session.specs.Names.{mxncf_word, supplied_word, given_word, nrtol_word, natol_word, meth_word, nq_word}
use Rattle.session.specs.Names.{lmax_word, nqnyh_word, ialth_word, icount_word, table_word, nslp_word, nst_word}
use Rattle.session.specs.Names.{nfe_word, nje_word, nlu_word, rejected_word, total_word, count_word, kflag_word}
use Rattle.session.specs.Names.{ncf_word, m_word, column_word, due_word, jcur_word, setup_word}
use Rattle.session.specs.WordRanges.{WordRanges}
use Rattle.session.specs.Session.{stored_counts, every, word_in_range, OneOrN}
use Rattle.session.proofs.Fits.{CountsFit, FloatsFit, Fit}
use Rattle.session.proofs.StateNumbers.{flag-from, family-from, phase-from}
use Rattle.session.proofs.StateNumbers.{flag_small, family-small, phase-small}
use Rattle.session.proofs.StateNumbers.{flag-back, family-back, phase-back}
use Rattle.session.proofs.StateNumbers.{flag-known, family-known, phase-known}
use Rattle.session.proofs.Within.{low, high, Between, between_none, ◌▹◌, upto}

-- ---- what the bytes can keep

infixr 30 ◌▸◌
-- what holds of each entry of a list
data Each {A : Type 0} (P : A → Type 0) : List A → Type 0 where
  none : Each P []
  ◌▸◌ : {a : A} {l : List A} → P a → Each P l → Each P (a ∷ l)

entry : {A : Type 0} {P : A → Type 0} {l : List A} (d : A) → P d → Each P l → (i : ℕ) → P (get_or l i d)
entry d p none i = p
entry d p (q ▸ e) zero = q
entry d p (q ▸ e) (suc i) = entry d p e i

pub zero-fits : Fit zero_f
unfolding fits of_bits
zero-fits = tt

pub counts-small : (x : Session) → CountsFit x → (i : ℕ) → get_or (counts_of x) i 0 < 2 ^ 64
counts-small x f i =
    entry {P = λ (w : ℕ). w < 2 ^ 64} 0 (lit< tt)
    (phase-small x.phase ▸ f.n ▸ f.maxsteps ▸ f.mxordn ▸ f.mxords ▸ f.maxcor ▸ f.msbp ▸ f.mxncf ▸
    flag_small x.settings.supplied ▸ flag_small x.settings.given ▸ f.nrtol ▸ f.natol ▸ family-small x.common.meth ▸
    f.nq ▸ f.lmax ▸ f.nqnyh ▸ f.ialth ▸ f.icount ▸ f.table ▸ f.nslp ▸ f.nst ▸ f.nfe ▸ f.nje ▸ f.nlu ▸ f.rejected ▸
    f.total ▸ f.count ▸ f.kflag ▸ f.ncf ▸ f.m ▸ f.column ▸ flag_small x.common.due ▸ flag_small x.common.jcur ▸
    flag_small x.common.setup ▸ none)
    i

pub floats-fit : (x : Session) → FloatsFit x → (i : ℕ) → Fit (get_or (floats_of x) i zero_f)
floats-fit x f i =
    entry {P = Fit} zero_f zero-fits
    (f.xend ▸ f.direction ▸ f.hmin ▸ f.hmxi ▸ f.tn ▸ f.h ▸ f.hu ▸ f.told ▸ f.rc ▸ f.el0 ▸ f.conit ▸ f.rmax ▸
    f.pdest ▸ f.pdlast ▸ f.pdnorm ▸ f.convrate ▸ f.pnorm ▸ f.rate ▸ f.delp ▸ none)
    i

-- whether the run is over or not
pub counts-fit : (x : Session) → Accepted x.settings → Counts x.common (2 ^ 62 - 1)
    → Orders x.settings (shape_of x.common) → EndedCounters x.settings (step_numbers_of x.common)
    → x.common.ialth < 2 ^ 64
    → OneOrN x.settings.n x.settings.nrtol → OneOrN x.settings.n x.settings.natol → CountsFit x
counts-fit x s k o t ialth rtol atol =
    record {
      n = omega arith;
      maxsteps = omega arith;
      mxordn = omega arith;
      mxords = omega arith;
      maxcor = omega arith;
      msbp = omega arith;
      mxncf = omega arith;
      nrtol = ⊎_elim (λ e. omega arith) (λ e. omega arith) rtol;
      natol = ⊎_elim (λ e. omega arith) (λ e. omega arith) atol;
      nq = omega arith;
      lmax = omega arith;
      nqnyh = omega arith;
      ialth = omega arith;
      icount = omega arith;
      table = omega arith;
      nslp = omega arith;
      nst = omega arith;
      nfe = omega arith;
      nje = omega arith;
      nlu = omega arith;
      rejected = omega arith;
      total = omega arith;
      count = omega arith;
      kflag = omega arith;
      ncf = omega arith;
      m = omega arith;
      column = omega arith;
    }

-- ---- the record from its own words

pub record-back : (x : Session) → session_of (counts_of x) (floats_of x) ≡ x
record-back x =
    rw (
      phase-back x.phase,
      flag-back x.settings.supplied,
      flag-back x.settings.given,
      family-back x.common.meth,
      flag-back x.common.due,
      flag-back x.common.jcur,
      flag-back x.common.setup,
    )

-- ---- the counts in the bytes, one by one

abbrev pub words_of : List ℕ → List ℕ
words_of b =
    phase_word b ∷ n_word b ∷ maxsteps_word b ∷ mxordn_word b ∷ mxords_word b ∷ maxcor_word b ∷ msbp_word b
    ∷ mxncf_word b ∷ supplied_word b ∷ given_word b ∷ nrtol_word b ∷ natol_word b ∷ meth_word b ∷ nq_word b
    ∷ lmax_word b ∷ nqnyh_word b ∷ ialth_word b ∷ icount_word b ∷ table_word b ∷ nslp_word b ∷ nst_word b
    ∷ nfe_word b ∷ nje_word b ∷ nlu_word b ∷ rejected_word b ∷ total_word b ∷ count_word b ∷ kflag_word b
    ∷ ncf_word b ∷ m_word b ∷ column_word b ∷ due_word b ∷ jcur_word b ∷ setup_word b ∷ []

pub words-listed : (b : List ℕ) → stored_counts b ≡ words_of b
unfolding counts_over times
words-listed b = refl

below-62 : {v : ℕ} → v ≤ 4611686018427387903 → v < 2 ^ 62
below-62 h = omega arith

below_64 : {v : ℕ} → v ≤ 18446744073709551615 → v < 2 ^ 64
below_64 h = omega arith

upto-62 : {v : ℕ} → v < 2 ^ 62 → v ≤ 4611686018427387903
upto-62 h = omega arith

upto-64 : {v : ℕ} → v < 2 ^ 64 → v ≤ 18446744073709551615
upto-64 h = omega arith

infixr 30 ◌◃◌
◌◃◌ : {a b : ℕ} {l m : List ℕ} → a ≡ b → l ≡ m → a ∷ l ≡ b ∷ m
p ◃ q = λ i. p i ∷ q i

-- what the relations between fields need of the counts
module _ (u : List ℕ) (q : every (word_in_range u) count_words ≡ true) where
  pub n-passes : (1 ≤ (settings_of u []).n) × ((settings_of u []).n ≤ max_states)
  unfolding lowest highest
  n-passes = (low u q 1 (lit< tt), high u q 1 (lit< tt))

  pub nq-passes : (common_of u []).nq ≤ 12
  unfolding highest
  nq-passes = high u q 13 (lit< tt)

module _ (b : List ℕ) where
  pub word-ranges : every (word_in_range (words_of b)) count_words ≡ true → WordRanges b
  unfolding lowest highest
  word-ranges q =
      let lo = low (words_of b) q in
      let hi = high (words_of b) q in
      record {
        phase = hi 0 (lit< tt);
        n = (lo 1 (lit< tt), hi 1 (lit< tt));
        maxsteps = (lo 2 (lit< tt), hi 2 (lit< tt));
        mxordn = (lo 3 (lit< tt), hi 3 (lit< tt));
        mxords = (lo 4 (lit< tt), hi 4 (lit< tt));
        maxcor = (lo 5 (lit< tt), hi 5 (lit< tt));
        msbp = hi 6 (lit< tt);
        mxncf = hi 7 (lit< tt);
        supplied = hi 8 (lit< tt);
        given = hi 9 (lit< tt);
        meth = (lo 12 (lit< tt), hi 12 (lit< tt));
        nq = (lo 13 (lit< tt), hi 13 (lit< tt));
        lmax = (lo 14 (lit< tt), hi 14 (lit< tt));
        ialth = (lo 16 (lit< tt), below_64 (hi 16 (lit< tt)));
        icount = (lo 17 (lit< tt), hi 17 (lit< tt));
        table = hi 18 (lit< tt);
        nslp = below-62 (hi 19 (lit< tt));
        nst = below-62 (hi 20 (lit< tt));
        nfe = below-62 (hi 21 (lit< tt));
        nje = below-62 (hi 22 (lit< tt));
        nlu = below-62 (hi 23 (lit< tt));
        rejected = below-62 (hi 24 (lit< tt));
        total = below-62 (hi 25 (lit< tt));
        count = below-62 (hi 26 (lit< tt));
        kflag = hi 27 (lit< tt);
        due = hi 31 (lit< tt);
        jcur = hi 32 (lit< tt);
        setup = hi 33 (lit< tt);
      }

  pub settings-accepted : (f : List Float) → WordRanges b → Accepted (settings_of (words_of b) f)
  settings-accepted f r = record {
    n = r.n;
    maxsteps = r.maxsteps;
    mxordn = r.mxordn;
    mxords = r.mxords;
    maxcor = r.maxcor;
    msbp = r.msbp;
    mxncf = r.mxncf;
  }

  pub counts-bounded : (f : List Float) → WordRanges b → Counts (common_of (words_of b) f) (2 ^ 62 - 1)
  counts-bounded f r = record {
    nslp = upto-62 r.nslp;
    nst = upto-62 r.nst;
    nfe = upto-62 r.nfe;
    nje = upto-62 r.nje;
    nlu = upto-62 r.nlu;
    rejected = upto-62 r.rejected;
    total = upto-62 r.total;
    count = upto-62 r.count;
  }

  -- counts that only a relation between fields bounds
  pub record OpenWords : Type 0 where
    pub nrtol : nrtol_word b ≤ 18446744073709551615
    pub natol : natol_word b ≤ 18446744073709551615
    pub nqnyh : nqnyh_word b ≤ 18446744073709551615
    pub ncf : ncf_word b ≤ 18446744073709551615
    pub m : m_word b ≤ 18446744073709551615
    pub column : column_word b ≤ 18446744073709551615

  module _ (r : WordRanges b) where
    pub words-between : OpenWords → Between lowest highest (words_of b)
    unfolding lowest highest
    words-between o =
        upto r.phase ▹ r.n ▹ r.maxsteps ▹ r.mxordn ▹ r.mxords ▹ r.maxcor ▹ upto r.msbp ▹ upto r.mxncf
        ▹ upto r.supplied ▹ upto r.given ▹ upto o.nrtol ▹ upto o.natol ▹ r.meth ▹ r.nq ▹ r.lmax ▹ upto o.nqnyh
        ▹ (r.ialth.0, upto-64 r.ialth.1) ▹ r.icount ▹ upto r.table ▹ upto (upto-62 r.nslp) ▹ upto (upto-62 r.nst)
        ▹ upto (upto-62 r.nfe) ▹ upto (upto-62 r.nje) ▹ upto (upto-62 r.nlu) ▹ upto (upto-62 r.rejected)
        ▹ upto (upto-62 r.total) ▹ upto (upto-62 r.count) ▹ upto r.kflag ▹ upto o.ncf ▹ upto o.m ▹ upto o.column
        ▹ upto r.due ▹ upto r.jcur ▹ upto r.setup ▹ between_none

    pub words_back : (f : List Float) → counts_of (session_of (words_of b) f) ≡ words_of b
    words_back f =
        phase-known _ r.phase ◃ refl ◃ refl ◃ refl ◃ refl ◃ refl ◃ refl ◃ refl ◃ flag-known _ r.supplied
        ◃ flag-known _ r.given ◃ refl ◃ refl ◃ family-known _ r.meth.0 r.meth.1 ◃ refl ◃ refl ◃ refl ◃ refl ◃ refl
        ◃ refl ◃ refl ◃ refl ◃ refl ◃ refl ◃ refl ◃ refl ◃ refl ◃ refl ◃ refl ◃ refl ◃ refl ◃ refl
        ◃ flag-known _ r.due ◃ flag-known _ r.jcur ◃ flag-known _ r.setup ◃ refl

pub record-between : (x : Session) → CountsFit x → Ranges x.settings x.common
    → Between lowest highest (counts_of x)
unfolding lowest highest
record-between x f r =
    let s = r.settings in
    let k = r.counts in
    let o = r.orders in
    let t = r.counters in
    phase-from x.phase ▹ (s.n.0, s.n.1) ▹ (s.maxsteps.0, s.maxsteps.1) ▹ (s.mxordn.0, s.mxordn.1)
    ▹ (s.mxords.0, s.mxords.1) ▹ (s.maxcor.0, s.maxcor.1) ▹ upto s.msbp ▹ upto s.mxncf
    ▹ flag-from x.settings.supplied ▹ flag-from x.settings.given ▹ upto (upto-64 f.nrtol) ▹ upto (upto-64 f.natol)
    ▹ family-from x.common.meth ▹ (o.nq.0, o.nq.1) ▹ (o.lmax.0, o.lmax.1) ▹ upto (upto-64 f.nqnyh)
    ▹ (t.ialth, upto-64 f.ialth) ▹ (t.icount.0, t.icount.1) ▹ upto o.table ▹ upto k.nslp ▹ upto k.nst ▹ upto k.nfe
    ▹ upto k.nje ▹ upto k.nlu ▹ upto k.rejected ▹ upto k.total ▹ upto k.count ▹ upto t.kflag ▹ upto (upto-64 f.ncf)
    ▹ upto (upto-64 f.m) ▹ upto (upto-64 f.column) ▹ flag-from x.common.due ▹ flag-from x.common.jcur
    ▹ flag-from x.common.setup ▹ between_none
