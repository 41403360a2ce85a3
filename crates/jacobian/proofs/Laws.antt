-- What callers need of the definitions.
--     length-..               work and pivots keep their lengths
--     finished-below          a factoring leaves every pivot below n if all were before
--     SameStep                the fields of the record that a corrector pass leaves alone, whatever the floats
--     same-begin, same-finished     what changes of these fields, if anything
--     in-range-..             what stays in range
-- Assumes nothing.
use mathlib.Core.Path.{◌≡◌, refl, ◌∙◌}
use mathlib.Core.List.{List}
use mathlib.Core.Bool.{Bool, true, false, cond}
use Prim.Native.Nat.{ℕ, ◌+◌, ◌*◌}
use lib.ListN.{length, length-set}
use lib.Ieee.{Float}
use borrow.Rule.Slice.PartMut.{same_len_mid}
use Rattle.loops.proofs.Stores.{length-for}
use Rattle.loops.specs.Part.{part}
use Rattle.dense.proofs.Laws.{Below, length-factor-a, length-factor-ipiv, factor-below}
use Rattle.common.specs.declared.Settings.{Settings}
use Rattle.common.specs.declared.Common.{Common}
use Rattle.common.specs.Record.{with_nje, with_nslp, with_nlu, with_rc, with_pdest, with_pdlast, with_pdnorm}
use Rattle.common.specs.Record.{with_convrate, with_rate, with_delp, with_m, with_due, with_jcur}
use Rattle.common.specs.Layout.{matrix, matrix_at}
use Rattle.common.specs.Ranges.{StepInRange}
use Rattle.history.proofs.Laws.{same-range}
use Rattle.jacobian.specs.Jacobian.{begin_of, minus_hl0, perturb_of, difference_at, difference_of, restore_of}
use Rattle.jacobian.specs.Jacobian.{scaled_at, scaled_of, supplied_of, identity_at, identity_of, identity_factors_of}
use Rattle.jacobian.specs.Jacobian.{in_force, finish_jacobian_of}

-- ---- lengths

module _ (s : Settings) (c : Common) (work : List Float) where
  pub length-perturb : (j : ℕ) → length (perturb_of s c j work) ≡ length work
  unfolding perturb_of
  length-perturb j = simp length-set

  pub length-supplied : (jac : List Float) → length (supplied_of s c jac work) ≡ length work
  unfolding scaled_of
  length-supplied jac =
      let at = matrix_at s.n in
      let a = part at (length jac) work in
      same_len_mid at (length jac) work (scaled_of (minus_hl0 c) jac a)
      (length-for (scaled_at (minus_hl0 c) jac) 0 (length jac) a (λ i t. simp length-set))

pub length-difference : (n j : ℕ) (fac : Float) (work : List Float) → length (difference_of n j fac work) ≡ length work
unfolding difference_of
length-difference n j fac work = length-for (difference_at n j fac) 0 n work (λ i t. simp length-set)

pub length-restore : (s : Settings) (c : Common) (j : ℕ) (work : List Float)
    → length (restore_of s c j work) ≡ length work
unfolding restore_of
length-restore s c j work = simp length-set (length-difference s.n j _ work)

length-identity : (n : ℕ) (a : List Float) → length (identity_of n a) ≡ length a
unfolding identity_of
length-identity n a = length-for (identity_at n) 0 n a (λ i t. simp length-set)

module _ (s : Settings) (c : Common) (work : List Float) (ipiv : List ℕ) where
  pub length-finished : length (finish_jacobian_of s c work ipiv).work ≡ length work
  unfolding finish_jacobian_of
  length-finished =
      let n = s.n in
      let a = matrix n work in
      same_len_mid (matrix_at n) (n * n) work (identity_factors_of n a ipiv).a
      (length-factor-a n (identity_of n a) ipiv ∙ length-identity n a)

  pub length-finished-ipiv : length (finish_jacobian_of s c work ipiv).ipiv ≡ length ipiv
  unfolding finish_jacobian_of
  length-finished-ipiv = length-factor-ipiv s.n (identity_of s.n (matrix s.n work)) ipiv

  pub finished-below : Below s.n ipiv → Below s.n (finish_jacobian_of s c work ipiv).ipiv
  unfolding finish_jacobian_of
  finished-below p = factor-below s.n (identity_of s.n (matrix s.n work)) ipiv p

-- ---- the record

-- d has the family, order, places, counts and time of c
pub record SameStep (c d : Common) : Type 0 where
  pub meth : d.meth ≡ c.meth
  pub nq : d.nq ≡ c.nq
  pub lmax : d.lmax ≡ c.lmax
  pub nqnyh : d.nqnyh ≡ c.nqnyh
  pub table : d.table ≡ c.table
  pub ialth : d.ialth ≡ c.ialth
  pub icount : d.icount ≡ c.icount
  pub nslp : d.nslp ≡ c.nslp
  pub nst : d.nst ≡ c.nst
  pub nfe : d.nfe ≡ c.nfe
  pub nje : d.nje ≡ c.nje
  pub nlu : d.nlu ≡ c.nlu
  pub rejected : d.rejected ≡ c.rejected
  pub total : d.total ≡ c.total
  pub count : d.count ≡ c.count
  pub kflag : d.kflag ≡ c.kflag
  pub ncf : d.ncf ≡ c.ncf
  pub column : d.column ≡ c.column
  pub setup : d.setup ≡ c.setup
  pub tn : d.tn ≡ c.tn
  pub h : d.h ≡ c.h
  pub told : d.told ≡ c.told

-- c, with the fields of d that a pass may change
abbrev pub pass_moved : Common → Common → Common
pass_moved d c =
    with_rc d.rc
    (with_pdest d.pdest
    (with_pdlast d.pdlast
    (with_pdnorm d.pdnorm
    (with_convrate d.convrate
    (with_rate d.rate
    (with_delp d.delp
    (with_m d.m
    (with_due d.due
    (with_jcur d.jcur c)))))))))

pub same-pass-moved : (c d : Common) → SameStep c (pass_moved d c)
same-pass-moved c d =
    record {
      meth = refl;
      nq = refl;
      lmax = refl;
      nqnyh = refl;
      table = refl;
      ialth = refl;
      icount = refl;
      nslp = refl;
      nst = refl;
      nfe = refl;
      nje = refl;
      nlu = refl;
      rejected = refl;
      total = refl;
      count = refl;
      kflag = refl;
      ncf = refl;
      column = refl;
      setup = refl;
      tn = refl;
      h = refl;
      told = refl;
    }

pub in-range-same : {s : Settings} {c : Common} (d : Common) → SameStep c d → StepInRange s c → StepInRange s d
in-range-same d q p = same-range d q.nq q.table q.nqnyh q.nslp p

pub same-begin : (c : Common) → SameStep (with_nje (c.nje + 1) c) (begin_of c)
unfolding begin_of
same-begin c = same-pass-moved (with_nje (c.nje + 1) c) (begin_of c)

pub same-in-force : (c : Common) (norm : Float) (done : Bool)
    → SameStep (with_nslp c.nst (with_nlu (cond done (c.nlu + 1) c.nlu) c)) (in_force c norm done)
same-in-force c norm done = same-pass-moved _ (in_force c norm done)

-- jcur, due and m: a Jacobian that begins is current and no longer due
pub begin-flags : (c : Common) → ((begin_of c).jcur ≡ true) × ((begin_of c).due ≡ false) × ((begin_of c).m ≡ c.m)
unfolding begin_of
begin-flags c = (refl, refl, refl)

module _ (s : Settings) (c : Common) (work : List Float) (ipiv : List ℕ) where
  -- the record after the factoring: nslp is nst, and nlu is raised where the factoring went through
  abbrev pub counted : Common
  counted = with_nslp c.nst (with_nlu (cond (finish_jacobian_of s c work ipiv).done (c.nlu + 1) c.nlu) c)

  pub same-finished : SameStep counted (finish_jacobian_of s c work ipiv).common
  unfolding finish_jacobian_of
  same-finished = same-in-force c _ (finish_jacobian_of s c work ipiv).done

  pub finished-flags : ((finish_jacobian_of s c work ipiv).common.jcur ≡ c.jcur)
      × ((finish_jacobian_of s c work ipiv).common.due ≡ c.due) × ((finish_jacobian_of s c work ipiv).common.m ≡ c.m)
  unfolding finish_jacobian_of
  finished-flags = (refl, refl, refl)
