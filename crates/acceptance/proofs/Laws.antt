-- What callers need of the definitions, for every float and on every branch.
--     length-accept, length-closed     the length of the work is kept
--     accept-keeps                     what an accepted step keeps of the record, and the ranges that it stays in
-- Assumes nothing.
use mathlib.Core.Path.{◌≡◌, ap, ◌∙◌}
use mathlib.Core.List.{List}
use mathlib.Core.Logic.{◌⊎◌}
use Prim.Native.Nat.{ℕ, ◌+◌, ◌-◌, ◌≤◌, max}
use native.Mathlib.Omega.{arith}
use lib.ListN.{length}
use lib.Ieee.{Float}
use Rattle.loops.proofs.Part.{length_part, length-put_part}
use Rattle.numbers.specs.Float.{◌⊘◌, one_f}
use Rattle.coefficients.specs.Table.{tesco_of}
use Rattle.vectors.specs.Weights.{ewset_of, invert_of}
use Rattle.vectors.proofs.Laws.{length-ewset, length-invert}
use Rattle.common.specs.declared.Settings.{Settings}
use Rattle.common.specs.declared.Common.{Common}
use Rattle.common.specs.Layout.{ewt, ewt_at, savf_at, acor_at}
use Rattle.common.specs.Rules.{icount20}
use Rattle.history.specs.Columns.{scale_part_of, correct_columns_of}
use Rattle.history.proofs.Laws.{length-scale-part, length-correct}
use Rattle.acceptance.specs.declared.Branch.TheVariants.{FamilyChanged}
use Rattle.acceptance.specs.Order.{Settled}
use Rattle.acceptance.proofs.OrderMoves.{OrdersKept, Moves}
use Rattle.acceptance.specs.Accept.{corrected_of, accept_of, closed_of}
use Rattle.acceptance.proofs.FamilyMoves.{test-moves}

-- ---- an accepted step

-- what an accepted step makes of the record c: its count rises, the other counts and the flags stay, the family changes
-- on one branch alone, and orders and columns stay in range
pub record AcceptKeeps (s : Settings) (c : Common) (r : Settled) : Type 0 where
  pub nst : r.common.nst ≡ c.nst + 1
  pub kflag : r.common.kflag ≡ 0
  pub m : r.common.m ≡ 0
  pub nfe : r.common.nfe ≡ c.nfe
  pub nje : r.common.nje ≡ c.nje
  pub nlu : r.common.nlu ≡ c.nlu
  pub rejected : r.common.rejected ≡ c.rejected
  pub total : r.common.total ≡ c.total
  pub count : r.common.count ≡ c.count
  pub ncf : r.common.ncf ≡ c.ncf
  pub column : r.common.column ≡ c.column
  pub due : r.common.due ≡ c.due
  pub jcur : r.common.jcur ≡ c.jcur
  pub setup : r.common.setup ≡ c.setup
  pub told : r.common.told ≡ c.told
  pub tn : r.common.tn ≡ c.tn
  pub table : r.common.table ≡ c.table
  pub nslp : r.common.nslp ≡ c.nslp
  pub lmax : r.common.lmax ≡ c.lmax
  pub icount : (r.common.icount ≡ c.icount - 1) ⊎ (r.common.icount ≡ icount20)
  pub meth : (r.branch ≡ FamilyChanged → ⊥) → r.common.meth ≡ c.meth
  pub ialth : 1 ≤ c.ialth → 1 ≤ r.common.ialth
  pub ialth-most : (r.common.ialth ≤ max c.ialth 3) ⊎ (r.common.ialth ≡ r.common.nq + 1)
  pub orders : OrdersKept s c r.common

module _ (s : Settings) (c : Common) (dsm : Float) (work : List Float) where
  moves : Moves s (corrected_of c) c.ialth (correct_columns_of s c work) (accept_of s c dsm work)
  unfolding accept_of corrected_of
  moves = test-moves s dsm (corrected_of c) (correct_columns_of s c work)

  pub length-accept : length (accept_of s c dsm work).work ≡ length work
  length-accept = moves.sized ∙ length-correct s c work

  pub accept-keeps : AcceptKeeps s c (accept_of s c dsm work)
  unfolding corrected_of
  accept-keeps =
      let e = moves.fields in
      record {
        nst = ap (λ (d : Common). d.nst) e;
        kflag = ap (λ (d : Common). d.kflag) e;
        m = ap (λ (d : Common). d.m) e;
        nfe = ap (λ (d : Common). d.nfe) e;
        nje = ap (λ (d : Common). d.nje) e;
        nlu = ap (λ (d : Common). d.nlu) e;
        rejected = ap (λ (d : Common). d.rejected) e;
        total = ap (λ (d : Common). d.total) e;
        count = ap (λ (d : Common). d.count) e;
        ncf = ap (λ (d : Common). d.ncf) e;
        column = ap (λ (d : Common). d.column) e;
        due = ap (λ (d : Common). d.due) e;
        jcur = ap (λ (d : Common). d.jcur) e;
        setup = ap (λ (d : Common). d.setup) e;
        told = ap (λ (d : Common). d.told) e;
        tn = ap (λ (d : Common). d.tn) e;
        table = ap (λ (d : Common). d.table) e;
        nslp = ap (λ (d : Common). d.nslp) e;
        lmax = ap (λ (d : Common). d.lmax) e;
        icount = moves.icount;
        meth = moves.meth;
        ialth = moves.ialth;
        ialth-most = moves.ialth-most;
        orders = λ t l p. moves.orders t l p;
      }

-- ---- the end of a step

pub length-closed : (s : Settings) (c : Common) (q : ℕ) (rtol atol work : List Float) → savf_at s.n ≤ length work
    → length (closed_of s c q rtol atol work).work ≡ length work
unfolding closed_of
length-closed s c q rtol atol work room =
    let n = s.n in
    let scaled = scale_part_of n (acor_at n) (one_f ⊘ tesco_of c.table q 1) work in
    let w = ewset_of rtol atol n (ewt_at n) scaled in
    let long : length w ≡ length work =
    length-ewset rtol atol n (ewt_at n) scaled ∙ length-scale-part n (acor_at n) _ work
    in
    let fits : ewt_at n + n ≤ length w = omega arith in
    let same = length-invert (ewt n w) ∙ length_part (ewt_at n) n w fits in
    length-put_part (ewt_at n) n w fits (invert_of (ewt n w)).ewt same ∙ long
