-- The order choice of an accepted step, due where ialth has come to 0, as in `stoda`: the factors that the errors at
-- the orders nq + 1, nq and nq - 1 allow, and what the largest of them leads to. The Rust's l is nq + 1; kflag is 0.
-- That the order chosen is the best is not claimed: it is the one that the factors pick.
use Rattle.std.specs.Prelude.{Bool, cond, not, ◌&&◌, ◌||◌, List, ℕ, ◌+◌, ◌-◌, ◌*◌, eqb, ltb, get_or, set, Float}
use Rattle.std.specs.Float.Ieee as Ieee
use Rattle.std.specs.Float.{nan}
use Rattle.loops.specs.For.{for}
use Rattle.numbers.specs.Float.{◌⊖◌, ◌⊗◌, ◌⊘◌, whole, zero_f, d1_1, d1_2, d1_2e_6, d1_3, d1_3e_6, d1_4, d1_4e_6}
use Rattle.numbers.specs.Float.{d1_00001}
use Rattle.numbers.specs.Order.{max_of, min_of}
use Rattle.coefficients.specs.Table.{tesco_of, sm1_of}
use Rattle.common.specs.declared.Settings.{Settings}
use Rattle.common.specs.declared.Common.{Common}
use Rattle.common.specs.Layout.{savf_at, acor_at}
use Rattle.common.specs.Record.{is_bdf, with_ialth, with_nq, with_pdest}
use Rattle.common.specs.Rules.{el_of, reset_of}
use Rattle.history.specs.Parts.{norm_at_of}
use Rattle.history.specs.Columns.{rescale_columns_of}
use Rattle.history.specs.Steps.{least_of, pdh_of, limited_of, adjust_of}
use Rattle.acceptance.specs.declared.family.Proposal.{Proposal}
use Rattle.acceptance.specs.Size.{size_of, column_size_of}
use Rattle.acceptance.specs.declared.Branch.{Branch}
use Rattle.acceptance.specs.declared.Branch.TheVariants.{SmallGain, Lowered, Kept, Raised, HeldBySm1}
use Rattle.acceptance.specs.declared.order.Factors.{Factors}

-- the branch taken, and the record and the work then
pub record Settled : Type 0 where
  pub branch : Branch
  pub common : Common
  pub work : List Float

-- ---- the three factors

-- savf = acor - column lmax - 1
abbrev pub raised_at : ℕ → ℕ → ℕ → List Float → List Float
raised_at n lmax i work =
    set work (savf_at n + i) (get_or work (acor_at n + i) nan ⊖ get_or work (i + (lmax - 1) * n) nan)

unfoldable pub raised_work_of : ℕ → ℕ → List Float → List Float
raised_work_of n lmax work = for 0 n (raised_at n lmax) work

-- at the largest number of columns there is no higher order
unfoldable pub raised_left_of : Settings → Common → List Float → List Float
raised_left_of s c work = cond (eqb (c.nq + 1) c.lmax) work (raised_work_of s.n c.lmax work)

abbrev pub dup_of : Settings → Common → List Float → Float
dup_of s c work = (norm_at_of s.n (savf_at s.n) work).value ⊘ tesco_of c.table c.nq 2

unfoldable pub raised_size_of : Settings → Common → List Float → Float
raised_size_of s c work =
    cond (eqb (c.nq + 1) c.lmax) zero_f
    (size_of d1_4 d1_4e_6 (dup_of s c (raised_work_of s.n c.lmax work)) (c.nq + 1 + 1))

unfoldable pub lowered_size_of : Settings → Common → List Float → Float
lowered_size_of s c work =
    cond (eqb c.nq 1) zero_f
    (size_of d1_3 d1_3e_6 (column_size_of s.n c.nq work ⊘ tesco_of c.table c.nq 0) c.nq)

-- in the Adams family each within its order's stability limit
unfoldable pub limited_factors_of : Common → Factors → Factors
limited_factors_of c f =
    let adams = not (is_bdf c.meth) in
    record {
      up = cond (adams && ltb (c.nq + 1) c.lmax) (min_of f.up (sm1_of (c.nq + 1) ⊘ pdh_of c)) f.up;
      same = cond adams (min_of f.same (sm1_of c.nq ⊘ pdh_of c)) f.same;
      down = cond (adams && ltb 1 c.nq) (min_of f.down (sm1_of (c.nq - 1) ⊘ pdh_of c)) f.down;
    }

-- ---- a proposal is weighed

abbrev pub held_of : Common → Proposal → Bool
held_of c p = not (is_bdf c.meth) && Ieee.le (sm1_of p.order) (p.rh ⊗ pdh_of c ⊗ d1_00001)

-- three steps more as now
abbrev pub waits_of : Branch → Common → List Float → Settled
waits_of branch c work = record { branch = branch; common = with_ialth 3 c; work = work }

-- another order has its own coefficients
abbrev pub at_order : Settings → Common → ℕ → Common
at_order s c q = cond (eqb q c.nq) c (reset_of s (with_nq q c))

abbrev pub order_taken_of : Settings → Common → Float → Branch → List Float → Settled
order_taken_of s d rh branch work =
    let scaled = rescale_columns_of s.n (d.nq + 1) (limited_of d rh) work in
    record { branch = branch; common = adjust_of d rh; work = scaled }

-- held by SM1; a gain of less than a tenth; taken
unfoldable pub settle_of : Settings → Common → Proposal → Branch → List Float → Settled
settle_of s c p branch work =
    cond (held_of c p) (waits_of HeldBySm1 c work)
    (cond (Ieee.lt p.rh d1_1) (waits_of SmallGain c work)
    (order_taken_of s (at_order s c p.order) (max_of p.rh (least_of c)) branch work))

-- ---- the choice

abbrev pub raise_column_at : ℕ → ℕ → Float → ℕ → List Float → List Float
raise_column_at n j r i work = set work (i + j * n) (get_or work (acor_at n + i) nan ⊗ r)

unfoldable pub raise_column_of : ℕ → ℕ → Float → List Float → List Float
raise_column_of n j r work = for 0 n (raise_column_at n j r) work

-- at the largest number of columns the factor is 0, a small gain; else the new order's column is written before the
-- proposal is weighed, so a raise that is held has written it
unfoldable pub raise_of : Settings → Common → Float → List Float → Settled
raise_of s c up work =
    let l = c.nq + 1 in
    cond (eqb l c.lmax || Ieee.lt up d1_1) (waits_of SmallGain c work)
    (settle_of s c (record { order = l; rh = up }) Raised (raise_column_of s.n l (el_of s c c.nq ⊘ whole l) work))

-- order 1 has none below it: its factor is 0, a small gain
unfoldable pub lower_of : Settings → Common → Float → List Float → Settled
lower_of s c down work =
    cond (eqb c.nq 1) (waits_of SmallGain c work)
    (settle_of s c (record { order = c.nq - 1; rh = down }) Lowered work)

-- the factor of the order in force is the largest
abbrev pub same_largest : Factors → Bool
same_largest f = Ieee.le f.up f.same && Ieee.le f.down f.same

unfoldable pub choose_of : Settings → Common → Factors → List Float → Settled
choose_of s c f work =
    cond (same_largest f)
    (settle_of s c (record { order = c.nq; rh = f.same }) Kept work)
    (cond (Ieee.lt f.down f.up) (raise_of s c f.up work) (lower_of s c f.down work))

abbrev pub forgotten_of : Common → Common
forgotten_of c = with_pdest (cond (is_bdf c.meth) c.pdest zero_f) c

abbrev pub factors_of : Settings → Common → Float → List Float → Factors
factors_of s c dsm work = record {
  up = raised_size_of s c work;
  same = size_of d1_2 d1_2e_6 dsm (c.nq + 1);
  down = lowered_size_of s c (raised_left_of s c work);
}

unfoldable pub choose_order_of : Settings → Common → Float → List Float → Settled
choose_order_of s c dsm work =
    let f = limited_factors_of c (factors_of s c dsm work) in
    choose_of s (forgotten_of c) f (raised_left_of s c work)
