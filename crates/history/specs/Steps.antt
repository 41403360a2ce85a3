-- `stoda_adjust_step_size` and `stoda_get_predicted_values` on the record: what they read of it and what they leave.
-- The Rust's l is nq + 1. Its miter is 0 in the Adams family alone, so `ipup = miter` makes a Jacobian due in the BDF
-- family and drops it in Adams. Its irflag is not kept: nothing reads it.
-- Nothing is claimed of the sizes: h may become 0, a NaN or infinite.
use Rattle.std.specs.Prelude.{Bool, cond, ◌||◌, List, ◌+◌, leb, Float}
use Rattle.std.specs.Float.Ieee as Ieee
use Rattle.numbers.specs.Float.{◌⊕◌, ◌⊖◌, ◌⊗◌, ◌⊘◌, one_f, d0_3, d1e_6, d1_00001}
use Rattle.numbers.specs.Sign.{abs_of}
use Rattle.numbers.specs.Order.{max_of, min_of}
use Rattle.coefficients.specs.Table.{sm1_of}
use Rattle.common.specs.declared.Settings.{Settings}
use Rattle.common.specs.declared.Common.{Common}
use Rattle.common.specs.Record.{is_bdf, with_h, with_rc, with_ialth, with_due, with_tn}
use Rattle.common.specs.Limits.{msbp_of}
use Rattle.history.specs.Columns.{predict_columns_of}

-- hmin / |h|: the least factor that keeps a step at hmin or above
abbrev pub least_of : Common → Float
least_of c = c.hmin ⊘ abs_of c.h

-- max(|h|·pdlast, 1e-6)
abbrev pub pdh_of : Common → Float
pdh_of c = max_of (abs_of c.h ⊗ c.pdlast) d1e_6

-- the factor of a rescale: at most rmax, within the largest step, and in the Adams family within the stability limit
unfoldable pub limited_of : Common → Float → Float
limited_of c rh =
    let rh1 = min_of rh c.rmax in
    let rh2 = rh1 ⊘ max_of one_f (abs_of c.h ⊗ c.hmxi ⊗ rh1) in
    cond (is_bdf c.meth) rh2 (cond (Ieee.le (sm1_of c.nq) (rh2 ⊗ pdh_of c ⊗ d1_00001)) (sm1_of c.nq ⊘ pdh_of c) rh2)

unfoldable pub adjust_of : Common → Float → Common
adjust_of c rh =
    let r = limited_of c rh in
    with_h (c.h ⊗ r) (with_rc (c.rc ⊗ r) (with_ialth (c.nq + 1) c))

-- |rc - 1| > 0.3, or msbp steps since the last Jacobian
unfoldable pub stale_of : Settings → Common → Bool
stale_of s c = Ieee.lt d0_3 (abs_of (c.rc ⊖ one_f)) || leb (c.nslp + msbp_of s) c.nst

unfoldable pub predicted_of : Settings → Common → Common
predicted_of s c = with_due (cond (stale_of s c) (is_bdf c.meth) c.due) (with_tn (c.tn ⊕ c.h) c)

abbrev pub predicted_work_of : Settings → Common → List Float → List Float
predicted_work_of s c work = predict_columns_of s.n c.nq c.nqnyh work
