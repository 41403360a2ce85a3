-- What follows a corrector pass that is not accepted, as in `stoda` and `stoda_handle_corrector_failure`: no
-- convergence retracts and quarters h, or ends poor; an error above 1 retracts and shrinks h, restarts at order 1, or
-- ends too small. The Rust's kflag counts down and marks the ends; here kflag is the number of error failures, and
-- `Next` says how it goes on. The Rust's l is nq + 1.
-- That h shrinks is not claimed: a NaN or 0 stays, and ends by a count.
use Rattle.std.specs.Prelude.{Bool, true, false, cond, ◌||◌, List, ◌+◌, eqb, leb, ltb, Float}
use Rattle.numbers.specs.Float.{◌⊕◌, ◌⊗◌, ◌⊘◌, one_f, d0_1, d0_2, d0_25, d1_2, d1_2e_6, d2}
use Rattle.numbers.specs.Order.{max_of, min_of}
use Rattle.root.specs.Root.{root_of}
use Rattle.coefficients.specs.Table.{tesco_of}
use Rattle.common.specs.declared.Settings.{Settings}
use Rattle.common.specs.declared.Common.{Common}
use Rattle.common.specs.Layout.{acor_at, y_at}
use Rattle.common.specs.Record.{is_bdf, with_rmax, with_tn, with_ncf, with_due, with_rejected, with_kflag, with_h}
use Rattle.common.specs.Record.{with_ialth, with_nq}
use Rattle.common.specs.State.{Moved}
use Rattle.common.specs.Limits.{mxncf_of}
use Rattle.common.specs.Rules.{tiny_of, reset_of}
use Rattle.history.specs.Parts.{norm_at_of}
use Rattle.history.specs.Columns.{retract_columns_of, rescale_columns_of, slope_of, copy_of}
use Rattle.history.specs.Steps.{least_of, limited_of, adjust_of, predicted_of, predicted_work_of}
use Rattle.attempt.specs.declared.Next.{Next}
use Rattle.attempt.specs.declared.Next.TheVariants.{Pass, Restep, TooSmall, Poor}

-- what follows, and the record and the work then
pub record Attempt : Type 0 where
  pub next : Next
  pub common : Common
  pub work : List Float

abbrev pub goes_on : Next → Moved → Attempt
goes_on next m = record { next = next; common = m.common; work = m.work }

abbrev pub stops_as : Next → Common → List Float → Attempt
stops_as next c work = record { next = next; common = c; work = work }

-- the time goes back, and the next rescale may at most double
unfoldable pub retracted_of : Common → Common
retracted_of c = with_rmax d2 (with_tn c.told c)

abbrev pub retracted_work : Settings → Common → List Float → List Float
retracted_work s c work = retract_columns_of s.n c.nq c.nqnyh work

abbrev pub predict_of : Settings → Common → List Float → Moved
predict_of s c work = record { common = predicted_of s c; work = predicted_work_of s c work }

-- rescaled, then predicted
unfoldable pub repredict_of : Settings → Common → Float → List Float → Moved
repredict_of s c rh work =
    predict_of s (adjust_of c rh) (rescale_columns_of s.n (c.nq + 1) (limited_of c rh) work)

-- ---- no convergence

-- one failure more
unfoldable pub unconverged_of : Common → Common
unconverged_of c = with_ncf (c.ncf + 1) (retracted_of c)

-- at the smallest step, or at the mxncf-th failure
abbrev pub poor_of : Settings → Common → Bool
poor_of s c = tiny_of c || eqb c.ncf (mxncf_of s)

-- a quarter of the step, and in the second family a Jacobian is due
unfoldable pub quartered_of : Settings → Common → List Float → Moved
quartered_of s c work =
    let d = with_due (is_bdf c.meth) (with_rejected (c.rejected + 1) c) in
    repredict_of s d (max_of d0_25 (least_of d)) work

unfoldable pub no_convergence_at : Settings → Bool → Common → List Float → Attempt
no_convergence_at s true c work = stops_as Poor c work
no_convergence_at s false c work = goes_on Pass (quartered_of s c work)

unfoldable pub no_convergence_of : Settings → Common → List Float → Attempt
no_convergence_of s c work =
    no_convergence_at s (poor_of s (unconverged_of c)) (unconverged_of c) (retracted_work s c work)

-- ---- the error test

abbrev pub error_size_of : Settings → Common → Float → List Float → Float
error_size_of s c del work = cond (eqb c.m 0) del (norm_at_of s.n (acor_at s.n) work).value

-- a pass that converged at its first iteration has the size at hand
unfoldable pub error_of : Settings → Common → Float → List Float → Float
error_of s c del work = error_size_of s c del work ⊘ tesco_of c.table c.nq 1

-- 1 / (1.2·dsm^(1/l) + 1.2e-6), at most 1, from the second failure at most 0.2, at least hmin / |h|
unfoldable pub shrunk_of : Common → Float → Float
shrunk_of c dsm =
    let rh = min_of (one_f ⊘ (d1_2 ⊗ (root_of dsm (c.nq + 1)).value ⊕ d1_2e_6)) one_f in
    max_of (cond (leb 2 c.kflag) (min_of rh d0_2) rh) (least_of c)

-- a tenth of the step; y is what the derivative is wanted at
unfoldable pub tenth_of : Settings → Common → List Float → Moved
tenth_of s c work =
    record { common = with_h (c.h ⊗ max_of d0_1 (least_of c)) c; work = copy_of s.n (y_at s.n) 0 work }

-- tiny; below the third failure; the tenth
unfoldable pub missed_at : Settings → Float → Bool → Bool → Bool → Common → List Float → Attempt
missed_at s dsm true early last c work = stops_as TooSmall c work
missed_at s dsm false true last c work = goes_on Pass (repredict_of s c (shrunk_of c dsm) work)
missed_at s dsm false false true c work = stops_as TooSmall c work
missed_at s dsm false false false c work = goes_on Restep (tenth_of s c work)

unfoldable pub missed_of : Settings → Common → Float → List Float → Attempt
missed_of s c dsm work = missed_at s dsm (tiny_of c) (ltb c.kflag 3) (eqb c.kflag 10) c work

unfoldable pub overshot_of : Common → Common
overshot_of c = with_rejected (c.rejected + 1) (with_kflag (c.kflag + 1) (retracted_of c))

unfoldable pub failed_of : Settings → Common → Float → List Float → Attempt
failed_of s c dsm work = missed_of s (overshot_of c) dsm (retracted_work s c work)

-- ---- after the derivative of the third to ninth failure

abbrev pub lowered_of : Settings → Bool → Common → Common
lowered_of s true c = c
lowered_of s false c = reset_of s (with_nq 1 c)

-- column 1 anew, order 1, and in the second family a Jacobian is due
unfoldable pub restep_of : Settings → Common → List Float → Moved
restep_of s c work =
    let d = with_due (is_bdf c.meth) (with_ialth 5 c) in
    predict_of s (lowered_of s (eqb c.nq 1) d) (slope_of s.n c.h work)
