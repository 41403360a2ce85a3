-- An accepted step, as in `stoda`: the columns corrected, the family test where icount is below 0, the order choice
-- where ialth comes to 0; and the end of a step, where acor is scaled and the weights are those of the new state.
-- An accepted step passed the method's own error test; how far it lies from the solution is not claimed.
use Rattle.std.specs.Prelude.{cond, List, Result, ℕ, ◌+◌, ◌-◌, eqb, ltb, Float}
use Rattle.loops.specs.Part.{put_part}
use Rattle.numbers.specs.Float.{◌⊘◌, one_f}
use Rattle.coefficients.specs.Table.{tesco_of}
use Rattle.vectors.specs.declared.NotPositive.{NotPositive}
use Rattle.vectors.specs.Weights.{ewset_of, Inversion, invert_of, weights_outcome}
use Rattle.common.specs.declared.Settings.{Settings}
use Rattle.common.specs.declared.Common.{Common}
use Rattle.common.specs.Layout.{ewt, ewt_at, acor_at}
use Rattle.common.specs.State.{Moved}
use Rattle.common.specs.Record.{with_kflag, with_m, with_nst, with_hu, with_icount, with_ialth}
use Rattle.history.specs.Columns.{correct_columns_of, scale_part_of}
use Rattle.acceptance.specs.declared.family.Change.{Change}
use Rattle.acceptance.specs.declared.family.Change.TheVariants.{Stay, Gap, To}
use Rattle.acceptance.specs.Family.{change_of, changed_of}
use Rattle.acceptance.specs.declared.Branch.{Branch}
use Rattle.acceptance.specs.declared.Branch.TheVariants.{Unchanged, FamilyChanged, CoefficientGap}
use Rattle.acceptance.specs.Order.{Settled, choose_order_of}

-- the accepted count is raised first
unfoldable pub corrected_of : Common → Common
corrected_of c = with_kflag 0 (with_m 0 (with_nst (c.nst + 1) (with_hu c.h (with_icount (c.icount - 1) c))))

abbrev pub took_branch : Branch → Common → List Float → Settled
took_branch branch c work = record { branch = branch; common = c; work = work }

abbrev pub counted_down : Common → Common
counted_down c = with_ialth (c.ialth - 1) c

unfoldable pub keep_family_of : Settings → Common → Float → List Float → Settled
keep_family_of s c dsm work =
    cond (eqb (c.ialth - 1) 0) (choose_order_of s (counted_down c) dsm work)
    (took_branch Unchanged (counted_down c) work)

abbrev pub changed_family : Moved → Settled
changed_family m = took_branch FamilyChanged m.common m.work

unfoldable pub tested_of : Settings → Common → Float → List Float → Change → Settled
tested_of s c dsm work Stay = keep_family_of s c dsm work
tested_of s c dsm work Gap = took_branch CoefficientGap c work
tested_of s c dsm work (To to) = changed_family (changed_of s c to work)

-- icount is kept with 1,000,000 added
unfoldable pub test_family_of : Settings → Common → Float → List Float → Settled
test_family_of s c dsm work =
    cond (ltb c.icount 1000000) (tested_of s c dsm work (change_of s c dsm work)) (keep_family_of s c dsm work)

unfoldable pub accept_of : Settings → Common → Float → List Float → Settled
accept_of s c dsm work = test_family_of s (corrected_of c) dsm (correct_columns_of s c work)

-- ---- the end of a step

pub record Closed : Type 0 where
  pub weights : Result Unit NotPositive
  pub work : List Float

abbrev pub closed_with : ℕ → List Float → Inversion → Closed
closed_with n work inv = record { weights = weights_outcome inv; work = put_part (ewt_at n) n work inv.ewt }

-- acor over the test constant of the order that the step used; then the weights of the new state, inverted
unfoldable pub closed_of : Settings → Common → ℕ → List Float → List Float → List Float → Closed
closed_of s c order rtol atol work =
    let n = s.n in
    let w = ewset_of rtol atol n (ewt_at n) (scale_part_of n (acor_at n) (one_f ⊘ tesco_of c.table order 1) work) in
    closed_with n w (invert_of (ewt n w))
