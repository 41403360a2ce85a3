-- What opens a step, as in `solve`: the interval's end, the setup, the first prediction.
-- The interval's end cuts the step or the setup is done, not both: a cut skips the setup.
-- A step size of 0 or a NaN is taken as it is; that time moves on is not claimed.
use Rattle.std.specs.Prelude.{Bool, true, false, List, ◌+◌, Float}
use Rattle.std.specs.Float.Ieee as Ieee
use Rattle.numbers.specs.Float.{◌⊖◌, ◌⊗◌, ◌⊘◌, zero_f}
use Rattle.numbers.specs.Sign.{abs_of}
use Rattle.common.specs.declared.Settings.{Settings}
use Rattle.common.specs.declared.Common.{Common}
use Rattle.common.specs.Record.{with_setup, with_kflag, with_ncf, with_count, with_jcur, with_told, with_pnorm}
use Rattle.common.specs.Rules.{first_call_init_of, reset_of}
use Rattle.history.specs.Columns.{rescale_columns_of}
use Rattle.history.specs.Parts.{norm_at_of}
use Rattle.history.specs.Steps.{limited_of, adjust_of, predicted_of, predicted_work_of}
use Rattle.common.specs.State.{Moved}

-- what is left of the interval
abbrev pub remaining_of : Settings → Common → Float
remaining_of s c = s.xend ⊖ c.tn

-- (xend - tn)·direction > 0
abbrev pub is_going : Settings → Common → Bool
is_going s c = Ieee.lt zero_f (remaining_of s c ⊗ s.direction)

-- |h| > |what is left|
abbrev pub is_cut : Settings → Common → Bool
is_cut s c = Ieee.lt (abs_of (remaining_of s c)) (abs_of c.h)

-- the columns rescaled to what is left
unfoldable pub cut_of : Settings → Common → List Float → Moved
cut_of s c work =
    let d = with_setup false c in
    let rh = remaining_of s c ⊘ c.h in
    record { common = adjust_of d rh; work = rescale_columns_of s.n (d.nq + 1) (limited_of d rh) work }

unfoldable pub setup_of : Settings → Common → Common
setup_of s c = reset_of s (first_call_init_of s (with_setup false c))

abbrev pub stays : Common → List Float → Moved
stays c work = record { common = c; work = work }

-- cut; setup due
unfoldable pub prepared_at : Settings → Bool → Bool → Common → List Float → Moved
prepared_at s true due c work = cut_of s c work
prepared_at s false true c work = stays (setup_of s c) work
prepared_at s false false c work = stays c work

unfoldable pub prepared_of : Settings → Common → List Float → Moved
prepared_of s c work = prepared_at s (is_cut s c) c.setup c work

-- no failure and no derivative yet; the time before the step is kept
abbrev pub entered_of : Float → Common → Common
entered_of told c = with_kflag 0 (with_ncf 0 (with_count 0 (with_jcur false (with_told told c))))

-- the prediction that opens a step, with its norm
unfoldable pub predicted_at : Settings → Common → List Float → Moved
predicted_at s c work =
    let w = predicted_work_of s c work in
    record { common = with_pnorm (norm_at_of s.n 0 w).value (predicted_of s c); work = w }

unfoldable pub first_prediction_of : Settings → Common → List Float → Moved
first_prediction_of s c work = let p = prepared_of s c work in predicted_at s (entered_of c.tn p.common) p.work
