-- A run that attains the Adams cap, by computation: one state, maxcor 2, mxncf 1. Ten error failures of two derivatives
-- each and the seven single ones make (1 + 9)·2 + 7 = 27, and the step ends too small.
-- Assumes nothing.
use mathlib.Core.Bool.{true, false}
use mathlib.Core.Path.{◌≡◌, refl}
use mathlib.Core.List.{List, [], ◌∷◌}
use mathlib.Core.Option.{some}
use lib.Ieee.{Float, add, sub, mul, div, neg, lt, eq, le, ne, of_int, of_bits}
use Rattle.loops.specs.For.{times}
use Rattle.numbers.specs.Float.{lit, zero_f, one_f}
use Rattle.numbers.specs.Order.{max_of, min_of}
use Rattle.numbers.specs.Sign.{abs_of, negative, refused}
use Rattle.root.specs.Root.{root_of}
use Rattle.coefficients.specs.Cfode.{cfode_of}
use Rattle.coefficients.specs.Table.{elco_of, tesco_of, sm1_of}
use Rattle.vectors.specs.Norm.{vmnorm_of}
use Rattle.vectors.specs.Tolerance.{tolerance_of}
use Rattle.vectors.specs.Weights.{ewset_of, invert_of}
use Rattle.common.specs.declared.MethodFamily.TheVariants.{Adams}
use Rattle.common.specs.declared.Settings.{Settings}
use Rattle.common.specs.Rules.{first_call_init_of, reset_of}
use Rattle.common.specs.State.{Given}
use Rattle.history.specs.Columns.{predict_columns_of, retract_columns_of, scale_part_of, rescale_columns_of, copy_of}
use Rattle.history.specs.Columns.{slope_of}
use Rattle.history.specs.Columns.{fill_of}
use Rattle.history.specs.Steps.{limited_of, adjust_of, stale_of, predicted_of}
use Rattle.corrector.specs.Verdict.{judge_of, rated_of, dcon_of, estimated_of, judged_converged, give_up_of}
use Rattle.corrector.specs.Verdict.{judged_further}
use Rattle.corrector.specs.Verdict.{judged_tested}
use Rattle.corrector.specs.Iterate.{open_of, adams_residual_of, adams_update_of, adams_of, correct_of}
use Rattle.attempt.specs.Attempt.{retracted_of, repredict_of, error_of, shrunk_of, tenth_of, missed_at, missed_of}
use Rattle.attempt.specs.Attempt.{overshot_of, failed_of, restep_of}
use Rattle.between_steps.specs.declared.Answer.TheVariants.{Continue}
use Rattle.between_steps.specs.declared.Kind.TheVariants.{Derivative, Report}
use Rattle.between_steps.specs.Begin.{setup_of, prepared_at, prepared_of, predicted_at}
use Rattle.between_steps.specs.Start.{first_size_of}
use Rattle.common.specs.Initial.{initial_of}
use Rattle.rules.specs.Play.{too_small}
use Rattle.rules.specs.Pass.{iterated, turns, iterations, pass_at, pass}
use Rattle.rules.specs.Rules.{follow, attempted, tested, decide, attempts, stepped, step, solve_at, Start}
use Rattle.rules.specs.Rules.{beginning, first_answered, sized, weighted, started, start, limits_of}
use Rattle.rules.specs.Caps.{derivatives_of}
use Rattle.rules.specs.Replies.{Reply, waits, fed}

abbrev settings : Settings
settings = record {
  n = 1;
  xend = one_f;
  direction = one_f;
  maxsteps = 1;
  mxordn = 12;
  mxords = 5;
  maxcor = 2;
  msbp = 20;
  mxncf = 1;
  supplied = false;
  given = true;
  nrtol = 1;
  natol = 1;
}

abbrev given : Given
given = record { s = settings; rtol = zero_f ∷ []; atol = one_f ∷ [] }

abbrev from : Start
from = record { x0 = zero_f; h = one_f; hmin = zero_f; hmxi = one_f; y0 = zero_f ∷ [] }

-- 2^100
abbrev large : Float
large = lit 0x4630_0000_0000_0000

abbrev derivative : Float → Reply
derivative x = record { kind = Derivative; numbers = x ∷ []; time = zero_f }

abbrev continue : Reply
continue = record { kind = Report Continue; numbers = zero_f ∷ []; time = zero_f }

-- two derivatives of a pass, and those of a pass after a single one
abbrev twice : List Reply → List Reply
twice rs = derivative large ∷ derivative large ∷ rs

abbrev thrice : List Reply → List Reply
thrice rs = derivative zero_f ∷ twice rs

abbrev replies : List Reply
replies =
    derivative zero_f ∷ continue
    ∷ twice (twice (twice (thrice (thrice (thrice (thrice (thrice (thrice (thrice [])))))))))

pub cap-attained : (fed 1 (start given from) [] replies).steps
    ≡ record {
      family = Adams;
      limits = limits_of settings;
      tally = record {
        derivatives = derivatives_of Adams (limits_of settings);
        jacobians = 0;
        paid = 0;
        passes = 10;
        retries = 0;
      };
      ending = some too_small;
    } ∷ []
unfolding fed waits start started weighted sized first_answered beginning solve_at step stepped attempts decide tested
    attempted follow pass pass_at iterations turns iterated initial_of first_size_of setup_of prepared_at prepared_of
    predicted_at failed_of restep_of retracted_of repredict_of error_of shrunk_of tenth_of missed_at missed_of
    overshot_of
    judge_of rated_of dcon_of estimated_of judged_converged give_up_of judged_further judged_tested open_of
    adams_residual_of
    adams_update_of adams_of correct_of limited_of adjust_of stale_of predicted_of predict_columns_of retract_columns_of
    scale_part_of rescale_columns_of copy_of slope_of fill_of first_call_init_of reset_of ewset_of invert_of
    tolerance_of vmnorm_of
    elco_of tesco_of sm1_of cfode_of root_of abs_of negative refused max_of min_of times add sub mul div neg lt eq le
    ne of_int
    of_bits
cap-attained = refl
