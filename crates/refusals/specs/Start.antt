-- What a start is refused for: the scope's table, 1 to 11 in its order; and the settings of an accepted start, as
-- `solve` makes them.
-- 12 is not here: it needs the first derivative (crate reports).
use Rattle.std.specs.Prelude.{Bool, false, cond, not, ◌||◌, ◌&&◌, List, [], ◌∷◌, ℕ, eqb, ltb, length, get_or, Float}
use Rattle.std.specs.Float.Ieee as Ieee
use Rattle.std.specs.Float.{nan}
use Rattle.loops.specs.For.{for}
use Rattle.numbers.specs.Float.{◌⊖◌, ◌⊘◌, zero_f, one_f}
use Rattle.numbers.specs.Sign.{abs_of, signum_of, refused}
use Rattle.common.specs.declared.Settings.{Settings}
use Rattle.common.specs.Layout.{work_length, question_length}
use Rattle.common.specs.Limits.{max_states}
use Rattle.common.specs.SessionWords.{session_length}
use Rattle.refusals.specs.declared.Options.{Options}
use Rattle.refusals.specs.declared.Lengths.{Lengths}
use Rattle.refusals.specs.declared.Start.{Start}
use Rattle.refusals.specs.Refusal.{Entry, none, plain, when, in_order, or_else}

-- 1 or n long
abbrev pub is_list : ℕ → ℕ → Bool
is_list len n = eqb len 1 || eqb len n

-- work, pivots and question have the lengths of n states
abbrev pub are_lent : ℕ → ℕ → ℕ → ℕ → Bool
are_lent n work pivots question = eqb work (work_length n) && (eqb pivots n && eqb question (question_length n))

-- 2: a tolerance list not 1 or n long; 3: work, pivot, session or question length
unfoldable pub length_refusal : Lengths → ℕ → Entry
unfolding in_order
length_refusal l n = in_order none (
    when (not (is_list l.rtol n)) 2
    ∷ when (not (is_list l.atol n)) 2
    ∷ when (not (eqb l.work (work_length n))) 3
    ∷ when (not (eqb l.pivots n)) 3
    ∷ when (not (eqb l.session session_length)) 3
    ∷ when (not (eqb l.question (question_length n))) 3
    ∷ [])

-- 1: n above the largest number of states, before all that needs n
unfoldable pub size_refusal : Lengths → Entry
unfolding length_refusal
size_refusal l = cond (ltb max_states l.n) (plain 1) (length_refusal l l.n)

-- 4: a setting above 1,000,000
unfoldable pub large_refusal : Options → Entry
unfolding in_order
large_refusal o = in_order none (
    when (ltb 1000000 o.max_steps) 4
    ∷ when (ltb 1000000 o.mxordn) 4
    ∷ when (ltb 1000000 o.mxords) 4
    ∷ when (ltb 1000000 o.maxcor) 4
    ∷ when (ltb 1000000 o.msbp) 4
    ∷ when (ltb 1000000 o.mxncf) 4
    ∷ [])

-- 5: max_steps 0; 6: maxcor 0; 7: mxordn or mxords 0; 8: banded storage
unfoldable pub limit_refusal : Options → Entry
unfolding large_refusal in_order
limit_refusal o = in_order (large_refusal o) (
    when (eqb o.max_steps 0) 5
    ∷ when (eqb o.maxcor 0) 6
    ∷ when (eqb o.mxordn 0) 7
    ∷ when (eqb o.mxords 0) 7
    ∷ when (not (eqb o.banded 0)) 8
    ∷ [])

-- entry i of a list is below 0; a NaN is not
abbrev pub is_negative : List Float → ℕ → Bool
is_negative list i = cond (ltb i (length list)) (Ieee.lt (get_or list i nan) zero_f) false

-- 9 before 10 at each index; what was refused before stays
abbrev pub tolerance_at : List Float → List Float → ℕ → Entry → Entry
tolerance_at rtol atol i r =
    or_else r
    (cond (is_negative rtol i) (record { number = 9; index = i; value = zero_f })
    (cond (is_negative atol i) (record { number = 10; index = i; value = zero_f }) r))

unfoldable pub tolerance_refusal : ℕ → List Float → List Float → Entry
tolerance_refusal n rtol atol = for 0 n (tolerance_at rtol atol) none

-- 11: the first step, where one is given
unfoldable pub step_refusal : Float → Float → Options → Entry
step_refusal x0 xend o =
    cond (eqb o.has_first_step 0) none
    (cond (refused o.first_step (signum_of (xend ⊖ x0)))
    (record { number = 11; index = 0; value = o.first_step }) none)

unfoldable pub start_refusal_of : Float → Float → Options → Lengths → List Float → List Float → Entry
start_refusal_of x0 xend o l rtol atol =
    or_else (size_refusal l) (or_else (limit_refusal o)
    (or_else (tolerance_refusal l.n rtol atol) (step_refusal x0 xend o)))

-- ---- the settings of an accepted start

-- the largest step, the interval where none is given
unfoldable pub largest_of : Options → Float → Float
largest_of o difference = cond (eqb o.has_max_step 0) (abs_of difference) (abs_of o.max_step)

-- hmin
unfoldable pub smallest_of : Options → Float
smallest_of o = cond (eqb o.has_min_step 0) zero_f (abs_of o.min_step)

unfoldable pub inverse_of : Float → Float
inverse_of hmax = cond (Ieee.lt zero_f hmax) (one_f ⊘ hmax) zero_f

-- hmxi
unfoldable pub inverse_largest_of : Float → Float → Options → Float
inverse_largest_of x0 xend o = inverse_of (largest_of o (xend ⊖ x0))

unfoldable pub accepted_settings : Float → Float → Options → Lengths → Settings
accepted_settings x0 xend o l = record {
  n = l.n;
  xend = xend;
  direction = signum_of (xend ⊖ x0);
  maxsteps = o.max_steps;
  mxordn = o.mxordn;
  mxords = o.mxords;
  maxcor = o.maxcor;
  msbp = o.msbp;
  mxncf = o.mxncf;
  supplied = not (eqb o.supplied 0);
  given = not (eqb o.has_first_step 0);
  nrtol = l.rtol;
  natol = l.atol;
}

-- the first step where it is given
unfoldable pub given_step_of : Options → Float
given_step_of o = cond (eqb o.has_first_step 0) zero_f o.first_step

-- what a start that is not refused begins with
unfoldable pub accepted_of : Float → Float → Options → Lengths → Start
accepted_of x0 xend o l = record {
  settings = accepted_settings x0 xend o l;
  x0 = x0;
  h = given_step_of o;
  hmin = smallest_of o;
  hmxi = inverse_largest_of x0 xend o;
}
