-- One corrector iteration of each family, as in `stoda_corrector_loop`: what becomes of savf, acor and y, and the size
-- del of the correction. The vectors stand in work as crate common's Layout says; el[0] is that of the order in force.
-- That iterations come nearer to a solution is not claimed: what is weighed is the size of a correction.
use Rattle.std.specs.Prelude.{Bool, true, false, cond, Result, is_ok, List, ℕ, ◌+◌, get_or, set, Float}
use Rattle.std.specs.Result.{result_unwrap_or}
use Rattle.std.specs.Float.{nan}
use Rattle.loops.specs.For.{for}
use Rattle.numbers.specs.Float.{◌⊕◌, ◌⊖◌, ◌⊗◌, zero_f}
use Rattle.dense.specs.declared.Singular.{Singular}
use Rattle.dense.specs.Solve.{Solution, solve_of}
use Rattle.common.specs.declared.Settings.{Settings}
use Rattle.common.specs.declared.Common.{Common}
use Rattle.common.specs.declared.MethodFamily.{MethodFamily}
use Rattle.common.specs.declared.MethodFamily.TheVariants.{Adams, Bdf}
use Rattle.common.specs.Layout.{savf_at, acor_at, y_at, matrix_at}
use Rattle.common.specs.Record.{with_m, with_rate, with_delp}
use Rattle.common.specs.Rules.{el_of}
use Rattle.history.specs.Parts.{norm_at_of}

-- a pass's iterations begin
unfoldable pub open_of : Common → Common
open_of c = with_m 0 (with_rate zero_f (with_delp zero_f c))

-- savf = h·savf - column 1; y = savf - acor
abbrev pub adams_residual_at : ℕ → Float → ℕ → List Float → List Float
adams_residual_at n h i work =
    let w = set work (savf_at n + i) (h ⊗ get_or work (savf_at n + i) nan ⊖ get_or work (n + i) nan) in
    set w (y_at n + i) (get_or w (savf_at n + i) nan ⊖ get_or w (acor_at n + i) nan)

unfoldable pub adams_residual_of : ℕ → Float → List Float → List Float
adams_residual_of n h work = for 0 n (adams_residual_at n h) work

-- y = column 0 + el0·savf; acor = savf
abbrev pub adams_update_at : ℕ → Float → ℕ → List Float → List Float
adams_update_at n e i work =
    let w = set work (y_at n + i) (get_or work i nan ⊕ e ⊗ get_or work (savf_at n + i) nan) in
    set w (acor_at n + i) (get_or w (savf_at n + i) nan)

unfoldable pub adams_update_of : ℕ → Float → List Float → List Float
adams_update_of n e work = for 0 n (adams_update_at n e) work

-- y = h·savf - (column 1 + acor)
abbrev pub bdf_residual_at : ℕ → Float → ℕ → List Float → List Float
bdf_residual_at n h i work =
    set work (y_at n + i)
    (h ⊗ get_or work (savf_at n + i) nan ⊖ (get_or work (n + i) nan ⊕ get_or work (acor_at n + i) nan))

unfoldable pub bdf_residual_of : ℕ → Float → List Float → List Float
bdf_residual_of n h work = for 0 n (bdf_residual_at n h) work

-- acor += y; y = column 0 + el0·acor
abbrev pub bdf_update_at : ℕ → Float → ℕ → List Float → List Float
bdf_update_at n e i work =
    let w = set work (acor_at n + i) (get_or work (acor_at n + i) nan ⊕ get_or work (y_at n + i) nan) in
    set w (y_at n + i) (get_or w i nan ⊕ e ⊗ get_or w (acor_at n + i) nan)

unfoldable pub bdf_update_of : ℕ → Float → List Float → List Float
bdf_update_of n e work = for 0 n (bdf_update_at n e) work

-- what an iteration answers: whether the linear system was solved, and the size of the correction, +0 where it was not
pub record Correction : Type 0 where
  pub solved : Bool
  pub del : Float

abbrev pub correction_of : Result Float Singular → Correction
correction_of x = record { solved = is_ok x; del = result_unwrap_or x zero_f }

-- whether the linear system was solved, the size of the correction, and what is left
pub record Corrected : Type 0 where
  pub solved : Bool
  pub del : Float
  pub work : List Float

abbrev pub size_of_y : ℕ → List Float → Float
size_of_y n work = (norm_at_of n (y_at n) work).value

unfoldable pub adams_of : Settings → Common → List Float → Corrected
adams_of s c work =
    let w = adams_residual_of s.n c.h work in
    record { solved = true; del = size_of_y s.n w; work = adams_update_of s.n (el_of s c 0) w }

abbrev pub bdf_solved_of : Settings → Common → Solution → Corrected
bdf_solved_of s c x =
    cond x.ok
    (record { solved = true; del = size_of_y s.n x.work; work = bdf_update_of s.n (el_of s c 0) x.work })
    (record { solved = false; del = zero_f; work = x.work })

unfoldable pub bdf_of : Settings → Common → List ℕ → List Float → Corrected
bdf_of s c ipiv work =
    let n = s.n in
    bdf_solved_of s c (solve_of n (matrix_at n) ipiv (y_at n) (bdf_residual_of n c.h work))

abbrev pub correct_in : MethodFamily → Settings → Common → List ℕ → List Float → Corrected
correct_in Adams s c ipiv work = adams_of s c work
correct_in Bdf s c ipiv work = bdf_of s c ipiv work

unfoldable pub correct_of : Settings → Common → List ℕ → List Float → Corrected
correct_of s c ipiv work = correct_in c.meth s c ipiv work
