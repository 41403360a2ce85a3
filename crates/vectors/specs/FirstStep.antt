-- `initial_step_size`: the first step from the derivative's size at the start, in the Rust's order of operations.
-- The tolerance is the largest relative one or, where that is 0, the largest absolute one relative to its state.
-- That the step suits the problem is not claimed: it may be 0 or a NaN, which 11 refuses.
use Rattle.std.specs.Prelude.{List, cond, ℕ, length, get_or, Float}
use Rattle.std.specs.Float.Ieee as Ieee
use Rattle.std.specs.Float.{nan}
use Rattle.loops.specs.For.{for}
use Rattle.numbers.specs.Float.{◌⊕◌, ◌⊖◌, ◌⊗◌, ◌⊘◌, zero_f, one_f, uround, d100, d1e_3}
use Rattle.numbers.specs.Sign.{abs_of, copysign_of}
use Rattle.numbers.specs.Order.{max_of, min_of, clamp_of}
use Rattle.sqrt.specs.Sqrt.{sqrt_of}
use Rattle.vectors.specs.Tolerance.{tolerance_of}
use Rattle.vectors.specs.Norm.{vmnorm_of}

abbrev pub largest_rtol_at : List Float → ℕ → Float → Float
largest_rtol_at rtol i tol = max_of tol (tolerance_of rtol i)

unfoldable pub largest_rtol_of : List Float → ℕ → Float
largest_rtol_of rtol n = for 0 n (largest_rtol_at rtol) zero_f

-- the absolute tolerance of state i relative to it; a state that is 0 has none
abbrev pub relative_at : List Float → List Float → ℕ → Float → Float
relative_at atol y i tol =
    cond (Ieee.ne (get_or y i nan) zero_f) (max_of tol (tolerance_of atol i ⊘ abs_of (get_or y i nan))) tol

unfoldable pub relative_of : List Float → List Float → Float → Float
relative_of atol y tol = for 0 (length y) (relative_at atol y) tol

unfoldable pub tolerance_used_of : List Float → List Float → List Float → Float
tolerance_used_of rtol atol y =
    let tol = largest_rtol_of rtol (length y) in
    clamp_of (cond (Ieee.le tol zero_f) (relative_of atol y tol) tol) (d100 ⊗ uround) d1e_3

unfoldable pub initial_step_of : Float → Float → List Float → List Float → List Float → List Float → List Float → Float
initial_step_of t tout y f0 w rtol atol =
    let tdist = abs_of (tout ⊖ t) in
    let w0 = max_of (abs_of t) (abs_of tout) in
    let tol = tolerance_used_of rtol atol y in
    let norm = (vmnorm_of f0 w).value in
    let sum = one_f ⊘ (tol ⊗ w0 ⊗ w0) ⊕ tol ⊗ norm ⊗ norm in
    copysign_of (min_of (one_f ⊘ sqrt_of sum) tdist) (tout ⊖ t)
