-- Worked sums of the factoring and the solve, by computation: sums (4) and (5) of document 01, and a system of
-- three equations whose solve answers another one.
-- Assumes nothing.
use mathlib.Core.Path.{◌≡◌, refl, ap}
use mathlib.Core.List.{List, [], ◌∷◌, ◌++◌}
use mathlib.Core.Bool.{true, false}
use Prim.Native.Nat.{ℕ}
use native.Mathlib.Omega.{arith}
use lib.ListN.{get_or}
use lib.Ieee.{Float, nan, of_bits, add, sub, mul, div, neg, lt, eq}
use Rattle.loops.specs.For.{times}
use Rattle.numbers.specs.Float.{◌⊕◌, ◌⊗◌, lit, zero_f, one_f, d2, d5}
use Rattle.numbers.specs.Sign.{abs_of}
use Rattle.std.specs.Prelude.{Ok, Err}
use Rattle.dense.specs.Factor.{entry, Factors, pivot_of, swap_of, scale_of, column_of, eliminate_of, step_of, factor_of}
use Rattle.dense.specs.Solve.{less_of, forward_step_of, forward_all_of, backward_of, backward_step_of, solve_of}
use Rattle.dense.specs.Solve.{Solution, outcome_of}

abbrev d3 : Float
d3 = lit 0x4008_0000_0000_0000

abbrev minus_one_f : Float
minus_one_f = lit 0xbff0_0000_0000_0000

abbrev factored : List Float → List ℕ → Factors
factored a ipiv = record { a = a; ipiv = ipiv; ok = true }

abbrev refused : List Float → List ℕ → Factors
refused a ipiv = record { a = a; ipiv = ipiv; ok = false }

abbrev solved : List Float → Solution
solved work = record { work = work; ok = true }

pub answers : (outcome_of true ≡ Ok tt) × (outcome_of false ≡ Err (record {}))
answers = (refl, refl)

-- sum (4): columns (0, 2), (1, 3), whatever stood in the pivots
pub sum-4-factored : (p q : ℕ) → factor_of 2 (zero_f ∷ d2 ∷ one_f ∷ d3 ∷ []) (p ∷ q ∷ [])
    ≡ factored (d2 ∷ zero_f ∷ d3 ∷ one_f ∷ []) (1 ∷ 1 ∷ [])
unfolding times factor_of step_of pivot_of swap_of scale_of column_of eliminate_of abs_of lt eq neg sub mul div of_bits
sum-4-factored p q = refl

-- the right side at 0, the factors after it
pub sum-4-solved : solve_of 2 2 (1 ∷ 1 ∷ []) 0 (one_f ∷ d5 ∷ d2 ∷ zero_f ∷ d3 ∷ one_f ∷ [])
    ≡ solved (one_f ∷ one_f ∷ d2 ∷ zero_f ∷ d3 ∷ one_f ∷ [])
unfolding times solve_of forward_all_of forward_step_of less_of backward_step_of backward_of eq neg sub mul div of_bits
sum-4-solved = refl

-- sum (5): zero is refused, with nothing changed; NaN passes
pub sum-5-zero : (ipiv : List ℕ) → factor_of 1 (zero_f ∷ []) ipiv ≡ refused (zero_f ∷ []) ipiv
unfolding times factor_of step_of pivot_of abs_of eq of_bits
sum-5-zero ipiv = refl

pub sum-5-nan : (p : ℕ) → factor_of 1 (nan ∷ []) (p ∷ []) ≡ factored (nan ∷ []) (0 ∷ [])
unfolding times factor_of step_of pivot_of scale_of eliminate_of abs_of eq of_bits
sum-5-nan p = refl

-- the columns of A; its rows are (1, 0, 0), (0, 0, 1), (1, 1, 0)
abbrev matrix : List Float
matrix = one_f ∷ zero_f ∷ one_f ∷ zero_f ∷ zero_f ∷ one_f ∷ zero_f ∷ one_f ∷ zero_f ∷ []

abbrev right : List Float
right = one_f ∷ zero_f ∷ zero_f ∷ []

abbrev answer : List Float
answer = one_f ∷ zero_f ∷ minus_one_f ∷ []

abbrev truth : List Float
truth = one_f ∷ minus_one_f ∷ zero_f ∷ []

-- row i of A·x for three columns; with the whole numbers here no operation rounds
abbrev row_times : List Float → List Float → ℕ → Float
row_times a x i = entry 3 a i 0 ⊗ get_or x 0 nan ⊕ entry 3 a i 1 ⊗ get_or x 1 nan ⊕ entry 3 a i 2 ⊗ get_or x 2 nan

abbrev product : List Float → List Float → List Float
product a x = row_times a x 0 ∷ row_times a x 1 ∷ row_times a x 2 ∷ []

-- its factors
abbrev factors : List Float
factors = one_f ∷ one_f ∷ zero_f ∷ zero_f ∷ one_f ∷ zero_f ∷ zero_f ∷ zero_f ∷ one_f ∷ []

three-factored : (p q r : ℕ) → factor_of 3 matrix (p ∷ q ∷ r ∷ []) ≡ factored factors (0 ∷ 2 ∷ 2 ∷ [])
unfolding times factor_of step_of pivot_of swap_of scale_of column_of eliminate_of abs_of lt eq neg sub mul div of_bits
three-factored p q r = refl

three-solved : solve_of 3 3 (0 ∷ 2 ∷ 2 ∷ []) 0 (right ++ factors) ≡ solved (answer ++ factors)
unfolding times solve_of forward_all_of forward_step_of less_of backward_step_of backward_of eq neg sub mul div of_bits
three-solved = refl

-- A system that the solve does not answer, with as few entries other than 0 as there can be: factored and solved,
-- A·x = (1, 0, 0) gives x = (1, 0, -1), for which A·x is (1, -1, 1). The solution is (1, -1, 0).
-- Step 1 of the factoring exchanges the multipliers 0 and 1 of column 0; the solve uses them before its exchange.
pub another-system : (p q r : ℕ) → let f = factor_of 3 matrix (p ∷ q ∷ r ∷ []) in
    (solve_of 3 3 f.ipiv 0 (right ++ f.a) ≡ solved (answer ++ f.a))
    × (product matrix answer ≡ one_f ∷ minus_one_f ∷ one_f ∷ [])
    × (product matrix answer ≡ right → ⊥)
    × (product matrix truth ≡ right)
unfolding add mul eq of_bits
another-system p q r = (
  rw (three-factored p q r) three-solved,
  refl,
  (λ e. let z : ◌≡◌ {A = ℕ} 0 1 = cc (ap (λ l. eq (get_or l 1 nan) zero_f) e) in omega arith),
  refl,
)
