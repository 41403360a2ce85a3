-- The norms, weights, first step, factoring and solving at every argument: what they give where the sizes serve, and
-- otherwise a NaN, or the number 2 and everything as it was. Matrices have at most 64 columns.
use Rattle.std.specs.Prelude.{Bool, cond, ◌&&◌, ◌||◌, List, ℕ, ◌+◌, ◌-◌, ◌*◌, eqb, leb, ltb, length, take, Float}
use Rattle.std.specs.List.{list_all}
use Rattle.std.specs.Float.{nan}
use Rattle.common.specs.Limits.{max_states}
use Rattle.std.specs.Prelude.{Result, Ok, Err}
use Rattle.vectors.specs.declared.NotPositive.{NotPositive}
use Rattle.vectors.specs.Norm.{vmnorm_of, fnorm_of}
use Rattle.vectors.specs.Weights.{ewset_of, ewset_like_of}
use Rattle.vectors.specs.FirstStep.{initial_step_of}
use Rattle.dense.specs.declared.Singular.{Singular}
use Rattle.dense.specs.Factor.{factor_of}
use Rattle.dense.specs.Solve.{solve_of, outcome_of}

-- n·n numbers of a matrix and n of a vector, of the lengths given
unfoldable pub is_matrix : ℕ → ℕ → ℕ → Bool
is_matrix n matrix vector = leb n max_states && (leb (n * n) matrix && leb n vector)

-- a tolerance list for n states
unfoldable pub is_tolerance_list : ℕ → ℕ → Bool
is_tolerance_list n len = leb 1 n && (eqb len 1 || eqb len n)

-- n numbers at a place behind the first n
unfoldable pub is_behind : ℕ → ℕ → ℕ → Bool
is_behind n at len = leb n at && leb (at + n) len

unfoldable pub is_weighed : ℕ → ℕ → ℕ → ℕ → ℕ → Bool
is_weighed n rtol atol at len = is_tolerance_list n rtol && (is_tolerance_list n atol && is_behind n at len)

-- a right side at b, a matrix at a behind it, and n pivots
unfoldable pub is_system : ℕ → ℕ → ℕ → ℕ → ℕ → Bool
is_system n a b len pivots = leb a len && (is_matrix n (len - a) pivots && leb (b + n) a)

-- each of the first n pivots is below n
unfoldable pub are_pivots : ℕ → List ℕ → Bool
are_pivots n ipiv = list_all (λ p. ltb p n) (take n ipiv)

-- the number returned, and the numbers lent
pub record WorkLeft : Type 0 where
  pub number : ℕ
  pub work : List Float

abbrev pub work_left : ℕ → List Float → WorkLeft
work_left k work = record { number = k; work = work }

unfoldable pub vmnorm_or_nan : List Float → List Float → Float
vmnorm_or_nan v w = cond (leb (length v) (length w)) (vmnorm_of v w).value nan

unfoldable pub fnorm_or_nan : ℕ → List Float → List Float → Float
fnorm_or_nan n a w = cond (is_matrix n (length a) (length w)) (fnorm_of n a w).value nan

unfoldable pub ewset_left : List Float → List Float → ℕ → ℕ → List Float → WorkLeft
ewset_left rtol atol n at work =
    cond (is_weighed n (length rtol) (length atol) at (length work)) (work_left 0 (ewset_of rtol atol n at work))
    (work_left 2 work)

unfoldable pub ewset_like_left : ℕ → ℕ → List Float → WorkLeft
ewset_like_left n at work =
    cond (is_behind n at (length work)) (work_left 0 (ewset_like_of n at work)) (work_left 2 work)

-- the index refused, or the number of weights
abbrev pub index_of : ℕ → Result Unit NotPositive → ℕ
index_of count (Ok u) = count
index_of count (Err e) = e.index

unfoldable pub initial_step_or_nan : Float → Float → List Float → List Float → List Float → List Float → List Float
    → Float
initial_step_or_nan t tout y f0 w rtol atol =
    let n = length y in
    cond (leb (length f0) (length w) && (is_tolerance_list n (length rtol) && is_tolerance_list n (length atol)))
    (initial_step_of t tout y f0 w rtol atol)
    nan

abbrev pub outcome_number : Result Unit Singular → ℕ
outcome_number (Ok u) = 0
outcome_number (Err e) = 1

-- the number returned, the matrix and the pivots
pub record FactorsLeft : Type 0 where
  pub number : ℕ
  pub a : List Float
  pub ipiv : List ℕ

unfoldable pub factor_left : ℕ → List Float → List ℕ → FactorsLeft
factor_left n a ipiv =
    let f = factor_of n a ipiv in
    cond (is_matrix n (length a) (length ipiv))
    (record { number = outcome_number (outcome_of f.ok); a = f.a; ipiv = f.ipiv })
    (record { number = 2; a = a; ipiv = ipiv })

unfoldable pub solve_left : ℕ → ℕ → List ℕ → ℕ → List Float → WorkLeft
solve_left n a ipiv b work =
    let s = solve_of n a ipiv b work in
    cond (is_system n a b (length work) (length ipiv) && are_pivots n ipiv)
    (work_left (outcome_number (outcome_of s.ok)) s.work)
    (work_left 2 work)
