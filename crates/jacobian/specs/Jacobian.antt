-- `prja` and what `stoda_corrector_loop` stores after it: the matrix -h·el0·J, by differences or from the host, its
-- norm, the identity added, its factors. The Rust's y_fd stands in work; r0 and an increment are computed anew where
-- they are used, from what no column changes: savf, the weights and y.
-- How near a difference column is to the derivative is not claimed, nor that a matrix that factors is well conditioned.
use Rattle.std.specs.Prelude.{Bool, true, false, cond, ◌&&◌, List, ℕ, ◌+◌, ◌*◌, length, get_or, set, Float}
use Rattle.std.specs.Float.Ieee as Ieee
use Rattle.std.specs.Float.{nan}
use Rattle.loops.specs.For.{for}
use Rattle.loops.specs.Part.{part, put_part}
use Rattle.numbers.specs.Float.{◌⊕◌, ◌⊖◌, ◌⊗◌, ◌⊘◌, whole, zero_f, one_f, uround, srur, d0_7, d1000}
use Rattle.numbers.specs.Sign.{abs_of}
use Rattle.numbers.specs.Order.{max_of}
use Rattle.vectors.specs.Norm.{fnorm_of}
use Rattle.dense.specs.Factor.{Factors, factor_of}
use Rattle.common.specs.declared.Settings.{Settings}
use Rattle.common.specs.declared.Common.{Common}
use Rattle.common.specs.Layout.{ewt, matrix, ewt_at, savf_at, ftem_at, y_at, yfd_at, matrix_at}
use Rattle.common.specs.Record.{is_bdf, with_nje, with_jcur, with_due, with_pdnorm, with_rc, with_nslp, with_convrate}
use Rattle.common.specs.Record.{with_nlu}
use Rattle.history.specs.Parts.{norm_at_of}

-- the host's Jacobian, in the second family alone
abbrev pub is_supplied : Settings → Common → Bool
is_supplied s c = is_bdf c.meth && s.supplied

-- a Jacobian begins
unfoldable pub begin_of : Common → Common
begin_of c = with_nje (c.nje + 1) (with_jcur true (with_due false c))

-- h·el0, negated
abbrev pub minus_hl0 : Common → Float
minus_hl0 c = Ieee.neg (c.h ⊗ c.el0)

abbrev pub or_one : Float → Float
or_one r = cond (Ieee.eq r zero_f) one_f r

unfoldable pub r0_of : Settings → Common → List Float → Float
r0_of s c work =
    or_one (d1000 ⊗ abs_of c.h ⊗ uround ⊗ whole s.n ⊗ (norm_at_of s.n (savf_at s.n) work).value)

-- max(√uround·|y_j|, r0 / ewt_j)
unfoldable pub increment_of : Settings → Common → List Float → ℕ → Float
increment_of s c work j =
    max_of (srur ⊗ abs_of (get_or work (y_at s.n + j) nan)) (r0_of s c work ⊘ get_or work (ewt_at s.n + j) nan)

unfoldable pub perturb_of : Settings → Common → ℕ → List Float → List Float
perturb_of s c j work = set work (yfd_at s.n + j) (get_or work (y_at s.n + j) nan ⊕ increment_of s c work j)

abbrev pub difference_at : ℕ → ℕ → Float → ℕ → List Float → List Float
difference_at n j fac i work =
    set work (matrix_at n + (i + j * n)) ((get_or work (ftem_at n + i) nan ⊖ get_or work (savf_at n + i) nan) ⊗ fac)

-- column j: (ftem - savf)·fac
unfoldable pub difference_of : ℕ → ℕ → Float → List Float → List Float
difference_of n j fac work = for 0 n (difference_at n j fac) work

-- column j stored, and y_fd put back to y there
unfoldable pub restore_of : Settings → Common → ℕ → List Float → List Float
restore_of s c j work =
    let w = difference_of s.n j (minus_hl0 c ⊘ increment_of s c work j) work in
    set w (yfd_at s.n + j) (get_or w (y_at s.n + j) nan)

abbrev pub scaled_at : Float → List Float → ℕ → List Float → List Float
scaled_at scale jac i a = set a i (scale ⊗ get_or jac i nan)

unfoldable pub scaled_of : Float → List Float → List Float → List Float
scaled_of scale jac a = for 0 (length jac) (scaled_at scale jac) a

-- the host's Jacobian, column by column, scaled into the matrix
abbrev pub supplied_of : Settings → Common → List Float → List Float → List Float
supplied_of s c jac work =
    put_part (matrix_at s.n) (length jac) work (scaled_of (minus_hl0 c) jac (part (matrix_at s.n) (length jac) work))

abbrev pub identity_at : ℕ → ℕ → List Float → List Float
identity_at n i a = set a (i + i * n) (get_or a (i + i * n) nan ⊕ one_f)

unfoldable pub identity_of : ℕ → List Float → List Float
identity_of n a = for 0 n (identity_at n) a

-- whether the factoring went through, and what is left
pub record Factored : Type 0 where
  pub done : Bool
  pub common : Common
  pub work : List Float
  pub ipiv : List ℕ

abbrev pub identity_factors_of : ℕ → List Float → List ℕ → Factors
identity_factors_of n a ipiv = factor_of n (identity_of n a) ipiv

-- the Jacobian in force: rc is 1 again, and convergence is to be seen anew
abbrev pub in_force : Common → Float → Bool → Common
in_force c norm done =
    with_pdnorm (norm ⊘ abs_of (c.h ⊗ c.el0))
    (with_rc one_f (with_nslp c.nst (with_convrate d0_7 (with_nlu (cond done (c.nlu + 1) c.nlu) c))))

unfoldable pub finish_jacobian_of : Settings → Common → List Float → List ℕ → Factored
finish_jacobian_of s c work ipiv =
    let n = s.n in
    let f = identity_factors_of n (matrix n work) ipiv in
    record {
      done = f.ok;
      common = in_force c (fnorm_of n (matrix n work) (ewt n work)).value f.ok;
      work = put_part (matrix_at n) (n * n) work f.a;
      ipiv = f.ipiv;
    }
