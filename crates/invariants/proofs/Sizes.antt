-- Norms, table entries and first steps are floats of the format, whatever stands in the work.
-- Assumes nothing.
use mathlib.Core.Bool.{Bool, true, cond, ◌&&◌}
use mathlib.Core.List.{List, [], ◌∷◌}
use Prim.Native.Nat.{ℕ, zero, suc, zero-le, ◌+◌, ◌-◌, ◌*◌}
use lib.Dec.{T}
use lib.ListN.{length, get_or}
use lib.Ieee as Ieee
use lib.Ieee.{Float, nan, binary64, of_bits, fits}
use lib.Ieee.Fits.{and_l, and_r, nan-fits}
use Rattle.loops.proofs.For.{keeps}
use Rattle.loops.proofs.Test.{chosen}
use Rattle.numbers.specs.Float.{◌⊖◌, ◌⊗◌, ◌⊘◌, zero_f, one_f}
use Rattle.numbers.specs.Sign.{abs_of}
use Rattle.numbers.specs.Order.{max_of}
use Rattle.coefficients.specs.Cfode.{cfode_of}
use Rattle.coefficients.specs.Table.{elco_of}
use Rattle.vectors.specs.Norm.{norm_turn, vmnorm_of}
use Rattle.vectors.specs.FirstStep.{initial_step_of}
use Rattle.common.specs.declared.Settings.{Settings}
use Rattle.common.specs.declared.Common.{Common}
use Rattle.between_steps.specs.Start.{first_size_of}
use Rattle.session.proofs.Fits.{Fit}
use Rattle.invariants.proofs.Floats.{literal, difference, product, quotient, absolute, copysign}
use Rattle.invariants.proofs.Floats.{maximum, minimum}

-- a maximum of products, from 0
pub norm : (v w : List Float) → Fit (vmnorm_of v w).value
unfolding vmnorm_of
norm v w =
    keeps Fit (norm_turn v w) (length v) (λ k n h p. maximum n _ p (product _ _)) 0 zero_f zero-le (literal 0)

-- ---- the table of coefficients, by computation

all_fit : List Float → Bool
all_fit [] = true
all_fit (a ∷ l) = fits binary64 a && all_fit l

entry : (l : List Float) → T (all_fit l) → (i : ℕ) → Fit (get_or l i nan)
unfolding all_fit
entry [] t i = nan-fits binary64
entry (a ∷ l) t zero = and_l (fits binary64 a) (all_fit l) t
entry (a ∷ l) t (suc i) = entry l (and_r (fits binary64 a) (all_fit l) t) i

table : T (all_fit cfode_of)
unfolding all_fit fits cfode_of of_bits
table = tt

pub elco : (t q i : ℕ) → Fit (elco_of t q i)
unfolding elco_of
elco zero q i = literal 0
elco (suc t) q i = entry cfode_of table (192 * t + 13 * (q - 1) + i)

-- ---- the first step

pub initial-step : (t tout : Float) (y f0 w rtol atol : List Float) → Fit (initial_step_of t tout y f0 w rtol atol)
unfolding initial_step_of
initial-step t tout y f0 w rtol atol =
    copysign _ _ (minimum _ _ (quotient _ _) (absolute _ (difference tout t)))

pub first-size : (s : Settings) (c : Common) (h : Float) → Fit h → Fit (first_size_of s c h)
unfolding first_size_of
first-size s c h p =
    let d = s.xend ⊖ c.tn in
    let h1 = cond (Ieee.ne c.hmxi zero_f) (h ⊘ max_of (abs_of h ⊗ c.hmxi) one_f) h in
    let h2 = cond (Ieee.lt (abs_of d) (abs_of h1)) d h1 in
    chosen Fit (Ieee.lt (abs_of h2) c.hmin) (product c.hmin s.direction)
    (chosen Fit (Ieee.lt (abs_of d) (abs_of h1)) (difference s.xend c.tn)
    (chosen Fit (Ieee.ne c.hmxi zero_f) (quotient h _) p))
