-- The sizes by which `stoda` chooses family and order after an accepted step, in the Rust's order of operations.
-- A power with exponent 1/k is our root of order k.
use Rattle.std.specs.Prelude.{cond, List, ℕ, ◌*◌, Float}
use Rattle.std.specs.Float.Ieee as Ieee
use Rattle.numbers.specs.Float.{◌⊕◌, ◌⊗◌, ◌⊘◌, one_f, d1e_5, d2}
use Rattle.numbers.specs.Order.{min_of}
use Rattle.root.specs.Root.{root_of}
use Rattle.coefficients.specs.Table.{sm1_of}
use Rattle.history.specs.Parts.{norm_at_of}

-- 1 / (a·d^(1/k) + b)
unfoldable pub size_of : Float → Float → Float → ℕ → Float
size_of a b d k = one_f ⊘ (a ⊗ (root_of d k).value ⊕ b)

abbrev pub column_size_of : ℕ → ℕ → List Float → Float
column_size_of n j work = (norm_at_of n (j * n) work).value

-- at most twice itself, or SM1 / pdh where the step times the Jacobian's norm counts
abbrev pub within_stability_of : Float → Float → ℕ → Float
within_stability_of rh pdh order = min_of rh (cond (Ieee.lt d1e_5 (pdh ⊗ rh)) (sm1_of order ⊘ pdh) (d2 ⊗ rh))
