-- What predict, retract, rescale and the correction make of the history (`stoda_get_predicted_values`, `retract_yh`,
-- `stoda_adjust_step_size` and the accepted step of `stoda`), on the one flat list: column j is the n numbers at j·n.
-- The vectors savf and acor stand where crate common's Layout says.
-- Floats round: that a retraction brings the columns back is not claimed, and is false.
use Rattle.std.specs.Prelude.{List, ℕ, ◌+◌, ◌-◌, ◌*◌, length, get_or, set, replicate, Float}
use Rattle.std.specs.Float.{nan}
use Rattle.loops.specs.For.{for}
use Rattle.loops.specs.Part.{part, put_part}
use Rattle.numbers.specs.Float.{◌⊕◌, ◌⊖◌, ◌⊗◌, one_f}
use Rattle.common.specs.declared.Settings.{Settings}
use Rattle.common.specs.declared.Common.{Common}
use Rattle.common.specs.Layout.{savf_at, acor_at}
use Rattle.common.specs.Rules.{el_of}

-- yh[i] = op yh[i] yh[i + n]
abbrev pub sweep_at : (Float → Float → Float) → ℕ → ℕ → List Float → List Float
sweep_at op n i yh = set yh i (op (get_or yh i nan) (get_or yh (i + n) nan))

abbrev pub sweep_of : (Float → Float → Float) → ℕ → ℕ → ℕ → List Float → List Float
sweep_of op n a e yh = for a e (sweep_at op n) yh

-- pass k begins k + 1 columns before nqnyh
abbrev pub pass_of : (Float → Float → Float) → ℕ → ℕ → ℕ → List Float → List Float
pass_of op n nqnyh k yh = sweep_of op n (nqnyh - (k + 1) * n) nqnyh yh

abbrev pub passes_of : (Float → Float → Float) → ℕ → ℕ → ℕ → List Float → List Float
passes_of op n nq nqnyh yh = for 0 nq (pass_of op n nqnyh) yh

-- yh[i] += yh[i + n]
abbrev pub add_at : ℕ → ℕ → List Float → List Float
add_at = sweep_at ◌⊕◌

abbrev pub add_range : ℕ → ℕ → ℕ → List Float → List Float
add_range = sweep_of ◌⊕◌

abbrev pub predict_pass : ℕ → ℕ → ℕ → List Float → List Float
predict_pass = pass_of ◌⊕◌

unfoldable pub predict_columns_of : ℕ → ℕ → ℕ → List Float → List Float
predict_columns_of = passes_of ◌⊕◌

-- yh[i] -= yh[i + n]
abbrev pub sub_at : ℕ → ℕ → List Float → List Float
sub_at = sweep_at ◌⊖◌

abbrev pub sub_range : ℕ → ℕ → ℕ → List Float → List Float
sub_range = sweep_of ◌⊖◌

abbrev pub retract_pass : ℕ → ℕ → ℕ → List Float → List Float
retract_pass = pass_of ◌⊖◌

unfoldable pub retract_columns_of : ℕ → ℕ → ℕ → List Float → List Float
retract_columns_of = passes_of ◌⊖◌

-- each number times r
abbrev pub times_at : Float → ℕ → List Float → List Float
times_at r i v = set v i (get_or v i nan ⊗ r)

abbrev pub times_of : Float → List Float → List Float
times_of r v = for 0 (length v) (times_at r) v

-- the n numbers at `at`, each times r
unfoldable pub scale_part_of : ℕ → ℕ → Float → List Float → List Float
scale_part_of n at r work = put_part at n work (times_of r (part at n work))

-- the power of rh so far, and the columns
pub record Rescaled : Type 0 where
  pub r : Float
  pub yh : List Float

abbrev pub rescale_at : ℕ → Float → ℕ → Rescaled → Rescaled
rescale_at n rh j s = record { r = s.r ⊗ rh; yh = scale_part_of n (j * n) (s.r ⊗ rh) s.yh }

unfoldable pub rescale_columns_of : ℕ → ℕ → Float → List Float → List Float
rescale_columns_of n l rh yh = (for 1 l (rescale_at n rh) (record { r = one_f; yh = yh })).yh

-- column j plus e times the vector at `at`
abbrev pub add_scaled_at : ℕ → ℕ → Float → ℕ → ℕ → List Float → List Float
add_scaled_at n j e at i work = set work (i + j * n) (get_or work (i + j * n) nan ⊕ e ⊗ get_or work (at + i) nan)

unfoldable pub add_scaled_of : ℕ → ℕ → Float → ℕ → List Float → List Float
add_scaled_of n j e at work = for 0 n (add_scaled_at n j e at) work

abbrev pub correct_at : Settings → Common → ℕ → List Float → List Float
correct_at s c j work = add_scaled_of s.n j (el_of s c j) (acor_at s.n) work

-- yh[j] += el[j]·acor, columns 0 to nq
unfoldable pub correct_columns_of : Settings → Common → List Float → List Float
correct_columns_of s c work = for 0 (c.nq + 1) (correct_at s c) work

abbrev pub copy_at : ℕ → ℕ → ℕ → List Float → List Float
copy_at to from i work = set work (to + i) (get_or work (from + i) nan)

unfoldable pub copy_of : ℕ → ℕ → ℕ → List Float → List Float
copy_of n to from work = for 0 n (copy_at to from) work

-- column 1 = h·savf
abbrev pub slope_at : ℕ → Float → ℕ → List Float → List Float
slope_at n h i work = set work (n + i) (h ⊗ get_or work (savf_at n + i) nan)

unfoldable pub slope_of : ℕ → Float → List Float → List Float
slope_of n h work = for 0 n (slope_at n h) work

-- the n numbers at `at` become x
unfoldable pub fill_of : ℕ → ℕ → Float → List Float → List Float
fill_of n at x work = put_part at n work (replicate n x)
