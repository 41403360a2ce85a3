-- Worked sums of the norms, the weights and the first step, by computation: sum (3) of document 01, weights of which
-- one is -0.0, and three first steps. The Rust's `initial_step_size` gives the same bits for these.
-- Assumes nothing.
use mathlib.Core.Path.{◌≡◌, refl}
use mathlib.Core.List.{[], ◌∷◌}
use mathlib.Core.Bool.{true}
use lib.Ieee.{Float, nan, of_bits, add, sub, mul, div, lt, le, ne}
use Rattle.loops.specs.For.{times}
use Rattle.loops.specs.Part.{part}
use Rattle.numbers.specs.Float.{lit, zero_f, one_f, d2, d0_5, d0_25, d1000, d1e_6}
use Rattle.numbers.specs.Sign.{abs_of, copysign_of}
use Rattle.numbers.specs.Order.{max_of, min_of, clamp_of}
use Rattle.sqrt.specs.Sqrt.{sqrt_of}
use Rattle.vectors.specs.Tolerance.{tolerance_of}
use Rattle.vectors.specs.Norm.{vmnorm_of, row_of, fnorm_of}
use Rattle.vectors.specs.Weights.{ewset_of, invert_of, weights_outcome}
use Rattle.vectors.specs.FirstStep.{largest_rtol_of, relative_of, tolerance_used_of, initial_step_of}
use Rattle.std.specs.Prelude.{Err}

abbrev d3 : Float
d3 = lit 0x4008_0000_0000_0000

abbrev d4 : Float
d4 = lit 0x4010_0000_0000_0000

abbrev d6 : Float
d6 = lit 0x4018_0000_0000_0000

abbrev minus_one : Float
minus_one = lit 0xbff0_0000_0000_0000

abbrev minus_zero : Float
minus_zero = lit 0x8000_0000_0000_0000

-- sum (3): the norm of (NaN, 3) with (1, 2)
pub sum-3 : vmnorm_of (nan ∷ d3 ∷ []) (one_f ∷ d2 ∷ []) ≡ record { value = d6 }
unfolding times vmnorm_of abs_of max_of lt ne mul of_bits
sum-3 = refl

-- the matrix of columns (1, 3), (2, 4) with weights 1, 0.5: row 0 gives (1/1 + 2/0.5)·1 = 5, row 1 gives
-- (3/1 + 4/0.5)·0.5 = 5.5
pub rows : fnorm_of 2 (one_f ∷ d3 ∷ d2 ∷ d4 ∷ []) (one_f ∷ d0_5 ∷ []) ≡ record { value = lit 0x4016_0000_0000_0000 }
unfolding times fnorm_of row_of abs_of max_of lt ne add mul div of_bits
rows = refl

-- y = (-4, NaN, 3), relative tolerances (0.5, 0.5, -0.0), absolute 0, 0, -0.0: weights 2, NaN, -0.0
abbrev minus_four : Float
minus_four = lit 0xc010_0000_0000_0000

pub weights :
    part 3 3 (ewset_of (d0_5 ∷ d0_5 ∷ minus_zero ∷ []) (zero_f ∷ zero_f ∷ minus_zero ∷ []) 3 3
    (minus_four ∷ nan ∷ d3 ∷ zero_f ∷ zero_f ∷ zero_f ∷ []))
    ≡ d2 ∷ nan ∷ minus_zero ∷ []
unfolding times ewset_of tolerance_of abs_of add mul of_bits
weights = refl

-- inverted: the NaN passes, the -0.0 is refused at index 2
pub refused : invert_of (d2 ∷ nan ∷ minus_zero ∷ [])
    ≡ record { ewt = d0_5 ∷ nan ∷ minus_zero ∷ []; refused = true; index = 2 }
unfolding times invert_of le div of_bits
refused = refl

pub answer : weights_outcome (invert_of (d2 ∷ nan ∷ minus_zero ∷ [])) ≡ Err (record { index = 2 })
unfolding times invert_of le div of_bits
answer = refl

-- from 0 to 2, y = (4, 0), f0 = (-1, 0.5), inverse weights 1000, 0.25, rtol 0, atol 1e-6: 0.0009999998750000235
pub step-relative :
    initial_step_of zero_f d2 (d4 ∷ zero_f ∷ []) (minus_one ∷ d0_5 ∷ []) (d1000 ∷ d0_25 ∷ []) (zero_f ∷ []) (d1e_6 ∷ [])
    ≡ lit 0x3f50_624d_b095_9298
unfolding times initial_step_of tolerance_used_of largest_rtol_of relative_of tolerance_of vmnorm_of abs_of max_of
    min_of clamp_of
    copysign_of sqrt_of lt le ne add sub mul div of_bits
step-relative = refl

-- the same from 1 to 0 with rtol 0.5, which is cut to 0.001: -0.022360679774997897
pub step_back :
    initial_step_of one_f zero_f (d4 ∷ zero_f ∷ []) (minus_one ∷ d0_5 ∷ []) (d1000 ∷ d0_25 ∷ []) (d0_5 ∷ [])
    (d1e_6 ∷ [])
    ≡ lit 0xbf96_e5b7_d166_57e1
unfolding times initial_step_of tolerance_used_of largest_rtol_of relative_of tolerance_of vmnorm_of abs_of max_of
    min_of clamp_of
    copysign_of sqrt_of lt le ne add sub mul div of_bits
step_back = refl

-- from 1 to 0.984375, y and f0 NaN, inverse weight 1, rtol 0.5, atol 0: the whole way, -0.015625
pub step-whole :
    initial_step_of one_f (lit 0x3fef_8000_0000_0000) (nan ∷ []) (nan ∷ []) (one_f ∷ []) (d0_5 ∷ []) (zero_f ∷ [])
    ≡ lit 0xbf90_0000_0000_0000
unfolding times initial_step_of tolerance_used_of largest_rtol_of relative_of tolerance_of vmnorm_of abs_of max_of
    min_of clamp_of
    copysign_of sqrt_of lt le ne add sub mul div of_bits
step-whole = refl
