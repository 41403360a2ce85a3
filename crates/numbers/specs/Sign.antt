-- The sign of a float, as Rust's `abs`, `is_sign_negative`, `signum` and `copysign` see it: zeros have one.
-- A NaN has none: it counts as positive. The sign bit that a NaN has in Rust is not spoken of.
use Rattle.std.specs.Prelude.{Bool, false, ◌||◌, pos, Float}
use Rattle.std.specs.Float.Ieee as Ieee
use Rattle.std.specs.Float.{nan, inf, fin}
use Rattle.numbers.specs.Float.{zero_f}

-- |x|
unfoldable pub abs_of : Float → Float
abs_of nan = nan
abs_of (inf s) = inf false
abs_of (fin s m e) = fin false m e

unfoldable pub negative : Float → Bool
negative nan = false
negative (inf s) = s
negative (fin s m e) = s

-- 1 with the sign of x
unfoldable pub signum_of : Float → Float
signum_of nan = nan
signum_of (inf s) = fin s 1 (pos 0)
signum_of (fin s m e) = fin s 1 (pos 0)

-- x with the sign of y
unfoldable pub copysign_of : Float → Float → Float
unfolding negative
copysign_of nan y = nan
copysign_of (inf s) y = inf (negative y)
copysign_of (fin s m e) y = fin (negative y) m e

-- condition 11 of a step size h: zero, a NaN, or of another `signum` than the direction, which has none if it is a NaN
unfoldable pub refused : Float → Float → Bool
unfolding signum_of
refused h direction = Ieee.eq h zero_f || Ieee.ne (signum_of h) direction
