-- Maximum, minimum and clamp as Rust's f64 has them: maximum and minimum ignore a NaN, clamp keeps it.
-- Of +0 and -0 the first is taken; Rust leaves that open.
use Rattle.std.specs.Prelude.{cond, Float}
use Rattle.std.specs.Float.Ieee as Ieee

unfoldable pub max_of : Float → Float → Float
max_of a b = cond (Ieee.lt a b) b (cond (Ieee.ne a a) b a)

unfoldable pub min_of : Float → Float → Float
min_of a b = cond (Ieee.lt b a) b (cond (Ieee.ne a a) b a)

abbrev pub least : Float → Float → Float
least x high = cond (Ieee.lt high x) high x

-- first low, then high, as Rust does
unfoldable pub clamp_of : Float → Float → Float → Float
clamp_of x low high = least (cond (Ieee.lt x low) low x) high
