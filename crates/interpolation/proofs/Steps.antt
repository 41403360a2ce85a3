-- Lemmas for the functions' attributes. Assumes nothing.
use mathlib.Core.Bool.{cond}
use mathlib.Core.List.{List}
use mathlib.Core.Path.{◌≡◌, refl}
use lib.Dec.{eqb}
use lib.ListN.{length}
use lib.Ieee.{Float}
use Rattle.std.proofs.lemmas.Grind.{common_steps}
use Rattle.std.proofs.lemmas.Bool.Decides.{nat_tests}
use Rattle.interpolation.specs.Header.{read_header_of}
use Rattle.interpolation.specs.Evaluate.{last_column_of, outputs, headed_of, interpolate_of}
use Rattle.interpolation.proofs.Laws.{copied-column}
use Rattle.interpolation.proofs.Counts.{count_within}

-- the counts of a header are within their limits
pub ruleset headers = (common_steps, nat_tests, count_within)

-- a copy where the lengths are equal, otherwise what the header gives
pub copy_or_pose : (xi : Float) (cont yi : List Float) → interpolate_of xi cont yi
    ≡ cond (eqb (length cont) (length yi)) (outputs 0 (last_column_of cont yi))
    (headed_of xi cont (read_header_of cont) yi)
unfolding interpolate_of
copy_or_pose xi cont yi = refl

pub ruleset poses = (common_steps, nat_tests, copied-column, copy_or_pose)
