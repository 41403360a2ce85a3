-- Condition 15 of a snapshot: under 6 numbers; n or nq not whole, n outside 0 to 64, nq outside 0 to 12.
-- A header is n, nq, t, h and two numbers more. -0.0 is whole, a NaN is not.
use Rattle.std.specs.Prelude.{true, cond, ◌≡◌, List, Option, Some, None, ℕ, ◌+◌, ◌≤◌, ltb, length, get_or, Float}
use Rattle.std.specs.Float.Ieee as Ieee
use Rattle.std.specs.Float.{nan}
use Rattle.loops.specs.For.{for}
use Rattle.numbers.specs.Float.{whole}
use Rattle.common.specs.Limits.{max_states}
use Rattle.interpolation.specs.declared.Sizes.{Sizes}

-- k, if the float equals it and none below it did
abbrev pub whole_count_at : Float → ℕ → Option ℕ → Option ℕ
whole_count_at x k (Some j) = Some j
whole_count_at x k None = cond (Ieee.eq x (whole k)) (Some k) None

-- the count up to limit that the float equals
unfoldable pub whole_count_of : Float → ℕ → Option ℕ
whole_count_of x limit = for 0 (limit + 1) (whole_count_at x) None

abbrev pub with_order : List Float → ℕ → Option ℕ → Option Sizes
with_order cont n None = None
with_order cont n (Some nq) = Some (record { n = n; nq = nq; tn = get_or cont 2 nan; h = get_or cont 3 nan })

abbrev pub with_states : List Float → Option ℕ → Option Sizes
with_states cont None = None
with_states cont (Some n) = with_order cont n (whole_count_of (get_or cont 1 nan) 12)

-- the sizes that a snapshot's header has, if it has any
unfoldable pub read_header_of : List Float → Option Sizes
read_header_of cont =
    cond (ltb (length cont) 6) None (with_states cont (whole_count_of (get_or cont 0 nan) max_states))

-- the opposite, of a snapshot and the sizes that are read from it: 15 is refused exactly where no sizes have it
-- (proofs/Counts.antt)
pub record Reads (cont : List Float) (z : Sizes) : Type 0 where
  pub long : 6 ≤ length cont
  pub states : (z.n ≤ max_states) × (Ieee.eq (get_or cont 0 nan) (whole z.n) ≡ true)
  pub order : (z.nq ≤ 12) × (Ieee.eq (get_or cont 1 nan) (whole z.nq) ≡ true)
  pub time : z.tn ≡ get_or cont 2 nan
  pub step : z.h ≡ get_or cont 3 nan
