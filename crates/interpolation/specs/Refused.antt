-- What interpolation refuses, of any snapshot and output (01-scope, 'Limits and refusals'): a copy where their lengths
-- are equal comes first, then 15, 16 and 17, each exactly if its condition holds and none before it does.
-- `interpolate-refused` (proofs/Refused.antt).
use Rattle.std.specs.Prelude.{true, false, List, ◌⊎◌, ◌≢◌, ◌↔◌, ◌≡◌, ℕ, ◌+◌, ◌-◌, ◌*◌, ◌≤◌, ◌<◌, length, get_or, Float}
use Rattle.std.specs.Float.Ieee as Ieee
use Rattle.std.specs.Float.{nan}
use Rattle.numbers.specs.Float.{whole, zero_f}
use Rattle.common.specs.Limits.{max_states}
use Rattle.interpolation.specs.declared.Sizes.{Sizes}
use Rattle.interpolation.specs.Header.{Reads}
use Rattle.interpolation.specs.Evaluate.{outputs, interpolate_of}

-- 15: under 6 numbers; n, the first, is none of 0 to 64; nq, the second, is none of 0 to 12
abbrev pub Unreadable : List Float → Type 0
Unreadable cont =
    (length cont < 6)
    ⊎ ((k : ℕ) → k ≤ max_states → Ieee.eq (get_or cont 0 nan) (whole k) ≡ false)
    ⊎ ((k : ℕ) → k ≤ 12 → Ieee.eq (get_or cont 1 nan) (whole k) ≡ false)

-- 16: the output's length is not n
abbrev pub OutputOther : Sizes → List Float → Type 0
OutputOther z yi = length yi ≢ z.n

-- 17: the history, which follows the 6 numbers, is shorter than (nq + 1)·n, or h is zero
abbrev pub Unusable : Sizes → List Float → Type 0
Unusable z cont = (length cont - 6 < (z.nq + 1) * z.n) ⊎ (Ieee.eq z.h zero_f ≡ true)

pub record InterpolateRefused (xi : Float) (cont yi : List Float) : Type 0 where
  pub copies : length cont ≡ length yi → interpolate_of xi cont yi ≡ outputs 0 cont
  pub fifteen : ((interpolate_of xi cont yi).number ≡ 15) ↔ ((length cont ≢ length yi) × Unreadable cont)
  pub sixteen : ((interpolate_of xi cont yi).number ≡ 16)
      ↔ ((length cont ≢ length yi) × ((z : Sizes) × Reads cont z × OutputOther z yi))
  pub seventeen : ((interpolate_of xi cont yi).number ≡ 17)
      ↔ ((length cont ≢ length yi) × ((z : Sizes) × Reads cont z × (length yi ≡ z.n) × Unusable z cont))
  -- any other is done, and a refusal leaves the output
  pub others : ((interpolate_of xi cont yi).number ≡ 0) ⊎ ((interpolate_of xi cont yi).number ≡ 15)
      ⊎ ((interpolate_of xi cont yi).number ≡ 16) ⊎ ((interpolate_of xi cont yi).number ≡ 17)
  pub unchanged : (interpolate_of xi cont yi).number ≢ 0 → (interpolate_of xi cont yi).output ≡ yi
