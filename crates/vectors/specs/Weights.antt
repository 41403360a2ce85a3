-- `ewset`, `ewset_scalar_like` and `invert_weights`: the error weights, and their inverses, by which every norm
-- multiplies. A weight that is at most 0 is refused (12); a NaN is not.
-- That a weight or its inverse is finite is not claimed.
use Rattle.std.specs.Prelude.{List, Bool, true, false, cond, Result, Ok, Err, ℕ, ◌+◌, length, get_or, set, Float}
use Rattle.std.specs.Float.Ieee as Ieee
use Rattle.std.specs.Float.{nan}
use Rattle.loops.specs.For.{for}
use Rattle.numbers.specs.Float.{◌⊕◌, ◌⊗◌, ◌⊘◌, zero_f, one_f, uround}
use Rattle.numbers.specs.Sign.{abs_of}
use Rattle.numbers.specs.Order.{max_of}
use Rattle.vectors.specs.Tolerance.{tolerance_of}
use Rattle.vectors.specs.declared.NotPositive.{NotPositive}

-- y is the first n numbers of work, the weights stand from `at` on
abbrev pub ewset_at : List Float → List Float → ℕ → ℕ → List Float → List Float
ewset_at rtol atol at i work =
    set work (at + i) (tolerance_of rtol i ⊗ abs_of (get_or work i nan) ⊕ tolerance_of atol i)

unfoldable pub ewset_of : List Float → List Float → ℕ → ℕ → List Float → List Float
ewset_of rtol atol n at work = for 0 n (ewset_at rtol atol at) work

-- after a modified reply: max(|y|, 2^-52)
abbrev pub ewset_like_at : ℕ → ℕ → List Float → List Float
ewset_like_at at i work = set work (at + i) (max_of (abs_of (get_or work i nan)) uround)

unfoldable pub ewset_like_of : ℕ → ℕ → List Float → List Float
ewset_like_of n at work = for 0 n (ewset_like_at at) work

-- the weights so far, whether one was refused, and which
pub record Inversion : Type 0 where
  pub ewt : List Float
  pub refused : Bool
  pub index : ℕ

-- weight i, unless one before it was refused
abbrev pub invert_one : ℕ → Inversion → Inversion
invert_one i s =
    cond (Ieee.le (get_or s.ewt i nan) zero_f)
    (record { ewt = s.ewt; refused = true; index = i })
    (record { ewt = set s.ewt i (one_f ⊘ get_or s.ewt i nan); refused = false; index = 0 })

abbrev pub invert_at : ℕ → Inversion → Inversion
invert_at i s = cond s.refused s (invert_one i s)

unfoldable pub invert_of : List Float → Inversion
invert_of ewt = for 0 (length ewt) invert_at (record { ewt = ewt; refused = false; index = 0 })

abbrev pub weights_outcome : Inversion → Result Unit NotPositive
weights_outcome s = cond s.refused (Err (record { index = s.index })) (Ok tt)
