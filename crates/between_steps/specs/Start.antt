-- The first weights and the first step, and what a state that the host gives does to the record and the work, as in
-- `solve`.
use Rattle.std.specs.Prelude.{true, cond, List, ℕ, Float}
use Rattle.std.specs.Float.Ieee as Ieee
use Rattle.loops.specs.Part.{put_part}
use Rattle.numbers.specs.Float.{◌⊖◌, ◌⊗◌, ◌⊘◌, zero_f, one_f}
use Rattle.numbers.specs.Sign.{abs_of}
use Rattle.numbers.specs.Order.{max_of}
use Rattle.vectors.specs.Weights.{invert_of}
use Rattle.vectors.specs.FirstStep.{initial_step_of}
use Rattle.common.specs.declared.Settings.{Settings}
use Rattle.common.specs.declared.Common.{Common}
use Rattle.common.specs.declared.MethodFamily.TheVariants.{Adams}
use Rattle.common.specs.Layout.{ewt_at, savf_at, y_at, column, ewt, savf}
use Rattle.common.specs.Record.{with_meth, with_setup, with_nq}
use Rattle.history.specs.Parts.{stored_of}

-- savf becomes the reply
abbrev pub with_derivative : ℕ → List Float → List Float → List Float
with_derivative n f work = stored_of (savf_at n) f work

abbrev pub inverted : ℕ → List Float → List Float
inverted n work = put_part (ewt_at n) n work (invert_of (ewt n work)).ewt

abbrev pub first_step_of : Settings → Common → List Float → List Float → List Float → Float
first_step_of s c rtol atol work =
    cond s.given c.h
    (initial_step_of c.tn s.xend (column s.n 0 work) (savf s.n work) (ewt s.n work) rtol atol)

-- within the largest step, the interval, and at least the smallest step
unfoldable pub first_size_of : Settings → Common → Float → Float
first_size_of s c h =
    let d = s.xend ⊖ c.tn in
    let h1 = cond (Ieee.ne c.hmxi zero_f) (h ⊘ max_of (abs_of h ⊗ c.hmxi) one_f) h in
    let h2 = cond (Ieee.lt (abs_of d) (abs_of h1)) d h1 in
    cond (Ieee.lt (abs_of h2) c.hmin) (c.hmin ⊗ s.direction) h2

-- the state as the host gives it, in y and in column 0
abbrev pub taken_of : ℕ → List Float → List Float → List Float
taken_of n y work = stored_of 0 y (stored_of (y_at n) y work)

-- order 1, Adams, and setup due
abbrev pub restart_of : Common → Common
restart_of c = with_setup true (with_nq 1 (with_meth Adams c))
