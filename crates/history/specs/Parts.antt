-- The norm of a part of the work by the weights that stand there, and a part replaced.
use Rattle.std.specs.Prelude.{List, ℕ, length, Float}
use Rattle.loops.specs.Part.{part, put_part}
use Rattle.vectors.specs.declared.Norm.{Norm}
use Rattle.vectors.specs.Norm.{vmnorm_of}
use Rattle.common.specs.Layout.{ewt}

-- `vmnorm` of the n numbers at `at`
abbrev pub norm_at_of : ℕ → ℕ → List Float → Norm
norm_at_of n at work = vmnorm_of (part at n work) (ewt n work)

-- the numbers at `at` become those of f
abbrev pub stored_of : ℕ → List Float → List Float → List Float
stored_of at f work = put_part at (length f) work f
