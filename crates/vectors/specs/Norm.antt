-- `vmnorm` and `fnorm_dense`: the largest |v|·w, and the matrix norm that belongs to it, both from +0 and by a maximum
-- that ignores a NaN. Entry (i, j) of the matrix stands at i + j·n. That a row's sum is near the real one is not
-- claimed.
use Rattle.std.specs.Prelude.{List, ℕ, ◌+◌, ◌*◌, length, get_or, Float}
use Rattle.std.specs.Float.{nan}
use Rattle.loops.specs.For.{for}
use Rattle.numbers.specs.Float.{◌⊕◌, ◌⊗◌, ◌⊘◌, zero_f}
use Rattle.numbers.specs.Sign.{abs_of}
use Rattle.numbers.specs.Order.{max_of}
use Rattle.vectors.specs.declared.Norm.{Norm}

abbrev pub entry_of : List Float → List Float → ℕ → Float
entry_of v w i = abs_of (get_or v i nan) ⊗ get_or w i nan

abbrev pub norm_turn : List Float → List Float → ℕ → Float → Float
norm_turn v w i norm = max_of norm (entry_of v w i)

unfoldable pub vmnorm_of : List Float → List Float → Norm
vmnorm_of v w = record { value = for 0 (length v) (norm_turn v w) zero_f }

-- row i: the sum of |a_ij| / w_j
abbrev pub row_at : ℕ → List Float → List Float → ℕ → ℕ → Float → Float
row_at n a w i j sum = sum ⊕ abs_of (get_or a (i + j * n) nan) ⊘ get_or w j nan

unfoldable pub row_of : ℕ → List Float → List Float → ℕ → Float
row_of n a w i = for 0 n (row_at n a w i) zero_f

abbrev pub fnorm_turn : ℕ → List Float → List Float → ℕ → Float → Float
fnorm_turn n a w i an = max_of an (row_of n a w i ⊗ get_or w i nan)

unfoldable pub fnorm_of : ℕ → List Float → List Float → Norm
fnorm_of n a w = record { value = for 0 n (fnorm_turn n a w) zero_f }
