-- `dense_lu_factor` on a matrix of n columns of n numbers, the entry in row i of column j at i + j·n: the first
-- largest pivot of each column, whole rows exchanged (the multipliers already stored included), a column refused
-- only if its pivot is 0. How near its factors' product comes to the matrix is not claimed.
use Rattle.std.specs.Prelude.{List, Bool, true, false, cond, ℕ, ◌+◌, ◌*◌, eqb, get_or, set, Float}
use Rattle.std.specs.Float.Ieee as Ieee
use Rattle.std.specs.Float.{nan}
use Rattle.loops.specs.For.{for}
use Rattle.numbers.specs.Float.{◌⊖◌, ◌⊗◌, ◌⊘◌, zero_f}
use Rattle.numbers.specs.Sign.{abs_of}
use Rattle.dense.specs.declared.Pivot.{Pivot}

abbrev pub entry : ℕ → List Float → ℕ → ℕ → Float
entry n a i j = get_or a (i + j * n) nan

-- row i of column k takes over where it is larger than what was found
abbrev pub pick_row : ℕ → ℕ → List Float → ℕ → Pivot → Pivot
pick_row n k a i s =
    cond (Ieee.lt s.value (abs_of (entry n a i k))) (record { row = i; value = abs_of (entry n a i k) }) s

unfoldable pub pivot_of : ℕ → ℕ → List Float → Pivot
pivot_of n k a = for (k + 1) n (pick_row n k a) (record { row = k; value = abs_of (entry n a k k) })

abbrev pub swap_at : ℕ → ℕ → ℕ → ℕ → List Float → List Float
swap_at n k p j a = set (set a (k + j * n) (entry n a p j)) (p + j * n) (entry n a k j)

unfoldable pub swap_of : ℕ → ℕ → ℕ → List Float → List Float
swap_of n k p a = for 0 n (swap_at n k p) a

abbrev pub exchange_of : ℕ → ℕ → ℕ → List Float → List Float
exchange_of n k p a = cond (eqb p k) a (swap_of n k p a)

abbrev pub scale_at : ℕ → ℕ → Float → ℕ → List Float → List Float
scale_at n k d i a = set a (i + k * n) (entry n a i k ⊘ d)

unfoldable pub scale_of : ℕ → ℕ → List Float → List Float
scale_of n k a = for (k + 1) n (scale_at n k (entry n a k k)) a

abbrev pub column_at : ℕ → ℕ → ℕ → Float → ℕ → List Float → List Float
column_at n k j ukj i a = set a (i + j * n) (entry n a i j ⊖ entry n a i k ⊗ ukj)

unfoldable pub column_of : ℕ → ℕ → ℕ → List Float → List Float
column_of n k j a = for (k + 1) n (column_at n k j (entry n a k j)) a

unfoldable pub eliminate_of : ℕ → ℕ → List Float → List Float
eliminate_of n k a = for (k + 1) n (column_of n k) a

-- the matrix, the rows exchanged, and whether no pivot was 0
pub record Factors : Type 0 where
  pub a : List Float
  pub ipiv : List ℕ
  pub ok : Bool

-- step k, with the pivot p
abbrev pub step_at : ℕ → ℕ → Pivot → Factors → Factors
step_at n k p s =
    cond (Ieee.eq p.value zero_f)
    (record { a = s.a; ipiv = s.ipiv; ok = false })
    (record {
      a = eliminate_of n k (scale_of n k (exchange_of n k p.row s.a));
      ipiv = set s.ipiv k p.row;
      ok = true;
    })

-- step k, unless a pivot was 0 before
unfoldable pub step_of : ℕ → ℕ → Factors → Factors
step_of n k s = cond s.ok (step_at n k (pivot_of n k s.a) s) s

unfoldable pub factor_of : ℕ → List Float → List ℕ → Factors
factor_of n a ipiv = for 0 n (step_of n) (record { a = a; ipiv = ipiv; ok = true })
