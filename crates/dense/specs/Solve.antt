-- `dense_lu_solve` on one list: the right side is the n numbers at b, and the entry in row i of column j of the matrix
-- stands at a + (i + j·n). Each row's exchange directly before its elimination, then the rows from the last up; refused
-- at a zero diagonal, with the rows below it done. That it solves the system that was factored is not claimed: from
-- n = 3 on it may solve another (`another-system` in proofs/Examples.antt).
use Rattle.std.specs.Prelude.{List, Bool, true, false, cond, Result, Ok, Err, ℕ, ◌+◌, ◌-◌, ◌*◌, eqb, get_or, set, Float}
use Rattle.std.specs.Float.Ieee as Ieee
use Rattle.std.specs.Float.{nan}
use Rattle.loops.specs.For.{for}
use Rattle.numbers.specs.Float.{◌⊖◌, ◌⊗◌, ◌⊘◌, zero_f}
use Rattle.dense.specs.declared.Singular.{Singular}

-- the entry in row i of column j of the matrix at a
abbrev pub entry_at : ℕ → ℕ → List Float → ℕ → ℕ → Float
entry_at n a work i j = get_or work (a + (i + j * n)) nan

-- the entries at k and at p change places, if they are two
abbrev pub swap_entries_of : ℕ → ℕ → List Float → List Float
swap_entries_of k p work = cond (eqb p k) work (set (set work k (get_or work p nan)) p (get_or work k nan))

-- row i, less its multiple of row k, whose entry bk is read once: the Rust reads b[k] in every turn of the loop, where
-- it does not change
abbrev pub less_at : ℕ → ℕ → ℕ → ℕ → Float → ℕ → List Float → List Float
less_at n a b k bk i work = set work (b + i) (get_or work (b + i) nan ⊖ entry_at n a work i k ⊗ bk)

unfoldable pub less_of : ℕ → ℕ → ℕ → ℕ → Float → ℕ → ℕ → List Float → List Float
less_of n a b k bk lo hi work = for lo hi (less_at n a b k bk) work

-- the rows below row k
abbrev pub forward_of : ℕ → ℕ → ℕ → ℕ → List Float → List Float
forward_of n a b k work = less_of n a b k (get_or work (b + k) nan) (k + 1) n work

-- row k's exchange, then its elimination
unfoldable pub forward_step_of : ℕ → ℕ → List ℕ → ℕ → ℕ → List Float → List Float
forward_step_of n a ipiv b k work = forward_of n a b k (swap_entries_of (b + k) (b + get_or ipiv k 0) work)

unfoldable pub forward_all_of : ℕ → ℕ → List ℕ → ℕ → List Float → List Float
forward_all_of n a ipiv b work = for 0 n (forward_step_of n a ipiv b) work

-- row k divided by its diagonal entry, then the rows above it less their multiples
unfoldable pub backward_of : ℕ → ℕ → ℕ → ℕ → List Float → List Float
backward_of n a b k work =
    let bk = get_or work (b + k) nan ⊘ entry_at n a work k k in
    less_of n a b k bk 0 k (set work (b + k) bk)

-- the list so far, and whether no diagonal entry was 0
pub record Solution : Type 0 where
  pub work : List Float
  pub ok : Bool

abbrev pub backward_at : ℕ → ℕ → ℕ → ℕ → Solution → Solution
backward_at n a b k s =
    cond (Ieee.eq (entry_at n a s.work k k) zero_f)
    (record { work = s.work; ok = false })
    (record { work = backward_of n a b k s.work; ok = true })

-- row n - 1 - kb, unless a diagonal entry was 0 before
unfoldable pub backward_step_of : ℕ → ℕ → ℕ → ℕ → Solution → Solution
backward_step_of n a b kb s = cond s.ok (backward_at n a b (n - 1 - kb) s) s

unfoldable pub solve_of : ℕ → ℕ → List ℕ → ℕ → List Float → Solution
solve_of n a ipiv b work =
    for 0 n (backward_step_of n a b) (record { work = forward_all_of n a ipiv b work; ok = true })

-- what factoring and solving answer
abbrev pub outcome_of : Bool → Result Unit Singular
outcome_of true = Ok tt
outcome_of false = Err (record {})
