-- A tolerance list, the Rust's `Tolerance`: 1 number for all states, or one for each.
-- A number below 0 is not ruled out here: 9 and 10 refuse it at a start.
use Rattle.std.specs.Prelude.{List, cond, ◌≡◌, ◌⊎◌, ℕ, ◌<◌, eqb, length, get_or, Float}
use Rattle.std.specs.Float.{nan}

-- the list is 1 long, or reaches beyond entry i
abbrev pub List1OrN : List Float → ℕ → Type 0
List1OrN list i = (length list ≡ 1) ⊎ (i < length list)

unfoldable pub tolerance_of : List Float → ℕ → Float
tolerance_of list i = cond (eqb (length list) 1) (get_or list 0 nan) (get_or list i nan)
