-- What a start is refused for: rows 1 to 11 of the table in 01-scope's 'Limits and refusals', in the order in which a
-- start checks them, each condition as a proposition.
-- proofs/Table.antt: a start is refused by a row exactly if its condition holds and no earlier one does.
use Rattle.std.specs.Prelude.{true, List, [], ◌∷◌, ◌⊎◌, ◌≢◌, ◌≡◌, ℕ, zero, suc, ◌+◌, ◌<◌, length, get_or, Float}
use Rattle.std.specs.Float.Ieee as Ieee
use Rattle.std.specs.Float.{nan}
use Rattle.numbers.specs.Float.{◌⊖◌, zero_f}
use Rattle.common.specs.Layout.{work_length, question_length}
use Rattle.common.specs.Limits.{max_states}
use Rattle.common.specs.SessionWords.{session_length}
use Rattle.refusals.specs.declared.Options.{Options}
use Rattle.refusals.specs.declared.Lengths.{Lengths}
use Rattle.refusals.specs.Rows.{Row, row}
use Rattle.refusals.specs.FirstStep.{StepRefused}

-- ---- the conditions

abbrev pub NotOneOrN : ℕ → ℕ → Type 0
NotOneOrN len n = (len ≢ 1) × (len ≢ n)

abbrev pub WrongList : Lengths → Type 0
WrongList l = NotOneOrN l.rtol l.n ⊎ NotOneOrN l.atol l.n

abbrev pub WrongSlice : Lengths → Type 0
WrongSlice l =
    (l.work ≢ work_length l.n) ⊎ (l.pivots ≢ l.n) ⊎ (l.session ≢ session_length)
    ⊎ (l.question ≢ question_length l.n)

abbrev pub LargeSetting : Options → Type 0
LargeSetting o =
    (1000000 < o.max_steps) ⊎ (1000000 < o.mxordn) ⊎ (1000000 < o.mxords) ⊎ (1000000 < o.maxcor)
    ⊎ (1000000 < o.msbp) ⊎ (1000000 < o.mxncf)

-- a list has an entry i, and it is below 0; a NaN is not
abbrev pub BelowZero : List Float → ℕ → Type 0
BelowZero list i = (i < length list) × (Ieee.lt (get_or list i nan) zero_f ≡ true)

-- ---- the rows

-- 9 before 10 at each of k indices from i on
abbrev pub tolerance_rows : List Float → List Float → ℕ → ℕ → List Row → List Row
tolerance_rows rtol atol zero i rest = rest
tolerance_rows rtol atol (suc k) i rest =
    record { refusal = record { number = 9; index = i; value = zero_f }; holds = BelowZero rtol i }
    ∷ record { refusal = record { number = 10; index = i; value = zero_f }; holds = BelowZero atol i }
    ∷ tolerance_rows rtol atol k (i + 1) rest

-- its value is the first step given
abbrev pub step_row : Float → Float → Options → Row
step_row x0 xend o = record {
  refusal = record { number = 11; index = 0; value = o.first_step };
  holds = (o.has_first_step ≢ 0) × StepRefused o.first_step (xend ⊖ x0);
}

abbrev pub start_rows : Float → Float → Options → Lengths → List Float → List Float → List Row
start_rows x0 xend o l rtol atol =
    row 1 (max_states < l.n)
    ∷ row 2 (WrongList l)
    ∷ row 3 (WrongSlice l)
    ∷ row 4 (LargeSetting o)
    ∷ row 5 (o.max_steps ≡ 0)
    ∷ row 6 (o.maxcor ≡ 0)
    ∷ row 7 ((o.mxordn ≡ 0) ⊎ (o.mxords ≡ 0))
    ∷ row 8 (o.banded ≢ 0)
    ∷ tolerance_rows rtol atol l.n 0 (step_row x0 xend o ∷ [])
