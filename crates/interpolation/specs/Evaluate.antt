-- `interpolate`: a copy where snapshot and output have equal length; otherwise 15 (Header.antt), 16 and 17, in this
-- order and with the output as it was; otherwise Horner's rule on the columns at s = (xi - tn) / h.
--     16 the output's length is not n    17 the history is shorter than (nq + 1)·n, or h is zero
-- That t lies in the step is neither asked nor claimed: outside it the polynomial is evaluated all the same.
use Rattle.std.specs.Prelude.{cond, List, Option, Some, None, Result, Ok, Err, ⊤, ℕ, ◌+◌, ◌-◌, ◌*◌, eqb, ltb, length}
use Rattle.std.specs.Prelude.{get_or, set, Float}
use Rattle.std.specs.Float.Ieee as Ieee
use Rattle.std.specs.Float.{nan}
use Rattle.loops.specs.For.{for}
use Rattle.loops.specs.Part.{part}
use Rattle.numbers.specs.Float.{◌⊕◌, ◌⊖◌, ◌⊗◌, ◌⊘◌, zero_f}
use Rattle.interpolation.specs.declared.Sizes.{Sizes}
use Rattle.interpolation.specs.declared.Unusable.{Unusable}
use Rattle.interpolation.specs.Header.{read_header_of}

abbrev pub last_at : List Float → ℕ → List Float → List Float
last_at column i yi = set yi i (get_or column i nan)

unfoldable pub last_column_of : List Float → List Float → List Float
last_column_of column yi = for 0 (length yi) (last_at column) yi

-- a column plus s times what stands
abbrev pub horner_at : List Float → Float → ℕ → List Float → List Float
horner_at column s i yi = set yi i (get_or column i nan ⊕ s ⊗ get_or yi i nan)

unfoldable pub horner_of : List Float → Float → List Float → List Float
horner_of column s yi = for 0 (length yi) (horner_at column s) yi

-- column j of a snapshot of n states: the columns stand from 6 on
abbrev pub column_in : List Float → ℕ → ℕ → List Float
column_in cont n j = part (6 + j * n) n cont

abbrev pub horner_turn : List Float → ℕ → ℕ → Float → ℕ → List Float → List Float
horner_turn cont n nq s jb yi = horner_of (column_in cont n (nq - jb)) s yi

unfoldable pub evaluate_of : Float → List Float → Sizes → List Float → List Float
evaluate_of xi cont z yi =
    for 1 (z.nq + 1) (horner_turn cont z.n z.nq ((xi ⊖ z.tn) ⊘ z.h))
    (last_column_of (column_in cont z.n z.nq) yi)

-- the number of each refusal, 0 where there is none
abbrev pub unusable_number : Unusable → ℕ
unusable_number Unusable.Header = 15
unusable_number Unusable.Length = 16
unusable_number Unusable.History = 17

abbrev pub number_of : Result ⊤ Unusable → ℕ
number_of (Ok _) = 0
number_of (Err why) = unusable_number why

-- the number returned, and the output
pub record Interpolated : Type 0 where
  pub number : ℕ
  pub output : List Float

abbrev pub outputs : ℕ → List Float → Interpolated
outputs k yi = record { number = k; output = yi }

unfoldable pub interpolate_sized_of : Float → List Float → Sizes → List Float → Interpolated
interpolate_sized_of xi cont z yi =
    cond (eqb (length yi) z.n)
    (cond (ltb (length cont - 6) ((z.nq + 1) * z.n)) (outputs 17 yi)
    (cond (Ieee.eq z.h zero_f) (outputs 17 yi)
    (outputs 0 (evaluate_of xi cont z yi))))
    (outputs 16 yi)

abbrev pub headed_of : Float → List Float → Option Sizes → List Float → Interpolated
headed_of xi cont None yi = outputs 15 yi
headed_of xi cont (Some z) yi = interpolate_sized_of xi cont z yi

unfoldable pub interpolate_of : Float → List Float → List Float → Interpolated
interpolate_of xi cont yi =
    cond (eqb (length cont) (length yi)) (outputs 0 (last_column_of cont yi))
    (headed_of xi cont (read_header_of cont) yi)
