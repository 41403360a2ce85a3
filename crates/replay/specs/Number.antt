-- The stored sample: cases of five numbers, a kind, three arguments and the answer's pattern, and how many of them
-- differ from ours.
-- Of numbers that are not in the sample it says nothing.
-- Kinds: 0 root, 1 square root, 2 elco, 3 tesco, 4 cm1, 5 cm2, and any other SM1.
use Rattle.std.specs.Prelude.{Bool, not, cond, List, ℕ, ◌+◌, ◌*◌, ◌/◌, eqb, length, get_or, count_by, Float}
use Rattle.std.specs.List.{range_with_len}
use Rattle.std.specs.Float.Ieee as Ieee
use Rattle.std.specs.Float.{binary64}
use Rattle.root.specs.Root.{root_of}
use Rattle.sqrt.specs.Sqrt.{sqrt_of}
use Rattle.probe.specs.Probe.{elco_or_nan, tesco_or_nan, cm1_or_nan, cm2_or_nan, sm1_or_nan}

-- the number that our function of that kind gives
unfoldable pub case_number : ℕ → ℕ → ℕ → ℕ → Float
case_number kind a b c =
    cond (eqb kind 0) (root_of (Ieee.of_bits binary64 a) b).value
    (cond (eqb kind 1) (sqrt_of (Ieee.of_bits binary64 a))
    (cond (eqb kind 2) (elco_or_nan a b c)
    (cond (eqb kind 3) (tesco_or_nan a b c)
    (cond (eqb kind 4) (cm1_or_nan a b)
    (cond (eqb kind 5) (cm2_or_nan a b)
    (sm1_or_nan b))))))

-- whether our number for case i has the stored pattern
abbrev pub is_stored : List ℕ → ℕ → Bool
is_stored l i =
    let at = 5 * i in
    eqb
    (Ieee.to_bits binary64
    (case_number (get_or l at 0) (get_or l (at + 1) 0) (get_or l (at + 2) 0) (get_or l (at + 3) 0)))
    (get_or l (at + 4) 0)

abbrev pub cases_differ : List ℕ → ℕ
cases_differ l = count_by (λ i. not (is_stored l i)) (range_with_len 0 (length l / 5))
