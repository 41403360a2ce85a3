-- Worked interpolations, by computation: sum (7) of document 01, in which no operation rounds, each refusal with the
-- order in which they come, the copy; and a worked snapshot.
-- Assumes nothing.
use mathlib.Core.Path.{◌≡◌, refl}
use mathlib.Core.Bool.{false}
use mathlib.Core.List.{List, [], ◌∷◌}
use lib.Ieee.{Float, nan, inf, of_bits, of_int, add, sub, mul, div, eq}
use Rattle.loops.specs.For.{times}
use Rattle.numbers.specs.Float.{lit, zero_f, one_f, uround, d0_5, d2}
use Rattle.common.specs.declared.Settings.{Settings}
use Rattle.common.specs.declared.Common.{Common}
use Rattle.interpolation.specs.Snapshot.{header_of, snapshot_of}
use Rattle.interpolation.specs.Header.{whole_count_of, read_header_of}
use Rattle.interpolation.specs.Evaluate.{last_column_of, horner_of, evaluate_of, outputs, interpolate_sized_of}
use Rattle.interpolation.specs.Evaluate.{interpolate_of}
use Rattle.interpolation.specs.Published.{horner, numbers_at, PoseExact}

abbrev d0_75 : Float
d0_75 = lit 0x3fe8_0000_0000_0000

abbrev d1_75 : Float
d1_75 = lit 0x3ffc_0000_0000_0000

abbrev d13 : Float
d13 = lit 0x402a_0000_0000_0000

abbrev d64_5 : Float
d64_5 = lit 0x4050_2000_0000_0000

abbrev d65 : Float
d65 = lit 0x4050_4000_0000_0000

abbrev minus_zero : Float
minus_zero = lit 0x8000_0000_0000_0000

-- a snapshot of one state: time 1, last step 0.5, columns 2 and 0.5
abbrev snapshot : Float → Float → Float → List Float
snapshot n nq h = n ∷ nq ∷ one_f ∷ h ∷ d0_5 ∷ uround ∷ d2 ∷ d0_5 ∷ []

-- sum (7), whatever stood in the output
pub sum-7 : (y : Float) →
    (interpolate_of d0_75 (snapshot one_f one_f d0_5) (y ∷ []) ≡ outputs 0 (d1_75 ∷ []))
    × (interpolate_of d0_75 (snapshot one_f one_f zero_f) (y ∷ []) ≡ outputs 17 (y ∷ []))
unfolding times whole_count_of read_header_of last_column_of horner_of evaluate_of interpolate_sized_of interpolate_of
    eq sub mul
    div of_bits of_int
sum-7 y = (refl, refl)

-- no operation of it rounds: the pose is the value of 2 + s/2 at s = (0.75 - 1) / 0.5
pub sum-7-exact : PoseExact d0_75 (snapshot one_f one_f d0_5) (record { n = 1; nq = 1; tn = one_f; h = d0_5 }) 0
unfolding horner numbers_at add sub mul div of_bits
sum-7-exact = record {
  difference = (tt, tt, (tt, refl));
  quotient = (tt, tt, tt, refl);
  columns = (tt, (tt, tt, (tt, refl)), (tt, tt, (tt, refl)));
}

-- 15: n is NaN, infinite, 64.5 or 65; nq is NaN or 13; there are 5 numbers
pub refused-15 : (xi y : Float) →
    (interpolate_of xi (snapshot nan one_f d0_5) (y ∷ []) ≡ outputs 15 (y ∷ []))
    × (interpolate_of xi (snapshot (inf false) one_f d0_5) (y ∷ []) ≡ outputs 15 (y ∷ []))
    × (interpolate_of xi (snapshot d64_5 one_f d0_5) (y ∷ []) ≡ outputs 15 (y ∷ []))
    × (interpolate_of xi (snapshot d65 one_f d0_5) (y ∷ []) ≡ outputs 15 (y ∷ []))
    × (interpolate_of xi (snapshot one_f nan d0_5) (y ∷ []) ≡ outputs 15 (y ∷ []))
    × (interpolate_of xi (snapshot one_f d13 d0_5) (y ∷ []) ≡ outputs 15 (y ∷ []))
    × (interpolate_of xi (one_f ∷ zero_f ∷ one_f ∷ one_f ∷ one_f ∷ []) (y ∷ []) ≡ outputs 15 (y ∷ []))
unfolding times whole_count_of read_header_of interpolate_of eq of_bits of_int
refused-15 xi y = (refl, refl, refl, refl, refl, refl, refl)

-- 16: the output is not of one state; 17: a history of one column where there should be two
pub refused-16-17 : (xi y : Float) →
    (interpolate_of xi (snapshot one_f one_f d0_5) (y ∷ y ∷ []) ≡ outputs 16 (y ∷ y ∷ []))
    × (interpolate_of xi (one_f ∷ one_f ∷ one_f ∷ d0_5 ∷ d0_5 ∷ uround ∷ d2 ∷ []) (y ∷ []) ≡ outputs 17 (y ∷ []))
unfolding times whole_count_of read_header_of interpolate_sized_of interpolate_of eq of_bits of_int
refused-16-17 xi y = (refl, refl)

-- the first that applies: 15 before 16 and 17, 16 before 17
pub first-refusal : (xi y : Float) →
    (interpolate_of xi (snapshot nan one_f zero_f) [] ≡ outputs 15 [])
    × (interpolate_of xi (snapshot one_f one_f zero_f) [] ≡ outputs 16 [])
unfolding times whole_count_of read_header_of interpolate_sized_of interpolate_of eq of_bits of_int
first-refusal xi y = (refl, refl)

-- equal lengths are a copy, whatever the numbers are and however few
pub copies : (xi a b c d y : Float) →
    (interpolate_of xi (a ∷ []) (y ∷ []) ≡ outputs 0 (a ∷ []))
    × (interpolate_of xi (nan ∷ a ∷ b ∷ c ∷ d ∷ []) (y ∷ y ∷ y ∷ y ∷ y ∷ []) ≡ outputs 0 (nan ∷ a ∷ b ∷ c ∷ d ∷ []))
    × (interpolate_of xi [] [] ≡ outputs 0 [])
unfolding times last_column_of interpolate_of
copies xi a b c d y = (refl, refl, refl)

-- -0.0 is the whole number 0: of order 0 the column is the answer, and of no states there is nothing to answer
pub minus-zero : (y : Float) →
    (interpolate_of d0_75 (snapshot one_f minus_zero d0_5) (y ∷ []) ≡ outputs 0 (d2 ∷ []))
    × (interpolate_of d0_75 (snapshot minus_zero one_f d0_5) [] ≡ outputs 0 [])
unfolding times whole_count_of read_header_of last_column_of horner_of evaluate_of interpolate_sized_of interpolate_of
    eq of_bits
    of_int
minus-zero y = (refl, refl)

-- the snapshot of a step of one state at order 1, in a question of twenty numbers of which twelve are its last
pub snapshot-1 : (s : Settings) (c : Common) → s.n ≡ 1 → c.nq ≡ 1 → (y a b x : Float) (rest last : List Float) →
    snapshot_of s c (a ∷ b ∷ rest) (y ∷ x ∷ x ∷ x ∷ x ∷ x ∷ x ∷ x ∷ x ∷ last)
    ≡ y ∷ one_f ∷ one_f ∷ c.tn ∷ c.h ∷ c.hu ∷ uround ∷ a ∷ b ∷ last
unfolding times header_of snapshot_of of_bits of_int
snapshot-1 s c n nq y a b x rest last = rw (n, nq)
