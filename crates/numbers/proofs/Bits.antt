-- Which float a pattern is, by the tests that the code makes.
--     nan_test, no_nan    `x != x` says whether x is a NaN
--     past-infinity       a pattern above infinity's, its sign left out, is a NaN's
--     nan_pattern         the pattern of a NaN
--     nan_literal         `f64::NAN` is a NaN
-- Assumes nothing.
use mathlib.Core.Path.{◌≡◌, refl, sym, ◌∙◌}
use mathlib.Core.Bool.{true, false, not}
use Prim.Native.Nat.{ℕ, ◌*◌, ◌%◌, ◌<◌}
use lib.Dec.{T}
use lib.Ieee as Ieee
use lib.Ieee.{Float, nan, inf, fin, up, down, binary64}
use lib.Ieee.Bits.{nan_bits_is, nan_bits_above}
use borrow.Author.Tests.{lt-ltb, eq-eqb}
use Rattle.loops.proofs.Test.{differs}

pub nan_test : (x : Float) → Ieee.is_nan x ≡ Ieee.ne x x
unfolding Ieee.is_nan Ieee.ne
nan_test nan = refl
nan_test (inf true) = refl
nan_test (inf false) = refl
nan_test (fin true m e) = rw (eq-eqb (m * up e * down e) (m * up e * down e) refl)
nan_test (fin false m e) = rw (eq-eqb (m * up e * down e) (m * up e * down e) refl)

pub no_nan : (x : Float) → Ieee.ne x x ≡ false → T (not (Ieee.is_nan x))
no_nan x h = rw (nan_test x, h) tt

is-nan : (x : Float) → Ieee.is_nan x ≡ true → x ≡ nan
unfolding Ieee.is_nan
is-nan nan e = refl
is-nan (inf s) e = differs e
is-nan (fin s m k) e = differs e

pub past-infinity : (b : ℕ) → 0x7ff0_0000_0000_0000 < b % 0x8000_0000_0000_0000 → Ieee.of_bits binary64 b ≡ nan
past-infinity b h =
    is-nan (Ieee.of_bits binary64 b)
    (sym (nan_bits_is binary64 b) ∙ nan_bits_above binary64 b
    ∙ lt-ltb 0x7ff0_0000_0000_0000 (b % 0x8000_0000_0000_0000) h)

-- the pattern that every NaN is written with; cited by the wrong answer that gives it another
pub nan_pattern : (x : Float) → Ieee.is_nan x ≡ true → 0x7ff8_0000_0000_0000 ≡ Ieee.to_bits binary64 x
unfolding Ieee.to_bits
nan_pattern x h = rw (is-nan x h)

-- `f64::NAN`
pub nan_literal : Ieee.of_bits binary64 0x7ff8_0000_0000_0000 ≡ nan
unfolding Ieee.of_bits
nan_literal = refl

-- for the wrong answer of `from_bits` that tells the patterns of NaNs by a test, so that a right test would prove
pub ruleset nans_by_test = (past-infinity, nan_literal)
