-- Our root of order k, k 2 to 13, as the scope of the port has it: both zeros give +0, infinity itself, a NaN or a
-- negative number a NaN; otherwise bits 62 down to 0 are each kept if the k-fold product, left to right, each rounded,
-- is at most x. It is not `powf`, and not claimed to be the real root rounded: what it is stands in Largest.
use Rattle.std.specs.Prelude.{true, false, cond, ◌&&◌, ℕ, zero, suc, ◌+◌, ◌/◌, leb, Float}
use Rattle.std.specs.Float.Ieee as Ieee
use Rattle.std.specs.Float.{nan, inf, fin, binary64}
use Rattle.loops.specs.For.{for, times}
use Rattle.root.specs.declared.Answer.{Answer}

abbrev pub factor : Float → ℕ → Float → Float
factor y i p = Ieee.mul binary64 p y

-- k factors y, from the left
unfoldable pub power_of : ℕ → Float → Float
unfolding times Ieee.mul
power_of k y = for 1 k (factor y) y

unfoldable pub keep_of : Float → ℕ → ℕ → ℕ → ℕ
unfolding power_of Ieee.le Ieee.of_bits
keep_of x k bits bit = cond (Ieee.le (power_of k (Ieee.of_bits binary64 (bits + bit))) x) (bits + bit) bits

-- the pattern so far, and the bit that is next
pub record Candidate : Type 0 where
  pub bits : ℕ
  pub bit : ℕ

abbrev pub bit_turn : Float → ℕ → ℕ → Candidate → Candidate
bit_turn x k i s = record { bits = keep_of x k s.bits s.bit; bit = s.bit / 2 }

-- bits 62 down to 0
unfoldable pub root_bits : Float → ℕ → ℕ
unfolding times keep_of
root_bits x k = (for 0 63 (bit_turn x k) (record { bits = 0; bit = 0x4000_0000_0000_0000 })).bits

unfoldable pub root_value : Float → ℕ → Float
unfolding root_bits Ieee.of_bits
root_value nan k = nan
root_value (inf true) k = nan
root_value (inf false) k = inf false
root_value (fin s zero e) k = Ieee.of_bits binary64 0
root_value (fin true (suc m) e) k = nan
root_value (fin false (suc m) e) k = Ieee.of_bits binary64 (root_bits (fin false (suc m) e) k)

-- an order outside 2 to 13 gives a NaN
unfoldable pub root_of : Float → ℕ → Answer
unfolding root_value
root_of x k = record { value = cond (leb 2 k && leb k 13) (root_value x k) nan }
