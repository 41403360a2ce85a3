-- A host's float is one of the 2^64 patterns of an f64.
-- proofs/Host.antt: each of them fits the format binary64, and what fits is one of them.
use Rattle.std.specs.Prelude.{List, ◌≡◌, ℕ, ◌^◌, ◌<◌, Float, length, get_or}
use Rattle.std.specs.Float.Ieee as Ieee
use Rattle.std.specs.Float.{nan, binary64}

pub record IsF64 (x : Float) : Type 0 where
  pub bits : ℕ
  pub wide : bits < 2 ^ 64
  pub is : x ≡ Ieee.of_bits binary64 bits

abbrev pub AreF64 : List Float → Type 0
AreF64 list = (i : ℕ) → i < length list → IsF64 (get_or list i nan)
