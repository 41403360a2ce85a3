-- Every f64 fits: `Fit` asks nothing of a host.
--     every-f64     over all patterns of 64 bits
--     is-f64-fits, fits-is-f64
-- Assumes nothing.
use mathlib.Core.Path.{sym}
use Prim.Native.Nat.{ℕ, ◌^◌, ◌<◌}
use lib.Ieee as Ieee
use lib.Ieee.{Float, binary64}
use lib.Ieee.Bits.{of_bits-fits, of_bits-to_bits, to_bits-lt}
use Rattle.session.proofs.Fits.{Fit}
use Rattle.invariants.specs.Host.{IsF64}

pub every-f64 : (b : ℕ) → b < 2 ^ 64 → Fit (Ieee.of_bits binary64 b)
every-f64 b h = of_bits-fits binary64 b

pub is-f64-fits : (x : Float) → IsF64 x → Fit x
is-f64-fits x f = rw f.is (every-f64 f.bits f.wide)

pub fits-is-f64 : (x : Float) → Fit x → IsF64 x
fits-is-f64 x h = record {
  bits = Ieee.to_bits binary64 x;
  wide = to_bits-lt binary64 x h;
  is = sym (of_bits-to_bits binary64 x h);
}
