-- `stoda_first_call_init` runs `cfode` for BDF and then, on the same tables, for Adams. Nothing of BDF's stays, so the
-- table then in force is that of `cfode_of`, where Adams' starts from zeros: the same, bit for bit.
-- Assumes nothing.
use mathlib.Core.Path.{◌≡◌}
use mathlib.Core.List.{List}
use Prim.Native.Nat.{ℕ, zero-le, ◌<◌}
use native.Mathlib.Omega.{arith}
use lib.Dec.{T, eqb, eqb→eq}
use lib.Ieee.{Float, nan, binary64, of_bits, to_bits}
use lib.ListN.{get_or}
use Rattle.coefficients.specs.Cfode.{Rows, adams, bdf, no_elco, no_tesco}
use Rattle.coefficients.proofs.Test.{all, all-at}

abbrev pub alone : Rows
alone = adams no_elco no_tesco

abbrev pub upon_bdf : Rows
upon_bdf = adams (bdf no_elco no_tesco).elco (bdf no_elco no_tesco).tesco

abbrev pub bits : List Float → ℕ → ℕ
bits l k = to_bits binary64 (get_or l k nan)

same_at : (n : ℕ) (l r : List Float) → T (all n 0 (λ k. eqb (bits l k) (bits r k)))
    → (k : ℕ) → k < n → bits l k ≡ bits r k
same_at n l r t k h =
    eqb→eq (bits l k) (bits r k) (all-at n 0 (λ j. eqb (bits l j) (bits r j)) t k zero-le (omega arith))

pub same-elco : (k : ℕ) → k < 156 → bits upon_bdf.elco k ≡ bits alone.elco k
unfolding adams bdf of_bits to_bits
same-elco = same_at 156 upon_bdf.elco alone.elco tt

pub same-tesco : (k : ℕ) → k < 36 → bits upon_bdf.tesco k ≡ bits alone.tesco k
unfolding adams bdf of_bits to_bits
same-tesco = same_at 36 upon_bdf.tesco alone.tesco tt
