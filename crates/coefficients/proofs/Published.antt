-- The table against the published formulas: each entry that is set is right to a few units in the last place,
-- 2 in Adams' elco, 5 in Adams' tesco, 1 in BDF's elco and tesco. Each is one test, computed over the table.
-- Adams' tesco has no entry for the orders 0 and 13: `cfode` leaves 0 there (proofs/Examples.antt).
-- Assumes nothing.
use Prim.Native.Nat.{ℕ, zero-le, ◌+◌, ◌-◌, min, ◌≤◌}
use native.Mathlib.Omega.{arith}
use lib.Ieee.{of_bits, to_bits}
use Rattle.coefficients.specs.Cfode.{cfode_of}
use Rattle.coefficients.specs.Table.{elco_of, tesco_of}
use Rattle.coefficients.specs.Published.{WithinUnits, adams_l, adams_test, bdf_l, bdf_test}
use Rattle.coefficients.proofs.Test.{entry}

pub adams-elco : (q i : ℕ) → 1 ≤ q → q ≤ 12 → i ≤ q → WithinUnits 2 (elco_of 1 q i) (adams_l q i)
unfolding elco_of cfode_of of_bits to_bits adams_l
adams-elco q i l h g = entry 2 12 (λ q. 0) (λ q. q) (elco_of 1) adams_l tt q i l h zero-le g

-- the order that the entry is for, q + i - 1, is one of 1 to 12
pub adams-tesco : (q i : ℕ) → 1 ≤ q → q ≤ 12 → i ≤ 2 → 2 ≤ q + i → q + i ≤ 13
    → WithinUnits 5 (tesco_of 1 q i) (adams_test q i)
unfolding tesco_of cfode_of of_bits to_bits adams_test
adams-tesco q i l h g a b =
    entry 5 12 (λ q. 2 - q) (λ q. min 2 (13 - q)) (tesco_of 1) adams_test tt q i l h (omega arith) (omega arith)

pub bdf-elco : (q i : ℕ) → 1 ≤ q → q ≤ 5 → i ≤ q → WithinUnits 1 (elco_of 2 q i) (bdf_l q i)
unfolding elco_of cfode_of of_bits to_bits bdf_l
bdf-elco q i l h g = entry 1 5 (λ q. 0) (λ q. q) (elco_of 2) bdf_l tt q i l h zero-le g

pub bdf-tesco : (q i : ℕ) → 1 ≤ q → q ≤ 5 → i ≤ 2 → WithinUnits 1 (tesco_of 2 q i) (bdf_test q i)
unfolding tesco_of cfode_of of_bits to_bits bdf_test
bdf-tesco q i l h g = entry 1 5 (λ q. 0) (λ q. 2) (tesco_of 2) bdf_test tt q i l h zero-le g
