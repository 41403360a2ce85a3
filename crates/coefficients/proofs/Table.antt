-- The words of specs/Table.antt by the test that the code makes of the table, whether it is 0.
-- Assumes nothing.
use mathlib.Core.Path.{◌≡◌, refl}
use mathlib.Core.Bool.{cond}
use Prim.Native.Nat.{ℕ, zero, suc, ◌+◌, ◌-◌, ◌*◌}
use native.Mathlib.Omega.{arith}
use lib.Dec.{eqb}
use lib.Ieee.{nan}
use lib.ListN.{get_or}
use borrow.Author.Tests.{ne_eqb}
use Rattle.numbers.specs.Float.{◌⊗◌, zero_f}
use Rattle.coefficients.specs.Cfode.{cfode_of}
use Rattle.coefficients.specs.Table.{elco_of, tesco_of, cm1_of, cm2_of}

pub elco_is : (t q i : ℕ)
    → elco_of t q i ≡ cond (eqb t 0) zero_f (get_or cfode_of (192 * (t - 1) + 13 * (q - 1) + i) nan)
unfolding elco_of
elco_is zero q i = refl
elco_is (suc t) q i =
    let e : suc t - 1 ≡ t = omega arith in
    rw (e, ne_eqb (suc t) 0 (λ e. omega arith))

pub tesco_is : (t q i : ℕ)
    → tesco_of t q i ≡ cond (eqb t 0) zero_f (get_or cfode_of (192 * (t - 1) + 3 * (q - 1) + (156 + i)) nan)
unfolding tesco_of
tesco_is zero q i = refl
tesco_is (suc t) q i =
    let e : 192 * (suc t - 1) + 3 * (q - 1) + (156 + i) ≡ 192 * t + 156 + 3 * (q - 1) + i = omega arith in
    rw (e, ne_eqb (suc t) 0 (λ e. omega arith))

pub cm1_is : (t q : ℕ) → cm1_of t q ≡ cond (eqb t 0) zero_f (tesco_of 1 q 1 ⊗ elco_of 1 q q)
unfolding cm1_of
cm1_is zero q = refl
cm1_is (suc t) q = rw (ne_eqb (suc t) 0 (λ e. omega arith))

pub cm2_is : (t q : ℕ) → cm2_of t q ≡ cond (eqb t 0) zero_f (tesco_of 2 q 1 ⊗ elco_of 2 q q)
unfolding cm2_of
cm2_is zero q = refl
cm2_is (suc t) q = rw (ne_eqb (suc t) 0 (λ e. omega arith))
