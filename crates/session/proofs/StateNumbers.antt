-- The numbers that stand for a flag, a family and a phase: each is in its range, and is read as what it stands for.
--     flag-from, family-from, phase-from       the number's range; flag_small ..: it has 64 bits
--     flag-back, family-back, phase-back       what is written is read
--     flag-known, family-known, phase-known    a number in the range is that of what it is read as
-- Assumes nothing.
use mathlib.Core.Path.{◌≡◌, refl}
use mathlib.Core.Bool.{Bool, true, false}
use Prim.Native.Nat.{ℕ, zero, suc, ◌^◌, ◌≤◌, ◌<◌}
use native.Mathlib.Omega.{arith}
use native.Mathlib.Nat.{not-suc-le-zero, le_of_suc-le-suc}
use lib.Dec.{lit≤}
use Rattle.common.specs.declared.MethodFamily.{MethodFamily}
use Rattle.common.specs.declared.MethodFamily.TheVariants.{Adams, Bdf}
use Rattle.questions.specs.declared.Phase.{Phase}
use Rattle.session.specs.States.{flag_number, flag_of, family_number, family_of, phase_number, phase_of}

-- ---- the ranges

pub flag-from : (b : Bool) → (0 ≤ flag_number b) × (flag_number b ≤ 1)
flag-from true = (lit≤ tt, lit≤ tt)
flag-from false = (lit≤ tt, lit≤ tt)

pub family-from : (m : MethodFamily) → (1 ≤ family_number m) × (family_number m ≤ 2)
family-from Adams = (lit≤ tt, lit≤ tt)
family-from Bdf = (lit≤ tt, lit≤ tt)

pub phase-from : (p : Phase) → (0 ≤ phase_number p) × (phase_number p ≤ 10)
phase-from Phase.FirstDerivative = (lit≤ tt, lit≤ tt)
phase-from Phase.FirstReport = (lit≤ tt, lit≤ tt)
phase-from Phase.FirstModified = (lit≤ tt, lit≤ tt)
phase-from Phase.Opened = (lit≤ tt, lit≤ tt)
phase-from Phase.JacobianAsked = (lit≤ tt, lit≤ tt)
phase-from Phase.DifferenceColumn = (lit≤ tt, lit≤ tt)
phase-from Phase.FurtherDerivative = (lit≤ tt, lit≤ tt)
phase-from Phase.Restep = (lit≤ tt, lit≤ tt)
phase-from Phase.Report = (lit≤ tt, lit≤ tt)
phase-from Phase.Modified = (lit≤ tt, lit≤ tt)
phase-from Phase.Finished = (lit≤ tt, lit≤ tt)

pub flag_small : (b : Bool) → flag_number b < 2 ^ 64
flag_small b = omega (arith, (flag-from b).1)

pub family-small : (m : MethodFamily) → family_number m < 2 ^ 64
family-small m = omega (arith, (family-from m).1)

pub phase-small : (p : Phase) → phase_number p < 2 ^ 64
phase-small p = omega (arith, (phase-from p).1)

-- ---- what is written is read

pub flag-back : (b : Bool) → flag_of (flag_number b) ≡ b
flag-back true = refl
flag-back false = refl

pub family-back : (m : MethodFamily) → family_of (family_number m) ≡ m
unfolding family_of
family-back Adams = refl
family-back Bdf = refl

pub phase-back : (p : Phase) → phase_of (phase_number p) ≡ p
unfolding phase_of
phase-back Phase.FirstDerivative = refl
phase-back Phase.FirstReport = refl
phase-back Phase.FirstModified = refl
phase-back Phase.Opened = refl
phase-back Phase.JacobianAsked = refl
phase-back Phase.DifferenceColumn = refl
phase-back Phase.FurtherDerivative = refl
phase-back Phase.Restep = refl
phase-back Phase.Report = refl
phase-back Phase.Modified = refl
phase-back Phase.Finished = refl

-- ---- a number in the range is that of what it is read as

pub flag-known : (w : ℕ) → w ≤ 1 → flag_number (flag_of w) ≡ w
flag-known zero h = refl
flag-known (suc zero) h = refl
flag-known (suc (suc w)) h = absurd (not-suc-le-zero (le_of_suc-le-suc h))

pub family-known : (w : ℕ) → 1 ≤ w → w ≤ 2 → family_number (family_of w) ≡ w
unfolding family_of
family-known zero l h = absurd (not-suc-le-zero l)
family-known (suc zero) l h = refl
family-known (suc (suc zero)) l h = refl
family-known (suc (suc (suc w))) l h = absurd (not-suc-le-zero (le_of_suc-le-suc (le_of_suc-le-suc h)))

pub phase-known : (w : ℕ) → w ≤ 10 → phase_number (phase_of w) ≡ w
unfolding phase_of
phase-known zero h = refl
phase-known (suc zero) h = refl
phase-known (suc (suc zero)) h = refl
phase-known (suc (suc (suc zero))) h = refl
phase-known (suc (suc (suc (suc zero)))) h = refl
phase-known (suc (suc (suc (suc (suc zero))))) h = refl
phase-known (suc (suc (suc (suc (suc (suc zero)))))) h = refl
phase-known (suc (suc (suc (suc (suc (suc (suc zero))))))) h = refl
phase-known (suc (suc (suc (suc (suc (suc (suc (suc zero)))))))) h = refl
phase-known (suc (suc (suc (suc (suc (suc (suc (suc (suc zero))))))))) h = refl
phase-known (suc (suc (suc (suc (suc (suc (suc (suc (suc (suc zero)))))))))) h = refl
phase-known (suc (suc (suc (suc (suc (suc (suc (suc (suc (suc (suc w))))))))))) h =
    let z : ⊥ = omega arith in absurd z
