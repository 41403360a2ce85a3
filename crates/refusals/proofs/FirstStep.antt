-- `refused` decides the condition of 11 at a first step:
--     step-decides    it holds exactly where the step is refused
--     step-taken      and fails exactly where it is taken
-- Assumes nothing.
use mathlib.Core.Bool.{Bool, true, false}
use mathlib.Core.Logic.{◌⊎◌, inl, inr, ◌≢◌, ◌↔◌}
use mathlib.Core.Path.{◌≡◌, refl, sym}
use Prim.Native.Nat.{ℕ, zero, suc, ◌*◌}
use native.Mathlib.Nat.{zero-mul, mul-pos, zero-lt-suc}
use native.Mathlib.Omega.{arith}
use borrow.Author.Tests.{ne_eqb}
use lib.IntN.{pos}
use lib.Ieee as Ieee
use lib.Ieee.{Float, nan, inf, fin, up, down}
use lib.Ieee.Fits.{up_pos}
use Rattle.loops.proofs.Test.{differs}
use Rattle.numbers.specs.Float.{zero_f}
use Rattle.numbers.specs.Sign.{negative, signum_of, refused}
use Rattle.refusals.specs.FirstStep.{IsZero, StepRefused, StepTaken}
use Rattle.refusals.proofs.Decides.{Decides, either}

zero-decides : (h : Float) → Decides (Ieee.eq h zero_f) (IsZero h)
unfolding Ieee.eq Ieee.of_bits
zero-decides nan = (λ e. differs e, λ e z. z)
zero-decides (inf s) = (λ e. differs e, λ e z. z)
zero-decides (fin true zero k) = (λ e. refl, λ e z. differs (sym (simp zero-mul at e)))
zero-decides (fin false zero k) = (λ e. refl, λ e z. differs (sym (simp zero-mul at e)))
zero-decides (fin s (suc m) k) =
    let p : suc m * up k * 1 ≢ 0 * 1 * down k =
    λ q. omega (arith, mul-pos (zero-lt-suc m) (up_pos k), zero-mul (down k)) in
    (λ e. differs (rw (ne_eqb (suc m * up k * 1) (0 * 1 * down k) p) at e), λ e z. omega arith)

-- 1 with a sign is another than 1 with the other sign
ones-decide : (s t : Bool) → Decides (Ieee.ne (fin s 1 (pos 0)) (fin t 1 (pos 0))) (s ≢ t)
unfolding Ieee.ne Ieee.eq
ones-decide true true = (λ e. differs e, λ e n. n refl)
ones-decide true false = (λ e q. differs (sym q), λ e. differs (sym e))
ones-decide false true = (λ e q. differs q, λ e. differs (sym e))
ones-decide false false = (λ e. differs e, λ e n. n refl)

-- two floats that are no NaN
both-decide : (h d : Float) (t : Bool) → h ≢ nan → d ≢ nan → Decides t (negative h ≢ negative d)
    → Decides t ((h ≡ nan) ⊎ (d ≡ nan) ⊎ (negative h ≢ negative d))
both-decide h d t p q f = (λ e. inr (inr (f.0 e)), none)
  where
    none : t ≡ false → (h ≡ nan) ⊎ (d ≡ nan) ⊎ (negative h ≢ negative d) → ⊥
    none e (inl x) = p x
    none e (inr (inl x)) = q x
    none e (inr (inr x)) = f.1 e x

not-inf : (s : Bool) → inf s ≢ nan
not-inf s e = let z : ◌≡◌ {A = ℕ} 0 1 = cc in omega arith

not-fin : (s : Bool) (m : ℕ) (k : _) → fin s m k ≢ nan
not-fin s m k e = let z : ◌≡◌ {A = ℕ} 0 1 = cc in omega arith

signum-decides : (h d : Float)
    → Decides (Ieee.ne (signum_of h) (signum_of d)) ((h ≡ nan) ⊎ (d ≡ nan) ⊎ (negative h ≢ negative d))
unfolding signum_of negative Ieee.ne Ieee.eq
signum-decides nan nan = (λ e. inl refl, λ e. differs (sym e))
signum-decides nan (inf t) = (λ e. inl refl, λ e. differs (sym e))
signum-decides nan (fin t n j) = (λ e. inl refl, λ e. differs (sym e))
signum-decides (inf s) nan = (λ e. inr (inl refl), λ e. differs (sym e))
signum-decides (fin s m k) nan = (λ e. inr (inl refl), λ e. differs (sym e))
signum-decides (inf s) (inf t) = both-decide (inf s) (inf t) _ (not-inf s) (not-inf t) (ones-decide s t)
signum-decides (inf s) (fin t n j) = both-decide (inf s) (fin t n j) _ (not-inf s) (not-fin t n j) (ones-decide s t)
signum-decides (fin s m k) (inf t) = both-decide (fin s m k) (inf t) _ (not-fin s m k) (not-inf t) (ones-decide s t)
signum-decides (fin s m k) (fin t n j) =
    both-decide (fin s m k) (fin t n j) _ (not-fin s m k) (not-fin t n j) (ones-decide s t)

pub step-decides : (h d : Float) → Decides (refused h (signum_of d)) (StepRefused h d)
unfolding refused
step-decides h d =
    either (Ieee.eq h zero_f) (Ieee.ne (signum_of h) (signum_of d)) (zero-decides h) (signum-decides h d)

pub taken-not-refused : {h d : Float} → StepTaken h d → StepRefused h d → ⊥
taken-not-refused k (inl z) = k.nonzero z
taken-not-refused k (inr (inl z)) = k.number z
taken-not-refused k (inr (inr (inl z))) = k.direction z
taken-not-refused k (inr (inr (inr z))) = z k.signum

pub step-taken : (h d : Float) → (refused h (signum_of d) ≡ false) ↔ StepTaken h d
step-taken h d = (
  λ e. record {
    nonzero = λ z. (step-decides h d).1 e (inl z);
    number = λ z. (step-decides h d).1 e (inr (inl z));
    direction = λ z. (step-decides h d).1 e (inr (inr (inl z)));
    signum = same (negative h) (negative d) (λ z. (step-decides h d).1 e (inr (inr (inr z))));
  },
  λ k. not-refused k (refused h (signum_of d)) refl,
)
  where
    same : (s t : Bool) → (s ≢ t → ⊥) → s ≡ t
    same true true n = refl
    same true false n = absurd (n (λ q. differs (sym q)))
    same false true n = absurd (n (λ q. differs q))
    same false false n = refl

    not-refused : StepTaken h d → (t : Bool) → refused h (signum_of d) ≡ t → refused h (signum_of d) ≡ false
    not-refused k true e = absurd (taken-not-refused k ((step-decides h d).0 e))
    not-refused k false e = e
