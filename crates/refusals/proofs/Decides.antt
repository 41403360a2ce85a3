-- A test that decides a proposition, and what decides its negation, a disjunction and a conjunction.
-- The second half of the library's `Decides` is `P → t ≡ true`; this one is used where t is false. Assumes nothing.
use mathlib.Core.Bool.{Bool, true, false, not, ◌||◌}
use mathlib.Core.Logic.{◌⊎◌, inl, inr}
use mathlib.Core.Path.{◌≡◌, refl, sym}
use Prim.Native.Nat.{ℕ, ◌≤◌, ◌<◌}
use native.Mathlib.Omega.{arith}
use borrow.Author.Tests.{eqb-true, eqb-false, ltb-true, ltb-false}
use lib.Dec.{eqb, ltb}
use Rattle.loops.proofs.Test.{differs}

abbrev pub Decides : Bool → Type 0 → Type 0
Decides t P = (t ≡ true → P) × (t ≡ false → P → ⊥)

pub equal : (a b : ℕ) → Decides (eqb a b) (a ≡ b)
equal a b = (eqb-true a b, eqb-false a b)

pub smaller : (a b : ℕ) → Decides (ltb a b) (a < b)
smaller a b = (ltb-true a b, λ e h. let q : b ≤ a = ltb-false a b e in omega arith)

pub denied : {P : Type 0} (t : Bool) → Decides t P → Decides (not t) (P → ⊥)
denied true d = (λ e. differs e, λ e n. n (d.0 refl))
denied false d = (λ e. d.1 refl, λ e n. differs (sym e))

pub either : {P Q : Type 0} (s t : Bool) → Decides s P → Decides t Q → Decides (s || t) (P ⊎ Q)
either {P} {Q} true t d f = (λ e. inl (d.0 refl), λ e. differs (sym e))
either {P} {Q} false t d f = (λ e. inr (f.0 e), none)
  where
    none : t ≡ false → P ⊎ Q → ⊥
    none e (inl p) = d.1 refl p
    none e (inr q) = f.1 e q
