-- Laws of tests, where a proof goes by the two cases of one:
--     differs           no test is both false and true
--     chosen, chosen_by what both choices have, the chosen one has; each where it is chosen
-- Assumes nothing.
use mathlib.Core.Path.{◌≡◌, refl}
use mathlib.Core.Bool.{Bool, true, false, cond}
use Prim.Native.Nat.{ℕ}
use native.Mathlib.Omega.{arith}

pub differs : {A : Type 0} → false ≡ true → A
differs p = absurd (let z : ◌≡◌ {A = ℕ} 0 1 = cc in omega arith)

pub chosen : {S : Type 0} (P : S → Type 0) (t : Bool) {x y : S} → P x → P y → P (cond t x y)
chosen P true p q = p
chosen P false p q = q

pub chosen_by : {S : Type 0} (P : S → Type 0) (t : Bool) {x y : S} → (t ≡ true → P x) → (t ≡ false → P y)
    → P (cond t x y)
chosen_by P true p q = p refl
chosen_by P false p q = q refl
