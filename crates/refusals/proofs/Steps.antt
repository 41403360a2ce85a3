-- Lemmas for the functions' attributes: the loop over the tolerances. Assumes nothing.
use mathlib.Core.List.{List}
use mathlib.Core.Path.{◌≡◌, refl, sym, ◌∙◌}
use Prim.Native.Nat.{ℕ, ◌+◌, ◌<◌}
use lib.Ieee.{Float}
use Rattle.loops.specs.For.{for}
use Rattle.loops.proofs.For.{onward, ended, stays}
use Rattle.refusals.specs.Refusal.{none}
use Rattle.refusals.specs.Start.{tolerance_at, tolerance_refusal}

-- a state that no turn changes is the loop's
pub settled : {S : Type 0} (f : ℕ → S → S) (i e : ℕ) (s t r : S) → i < e → f i s ≡ t → ((k : ℕ) → f k t ≡ t)
    → for i e f s ≡ r → t ≡ r
settled f i e s t r h p k q = sym (stays f (i + 1) e t k) ∙ onward f i e s t r h p q

pub begins : (n : ℕ) (rtol atol : List Float) → tolerance_refusal n rtol atol ≡ for 0 n (tolerance_at rtol atol) none
unfolding tolerance_refusal
begins n rtol atol = refl

pub ruleset tolerated = (onward, ended, begins, settled)
