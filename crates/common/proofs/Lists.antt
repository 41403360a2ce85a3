-- A problem's tolerance lists have 1 number or n: the two ways, out of a ghost field of `Problem`, which keeps only
-- that one of them holds. Assumes nothing.
use Rattle.std.specs.Prelude.{List, ℕ, ◌<◌, length, Float}
use Rattle.std.proofs.Common.{⊎_elim}
use Rattle.std.proofs.Math.Logic.{∥∥₁_elim}
use Rattle.std.proofs.Math.Decide.{dec_lt}
use mathlib.Core.Logic.{inl, inr}
use native.Mathlib.Nat.{ℕ_set}
use Rattle.vectors.specs.Tolerance.{List1OrN}

pub one_or_n : (list : List Float) (i : ℕ) → ∥ List1OrN list i ∥₁ → List1OrN list i
one_or_n list i p = decided (dec_lt i (length list))
  where
    decided : Dec (i < length list) → List1OrN list i
    decided (yes h) = inr h
    decided (no none) = inl (∥∥₁_elim p (ℕ_set _ _) (⊎_elim (λ h. h) (λ h. absurd (none h))))
