-- What the test of the pivots tells of each. Assumes nothing.
use Rattle.std.proofs.Common.{◌≡◌, Bool, true, List, [], ◌∷◌, ℕ, zero, suc, ◌≤◌, ◌<◌, length, get_or, take, ltb, arith}
use Rattle.std.specs.List.{list_all}
use Rattle.std.proofs.lemmas.Bool.{and_parts}
use borrow.Author.Tests.{ltb-true}
use Rattle.probe.specs.Leaves.{are_pivots}

passed : (p : ℕ → Bool) (l : List ℕ) (m k : ℕ) → list_all p (take m l) ≡ true → k < m → k < length l
    → p (get_or l k 0) ≡ true
passed p [] m k e h g = absurd (omega arith)
passed p (x ∷ l) zero k e h g = absurd (omega arith)
passed p (x ∷ l) (suc m) zero e h g = (and_parts (p x) (list_all p (take m l)) e).0
passed p (x ∷ l) (suc m) (suc k) e h g =
    passed p l m k (and_parts (p x) (list_all p (take m l)) e).1 (omega arith) (omega arith)

pub pivots-below : (n : ℕ) (l : List ℕ) → n ≤ length l → are_pivots n l ≡ true → (k : ℕ) → k < n → get_or l k 0 < n
unfolding are_pivots
pivots-below n l h e k g = ltb-true (get_or l k 0) n (passed (λ p. ltb p n) l n k e g (omega arith))
