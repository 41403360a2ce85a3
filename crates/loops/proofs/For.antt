-- The laws by which a loop in code is shown to compute `for`:
--     turn     one turn, where i is below e
--     done     no turn, where it is not
--     again, again-four, onward, ended     the same two, as steps of a proof whose invariant is `for i e f s ≡ r`
--     stays    a state that no turn changes
--     reaches  what speaks of the turn and is carried on by every turn holds at the loop's end
--     keeps    what every turn below the loop's end keeps, the loop keeps
--     always   what every turn keeps, the loop keeps, whatever its bounds
-- A loop's invariant says that what is left to do from here gives what the whole loop gives:
--     for i e f s ≡ for i₀ e f s₀
-- Assumes nothing.
use mathlib.Core.Path.{◌≡◌, refl, sym, ◌∙◌, subst}
use Prim.Native.Nat.{ℕ, zero, suc, ◌+◌, ◌-◌, ◌*◌, ◌≤◌, ◌<◌}
use native.Mathlib.Nat.{suc-mul, mul-le-mul_right}
use native.Mathlib.Omega.{arith}
use Rattle.loops.specs.For.{times, for}

module _ {S : Type 0} (f : ℕ → S → S) where
  pub turn : (i e : ℕ) (s : S) → i < e → for i e f s ≡ for (i + 1) e f (f i s)
  unfolding times
  turn i e s h =
      let q : e - i ≡ suc (e - (i + 1)) = omega arith in
      rw q

  pub done : (i e : ℕ) (s : S) → e ≤ i → for i e f s ≡ s
  unfolding times
  done i e s h =
      let q : e - i ≡ 0 = omega arith in
      rw q

  -- the two steps of a proof whose invariant is `for i e f s ≡ r`: its new value after a turn, and the end
  pub again : (i e : ℕ) (s r : S) → i < e → for i e f s ≡ r → for (i + 1) e f (f i s) ≡ r
  again i e s r h q = sym (turn i e s h) ∙ q

  pub again-four : (i e : ℕ) (s r : S) → i + 4 ≤ e → for i e f s ≡ r
      → for (i + 4) e f (f (i + 3) (f (i + 2) (f (i + 1) (f i s)))) ≡ r
  again-four i e s r h q =
      let at2 : i + 1 + 1 ≡ i + 2 = omega arith in
      let at3 : i + 2 + 1 ≡ i + 3 = omega arith in
      let at4 : i + 3 + 1 ≡ i + 4 = omega arith in
      let two = rw at2 at (again (i + 1) e _ r (omega arith) (again i e s r (omega arith) q)) in
      let three = rw at3 at (again (i + 2) e _ r (omega arith) two) in
      rw at4 at (again (i + 3) e _ r (omega arith) three)

  pub onward : (i e : ℕ) (s t r : S) → i < e → f i s ≡ t → for i e f s ≡ r → for (i + 1) e f t ≡ r
  onward i e s t r h p q = rw (← p) (again i e s r h q)

  pub ended : (i e : ℕ) (s r : S) → e ≤ i → for i e f s ≡ r → s ≡ r
  ended i e s r h q = sym (done i e s h) ∙ q

  -- a state that no turn changes stays: how a loop that is left early has its value
  pub stays-times : (s : S) → ((k : ℕ) → f k s ≡ s) → (n i : ℕ) → times f n i s ≡ s
  unfolding times
  stays-times s h zero i = refl
  stays-times s h (suc n) i = rw (h i) (stays-times s h n (i + 1))

  pub stays : (i e : ℕ) (s : S) → ((k : ℕ) → f k s ≡ s) → for i e f s ≡ s
  stays i e s h = stays-times s h (e - i) i

module _ {S : Type 0} (P : ℕ → S → Type 0) (f : ℕ → S → S) (e : ℕ)
    (one : (k : ℕ) (s : S) → k < e → P k s → P (k + 1) (f k s)) where
  reaches-times : (n i : ℕ) (s : S) → i + n ≡ e → P i s → P e (times f n i s)
  unfolding times
  reaches-times zero i s h p =
      let q : i ≡ e = omega arith in
      subst (λ (k : ℕ). P k s) q p
  reaches-times (suc n) i s h p = reaches-times n (i + 1) (f i s) (omega arith) (one i s (omega arith) p)

  pub reaches : (i : ℕ) (s : S) → i ≤ e → P i s → P e (for i e f s)
  reaches i s h p = reaches-times (e - i) i s (omega arith) p

pub keeps : {S : Type 0} (P : S → Type 0) (f : ℕ → S → S) (e : ℕ) → ((k : ℕ) (s : S) → k < e → P s → P (f k s))
    → (i : ℕ) (s : S) → i ≤ e → P s → P (for i e f s)
keeps P f e kept i s h p = reaches (λ k t. P t) f e kept i s h p

module _ {S : Type 0} (P : S → Type 0) (f : ℕ → S → S) where
  always-times : ((k : ℕ) (s : S) → P s → P (f k s)) → (n i : ℕ) (s : S) → P s → P (times f n i s)
  unfolding times
  always-times kept zero i s p = p
  always-times kept (suc n) i s p = always-times kept n (i + 1) (f i s) (kept i s p)

  pub always : (i e : ℕ) (s : S) → ((k : ℕ) (s : S) → P s → P (f k s)) → P s → P (for i e f s)
  always i e s kept p = always-times kept (e - i) i s p

-- column j of m columns of n lies within them
pub within : (n m j : ℕ) → j < m → j * n + n ≤ m * n
within n m j h = omega (arith, suc-mul j n, mul-le-mul_right n h)

-- a turn, where what is stored is the turn's own value, and the end: both, for a function's attribute
pub ruleset turns = (onward, ended)
