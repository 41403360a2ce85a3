-- What callers need of the definitions: a factoring and a solve keep every length, a factoring leaves every pivot
-- below n if all were before, and a solve leaves every entry outside the right side. Each follows from one turn
-- of each loop (`keeps`, `length-for`). What the answers say of the flag: `ok-done`, `ok-singular`,
-- `told`, `singular`. What attributes of functions name: `exchanges`, `eliminations`.
-- Assumes nothing.
use mathlib.Core.Path.{◌≡◌, refl, sym, ◌∙◌}
use mathlib.Core.List.{List, [], ◌∷◌}
use mathlib.Core.Bool.{Bool, true, false}
use mathlib.Core.Logic.{◌⊎◌, ⊎_elim}
use Prim.Native.Nat.{ℕ, zero, suc, ◌+◌, ◌-◌, ◌<◌, ◌≤◌}
use native.Mathlib.Omega.{arith}
use lib.Dec.{eqb}
use lib.ListN.{length, get_or, set, length-set}
use lib.Seq.{get_or-set_other, length-take-le, get_or-take}
use lib.Ieee as Ieee
use lib.Ieee.{Float, nan}
use Rattle.std.specs.Prelude.{Result, Ok, Err, IsErr, is_ok}
use Rattle.std.specs.List.{swap}
use Rattle.std.proofs.lemmas.List.{set-get_or}
use Rattle.std.proofs.lemmas.List.Edits.{swap_is}
use Rattle.std.proofs.lemmas.Bool.Decides.{eqb_tells}
use borrow.Author.Tests.{ne_eqb}
use Rattle.loops.proofs.For.{keeps, onward, ended}
use Rattle.loops.proofs.Stores.{length-for}
use Rattle.loops.proofs.Test.{chosen}
use Rattle.numbers.specs.Float.{zero_f}
use Rattle.numbers.specs.Sign.{abs_of}
use Rattle.dense.specs.declared.Pivot.{Pivot}
use Rattle.dense.specs.Factor.{entry, pick_row, pivot_of, swap_at, swap_of, exchange_of, scale_at, scale_of}
use Rattle.dense.specs.Factor.{column_at, column_of, eliminate_of, Factors, step_of, factor_of}
use Rattle.dense.specs.Solve.{swap_entries_of, entry_at, less_at, less_of, forward_step_of, forward_all_of, backward_of}
use Rattle.dense.specs.Solve.{Solution, backward_step_of, solve_of, outcome_of}
use Rattle.dense.specs.declared.Singular.{Singular}

pub ok-done : (t : Bool) {u : Unit {0}} → outcome_of t ≡ Ok u → t ≡ true
ok-done true e = refl
ok-done false e = cc

pub ok-singular : (t : Bool) {x : Singular} → outcome_of t ≡ Err x → t ≡ false
ok-singular true e = cc
ok-singular false e = refl

pub told : (t : Bool) → is_ok (outcome_of t) ≡ t
told true = refl
told false = refl

-- there is one refusal
pub singular : {A : Type 0} (r : Result A Singular) → IsErr r → r ≡ Err (record {})
singular (Ok x) e = cc
singular (Err x) e = refl

-- what step k leaves of s where the pivot is not 0
abbrev made : ℕ → ℕ → Factors → Factors
made n k s =
    record {
      a = eliminate_of n k (scale_of n k (exchange_of n k (pivot_of n k s.a).row s.a));
      ipiv = set s.ipiv k (pivot_of n k s.a).row;
      ok = true;
    }

module _ (n k : ℕ) (h : k < n) where
  length-exchange : (p : ℕ) (a : List Float) → length (exchange_of n k p a) ≡ length a
  unfolding swap_of
  length-exchange p a =
      let swapped = length-for (swap_at n k p) 0 n a (λ j s. simp length-set) in
      chosen (λ (s : List Float). length s ≡ length a) (eqb p k) refl swapped

  length-scale : (a : List Float) → length (scale_of n k a) ≡ length a
  unfolding scale_of
  length-scale a = length-for (scale_at n k (entry n a k k)) (k + 1) n a (λ i s. simp length-set)

  length-column : (j : ℕ) (a : List Float) → length (column_of n k j a) ≡ length a
  unfolding column_of
  length-column j a = length-for (column_at n k j (entry n a k j)) (k + 1) n a (λ i s. simp length-set)

  length-eliminate : (a : List Float) → length (eliminate_of n k a) ≡ length a
  unfolding eliminate_of
  length-eliminate a = length-for (column_of n k) (k + 1) n a length-column

  -- what s has, whatever its flag, and what a step made of it has too, the step keeps
  step_keeps : (P : Factors → Type 0) (s : Factors) → P s → P (record { a = s.a; ipiv = s.ipiv; ok = false })
      → P (made n k s) → P (step_of n k s)
  unfolding step_of
  step_keeps P s same refused done =
      chosen P s.ok (chosen P (Ieee.eq (pivot_of n k s.a).value zero_f) refused done) same

  length-step-a : (s : Factors) → length (step_of n k s).a ≡ length s.a
  length-step-a s =
      let row = (pivot_of n k s.a).row in
      let b = exchange_of n k row s.a in
      let e = length-eliminate (scale_of n k b) ∙ (length-scale b ∙ length-exchange row s.a) in
      step_keeps (λ (t : Factors). length t.a ≡ length s.a) s refl refl e

  length-step-ipiv : (s : Factors) → length (step_of n k s).ipiv ≡ length s.ipiv
  length-step-ipiv s = step_keeps (λ (t : Factors). length t.ipiv ≡ length s.ipiv) s refl refl (simp length-set)

  pivot-below : (a : List Float) → (pivot_of n k a).row < n
  unfolding pivot_of
  pivot-below a =
      let one : (i : ℕ) (s : Pivot) → i < n → s.row < n → (pick_row n k a i s).row < n =
      λ i s below p. chosen (λ (t : Pivot). t.row < n) (Ieee.lt s.value (abs_of (entry n a i k))) below p
      in
      keeps (λ (t : Pivot). t.row < n) (pick_row n k a) n one (k + 1) _ (omega arith) h

-- every pivot of the list below n
abbrev pub Below : ℕ → List ℕ → Type 0
Below n ipiv = (k : ℕ) → k < n → get_or ipiv k 0 < n

set_below : (l : List ℕ) (k r j n : ℕ) → r < n → get_or l j 0 < n → get_or (set l k r) j 0 < n
set_below [] k r j n p q = q
set_below (x ∷ l) zero r zero n p q = p
set_below (x ∷ l) zero r (suc j) n p q = q
set_below (x ∷ l) (suc k) r zero n p q = q
set_below (x ∷ l) (suc k) r (suc j) n p q = set_below l k r j n p q

step-below : (n k : ℕ) (s : Factors) → k < n → Below n s.ipiv → Below n (step_of n k s).ipiv
step-below n k s h p =
    let row = pivot-below n k h s.a in
    let new : Below n (made n k s).ipiv = λ j below. set_below s.ipiv k _ j n row (p j below) in
    step_keeps n k h (λ (t : Factors). Below n t.ipiv) s p p new

module _ (n : ℕ) (a : List Float) (ipiv : List ℕ) where
  factor-keeps : (P : Factors → Type 0) → ((k : ℕ) (s : Factors) → k < n → P s → P (step_of n k s))
      → P (record { a = a; ipiv = ipiv; ok = true }) → P (factor_of n a ipiv)
  unfolding factor_of
  factor-keeps P one p = keeps P (step_of n) n one 0 _ (omega arith) p

  pub length-factor-a : length (factor_of n a ipiv).a ≡ length a
  length-factor-a = factor-keeps (λ s. length s.a ≡ length a) (λ k s h p. length-step-a n k h s ∙ p) refl

  pub length-factor-ipiv : length (factor_of n a ipiv).ipiv ≡ length ipiv
  length-factor-ipiv =
      factor-keeps (λ s. length s.ipiv ≡ length ipiv) (λ k s h p. length-step-ipiv n k h s ∙ p) refl

  pub factor-below : Below n ipiv → Below n (factor_of n a ipiv).ipiv
  factor-below p = factor-keeps (λ s. Below n s.ipiv) (λ k s h q. step-below n k s h q) p

-- What every store keeps that goes to a row of the right side or to a pivot's row, the solve keeps. Q says where a
-- store may go.
module _ (n a : ℕ) (ipiv : List ℕ) (b : ℕ) (Q : ℕ → Type 0) (P : List Float → Type 0)
    (stored : (p : ℕ) (x : Float) (s : List Float) → Q p → P s → P (set s p x))
    (row : (k : ℕ) → k < n → Q (b + k)) (pivot : (k : ℕ) → k < n → Q (b + get_or ipiv k 0)) where
  less-keeps : (k : ℕ) (bk : Float) (lo hi : ℕ) (s : List Float) → lo ≤ hi → hi ≤ n → P s
      → P (less_of n a b k bk lo hi s)
  unfolding less_of
  less-keeps k bk lo hi s h g p =
      keeps P (less_at n a b k bk) hi (λ i t below q. stored (b + i) _ t (row i (omega arith)) q) lo s h p

  forward-step-keeps : (k : ℕ) (s : List Float) → k < n → P s → P (forward_step_of n a ipiv b k s)
  unfolding forward_step_of
  forward-step-keeps k s h p =
      let swapped = stored (b + get_or ipiv k 0) _ _ (pivot k h) (stored (b + k) _ s (row k h) p) in
      let exchanged = chosen P (eqb (b + get_or ipiv k 0) (b + k)) p swapped in
      less-keeps k _ (k + 1) n _ (omega arith) (omega arith) exchanged

  forward-all-keeps : (s : List Float) → P s → P (forward_all_of n a ipiv b s)
  unfolding forward_all_of
  forward-all-keeps s p = keeps P (forward_step_of n a ipiv b) n forward-step-keeps 0 s (omega arith) p

  backward-keeps : (k : ℕ) (s : List Float) → k < n → P s → P (backward_of n a b k s)
  unfolding backward_of
  backward-keeps k s h p = less-keeps k _ 0 k _ (omega arith) (omega arith) (stored (b + k) _ s (row k h) p)

  backward-step-keeps : (kb : ℕ) (s : Solution) → kb < n → P s.work → P (backward_step_of n a b kb s).work
  unfolding backward_step_of
  backward-step-keeps kb s h p =
      let k = n - 1 - kb in
      let kept : Solution → Type 0 = λ t. P t.work in
      let done = backward-keeps k s.work (omega arith) p in
      chosen kept s.ok (chosen kept (Ieee.eq (entry_at n a s.work k k) zero_f) p done) p

  solve-keeps : (s : List Float) → P s → P (solve_of n a ipiv b s).work
  unfolding solve_of
  solve-keeps s p =
      let kept : Solution → Type 0 = λ t. P t.work in
      keeps kept (backward_step_of n a b) n backward-step-keeps 0 _ (omega arith) (forward-all-keeps s p)

module _ (n a : ℕ) (ipiv : List ℕ) (b : ℕ) (work : List Float) where
  pub length-solve : length (solve_of n a ipiv b work).work ≡ length work
  length-solve =
      solve-keeps n a ipiv b (λ p. Unit {0}) (λ s. length s ≡ length work) (λ p x s q e. length-set s p x ∙ e)
      (λ k h. tt) (λ k h. tt) work refl

  -- an entry before the right side or after it stays
  pub solve-outside : (j : ℕ) → (j < b) ⊎ (b + n ≤ j) → Below n ipiv
      → get_or (solve_of n a ipiv b work).work j nan ≡ get_or work j nan
  solve-outside j outside below =
      let other : (k : ℕ) → k < n → j ≡ b + k → ⊥ = λ k h e. ⊎_elim (λ l. omega arith) (λ l. omega arith) outside in
      solve-keeps n a ipiv b (λ p. j ≡ p → ⊥) (λ s. get_or s j nan ≡ get_or work j nan)
      (λ p x s q e. get_or-set_other s p j x nan q ∙ e) other (λ k h. other (get_or ipiv k 0) (below k h)) work refl

-- an entry that changes places with itself stays
swapped : (k p : ℕ) (work : List Float) → k < length work → p < length work
    → swap_entries_of k p work ≡ swap work k p
swapped k p work low high =
    let two = swap_is work k p nan low high in
    ⊎_elim
    (λ e. let same : swap work k k ≡ work = sym (swap_is work k k nan low low) ∙ simp (set-get_or work k nan) in
    rw (e.0, e.1) (sym same))
    (λ e. rw e.0 two)
    (eqb_tells p k)

-- a row's exchange and elimination, with std's `swap`
pub forward-step : (n a b k : ℕ) (ipiv : List ℕ) (work : List Float) → b + k < length work
    → b + get_or ipiv k 0 < length work → let w = swap work (b + k) (b + get_or ipiv k 0) in
    forward_step_of n a ipiv b k work ≡ less_of n a b k (get_or w (b + k) nan) (k + 1) n w
unfolding forward_step_of
forward-step n a b k ipiv work low high = rw (swapped (b + k) (b + get_or ipiv k 0) work low high) refl

-- for a function's attribute: a loop that exchanges entries of two rows, and one that exchanges two and eliminates
pub ruleset exchanges = (onward, ended, swap_is, ne_eqb)

pub ruleset eliminations = (onward, ended, forward-step, get_or-take, length-take-le)
