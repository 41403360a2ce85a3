-- A start that no row of the table refuses was given what `Started` says: each condition of the table fails.
--     accepted
-- and what a refusal that is none says of the conditions that it was made of:
--     also-none, else-none
-- Assumes nothing.
use mathlib.Core.Bool.{Bool, true, false, cond, not}
use mathlib.Core.List.{List, [], ◌∷◌}
use mathlib.Core.Path.{◌≡◌, refl}
use mathlib.Core.Logic.{◌⊎◌, inl, inr, ⊎_elim, ◌≢◌}
use Prim.Native.Nat.{ℕ, zero, suc, ◌+◌, ◌≤◌, ◌<◌}
use native.Mathlib.Omega.{arith}
use borrow.Author.Tests.{eqb-true, eqb-false}
use lib.Dec.{eqb}
use lib.Ieee.{Float}
pub use Rattle.std.proofs.lemmas.Bool.{not-false}
use Rattle.std.proofs.lemmas.Bool.{cases_eq, false_from_ne_true}
use Rattle.numbers.specs.Float.{◌⊖◌}
use Rattle.numbers.specs.Sign.{signum_of, refused}
use Rattle.common.specs.Layout.{work_length, question_length}
use Rattle.common.specs.Limits.{max_states}
use Rattle.common.specs.SessionWords.{session_length}
use Rattle.refusals.specs.declared.Options.{Options}
use Rattle.refusals.specs.declared.Lengths.{Lengths}
use Rattle.refusals.specs.Refusal.{Entry, plain, also_of, or_else}
use Rattle.refusals.specs.Start.{is_negative, start_refusal_of}
use Rattle.refusals.specs.Rows.{Row, NoneHolds}
use Rattle.refusals.specs.Table.{NotOneOrN, WrongList, WrongSlice, LargeSetting, BelowZero, tolerance_rows}
use Rattle.refusals.specs.Table.{step_row, start_rows}
use Rattle.refusals.proofs.Decides.{Decides}
use Rattle.refusals.proofs.FirstStep.{step-decides}
use Rattle.refusals.proofs.Rows.{holds-none}
use Rattle.refusals.proofs.Table.{below, first-row, numbered-rows}

-- ---- lengths, settings, tolerances and first step in their ranges

pub record Sizes (l : Lengths) : Type 0 where
  pub n : l.n ≤ max_states
  pub rtol : (l.rtol ≡ 1) ⊎ (l.rtol ≡ l.n)
  pub atol : (l.atol ≡ 1) ⊎ (l.atol ≡ l.n)
  pub work : l.work ≡ work_length l.n
  pub pivots : l.pivots ≡ l.n
  pub session : l.session ≡ session_length
  pub question : l.question ≡ question_length l.n

pub record WithinLimits (o : Options) : Type 0 where
  pub maxsteps : (1 ≤ o.max_steps) × (o.max_steps ≤ 1000000)
  pub mxordn : (1 ≤ o.mxordn) × (o.mxordn ≤ 1000000)
  pub mxords : (1 ≤ o.mxords) × (o.mxords ≤ 1000000)
  pub maxcor : (1 ≤ o.maxcor) × (o.maxcor ≤ 1000000)
  pub msbp : o.msbp ≤ 1000000
  pub mxncf : o.mxncf ≤ 1000000
  pub banded : o.banded ≡ 0

-- no tolerance is below 0; a first step that is given is none of 11
pub record Started (x0 xend : Float) (o : Options) (l : Lengths) (rtol atol : List Float) : Type 0 where
  pub sizes : Sizes l
  pub limits : WithinLimits o
  pub relative : (i : ℕ) → i < l.n → is_negative rtol i ≡ false
  pub absolute : (i : ℕ) → i < l.n → is_negative atol i ≡ false
  pub step : (o.has_first_step ≡ 0) ⊎ (refused o.first_step (signum_of (xend ⊖ x0)) ≡ false)

-- ---- one condition

also-at : (r : Entry) (e b : Bool) (k : ℕ) → eqb r.number 0 ≡ e → 1 ≤ k
    → (cond e (cond b (plain k) r) r).number ≡ 0 → (r.number ≡ 0) × (b ≡ false)
also-at r true true k p h q = absurd (omega arith)
also-at r true false k p h q = (q, refl)
also-at r false b k p h q = absurd (eqb-false _ _ p q)

pub also-none : (r : Entry) (b : Bool) (k : ℕ) → 1 ≤ k → (also_of r b k).number ≡ 0 → (r.number ≡ 0) × (b ≡ false)
unfolding also_of
also-none r b k h q = also-at r (eqb r.number 0) b k refl h q

else-at : (a b : Entry) (e : Bool) → eqb a.number 0 ≡ e → (cond e b a).number ≡ 0
    → (a.number ≡ 0) × (b.number ≡ 0)
else-at a b true p q = (eqb-true _ _ p, q)
else-at a b false p q = absurd (eqb-false _ _ p q)

pub else-none : (a b : Entry) → (or_else a b).number ≡ 0 → (a.number ≡ 0) × (b.number ≡ 0)
unfolding or_else
else-none a b q = else-at a b (eqb a.number 0) refl q

pub same : (a b : ℕ) → not (eqb a b) ≡ false → a ≡ b
same a b p = eqb-true a b (not-false (eqb a b) p)

-- ---- where a condition fails

not-decided : {P : Type 0} (t : Bool) → Decides t P → (P → ⊥) → t ≡ false
not-decided t d n = false_from_ne_true t (λ e. n (d.0 e))

is-equal : (a b : ℕ) → (a ≢ b → ⊥) → a ≡ b
is-equal a b n = ⊎_elim (λ e. e) (λ e. absurd (n e)) (cases_eq a b)

one-or-n : (len n : ℕ) → (NotOneOrN len n → ⊥) → (len ≡ 1) ⊎ (len ≡ n)
one-or-n len n h = ⊎_elim inl (λ e. inr (is-equal len n (λ d. h (e, d)))) (cases_eq len 1)

sizes-hold : (l : Lengths) → (max_states < l.n → ⊥) → (WrongList l → ⊥) → (WrongSlice l → ⊥) → Sizes l
sizes-hold l one two three = record {
  n = omega (arith, one);
  rtol = one-or-n _ _ (λ h. two (inl h));
  atol = one-or-n _ _ (λ h. two (inr h));
  work = is-equal _ _ (λ h. three (inl h));
  pivots = is-equal _ _ (λ h. three (inr (inl h)));
  session = is-equal _ _ (λ h. three (inr (inr (inl h))));
  question = is-equal _ _ (λ h. three (inr (inr (inr h))));
}

at-most : (a m : ℕ) → (m < a → ⊥) → a ≤ m
at-most a m h = omega arith

at-least : (a : ℕ) → a ≢ 0 → 1 ≤ a
at-least a h = omega arith

limits-hold : (o : Options) → (LargeSetting o → ⊥) → o.max_steps ≢ 0 → o.maxcor ≢ 0
    → ((o.mxordn ≡ 0) ⊎ (o.mxords ≡ 0) → ⊥) → (o.banded ≢ 0 → ⊥) → WithinLimits o
limits-hold o four five six seven eight = record {
  maxsteps = (at-least _ five, at-most _ _ (λ h. four (inl h)));
  mxordn = (at-least _ (λ e. seven (inl e)), at-most _ _ (λ h. four (inr (inl h))));
  mxords = (at-least _ (λ e. seven (inr e)), at-most _ _ (λ h. four (inr (inr (inl h)))));
  maxcor = (at-least _ six, at-most _ _ (λ h. four (inr (inr (inr (inl h))))));
  msbp = at-most _ _ (λ h. four (inr (inr (inr (inr (inl h))))));
  mxncf = at-most _ _ (λ h. four (inr (inr (inr (inr (inr h))))));
  banded = is-equal _ _ eight;
}

-- ---- tolerances, and the rows after them

module _ (rtol atol : List Float) (rest : List Row) where
  none_after : (k i : ℕ) → NoneHolds (tolerance_rows rtol atol k i rest) → NoneHolds rest
  none_after zero i h = h
  none_after (suc k) i h = none_after k (i + 1) h.1.1

  abbrev Neither : ℕ → Type 0
  Neither j = (BelowZero rtol j → ⊥) × (BelowZero atol j → ⊥)

  neither-below : (k i j : ℕ) → NoneHolds (tolerance_rows rtol atol k i rest) → i ≤ j → j < i + k → Neither j
  neither-below zero i j h a b = absurd (omega arith)
  neither-below (suc k) i j h a b = by (eqb j i) refl (h.0, h.1.0) (λ c d. neither-below k (i + 1) j h.1.1 c d)
    where
      by : (e : Bool) → eqb j i ≡ e → Neither i → (i + 1 ≤ j → j < i + 1 + k → Neither j) → Neither j
      by true p here on = let s : j ≡ i = eqb-true _ _ p in rw s here
      by false p here on =
          let s : j ≡ i → ⊥ = eqb-false _ _ p in
          on (omega arith) (omega arith)

-- ---- the whole table

pub accepted : (x0 xend : Float) (o : Options) (l : Lengths) (rtol atol : List Float)
    → (start_refusal_of x0 xend o l rtol atol).number ≡ 0 → Started x0 xend o l rtol atol
accepted x0 xend o l rtol atol q =
    let h : NoneHolds (start_rows x0 xend o l rtol atol) =
    holds-none (start_rows x0 xend o l rtol atol) (start_refusal_of x0 xend o l rtol atol)
    (numbered-rows x0 xend o l rtol atol) (first-row x0 xend o l rtol atol) q in
    let t = h.1.1.1.1.1.1.1.1 in
    let step = step_row x0 xend o ∷ [] in
    record {
      sizes = sizes-hold l h.0 h.1.0 h.1.1.0;
      limits = limits-hold o h.1.1.1.0 h.1.1.1.1.0 h.1.1.1.1.1.0 h.1.1.1.1.1.1.0
          h.1.1.1.1.1.1.1.0;
      relative = λ i m.
          not-decided _ (below rtol i) (neither-below rtol atol step l.n 0 i t (omega arith) (omega arith)).0;
      absolute = λ i m.
          not-decided _ (below atol i) (neither-below rtol atol step l.n 0 i t (omega arith) (omega arith)).1;
      step =
          ⊎_elim inl
          (λ e.
          inr (not-decided _ (step-decides o.first_step (xend ⊖ x0))
          (λ h. (none_after rtol atol step l.n 0 t).0 (e, h))))
          (cases_eq o.has_first_step 0);
    }
