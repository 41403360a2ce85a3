-- A start is refused by the first row of its table whose condition holds, and each row is returned exactly then.
--     first-row         the refusal of a start is that of the first row that holds
--     exactly-first     each row is returned exactly if it holds and no earlier one does
--     at-most-eleven    every refusal is by 1 to 11
-- Assumes nothing.
use mathlib.Core.Bool.{Bool, true, false, cond}
use mathlib.Core.List.{List, [], ◌∷◌, ◌++◌}
use mathlib.Core.Logic.{◌⊎◌, inl, inr, ◌≢◌}
use mathlib.Core.Path.{◌≡◌, refl, sym, ◌∙◌}
use Prim.Native.Nat.{ℕ, zero, suc, ◌+◌, ◌-◌, ◌≤◌, ◌<◌}
use native.Mathlib.Omega.{arith}
use lib.Dec.{eqb, ltb, lit<, lit≤}
use lib.ListN.{length, get_or}
use lib.Ieee as Ieee
use lib.Ieee.{Float, nan}
use Rattle.std.proofs.Math.Nat.{suc-ne-zero}
use Rattle.loops.proofs.Test.{differs}
use Rattle.loops.specs.For.{times}
use Rattle.numbers.specs.Float.{◌⊖◌, zero_f}
use Rattle.numbers.specs.Sign.{signum_of, refused}
use Rattle.refusals.specs.declared.Options.{Options}
use Rattle.refusals.specs.declared.Lengths.{Lengths}
use Rattle.refusals.specs.Refusal.{Entry, none, or_else}
use Rattle.refusals.specs.Start.{size_refusal, limit_refusal, is_negative}
use Rattle.refusals.specs.Start.{tolerance_at, tolerance_refusal, step_refusal, start_refusal_of}
use Rattle.refusals.specs.FirstStep.{StepRefused}
use Rattle.refusals.specs.Rows.{Row, row, ExactlyFirst, NoneHolds}
use Rattle.refusals.specs.Table.{LargeSetting, BelowZero, tolerance_rows}
use Rattle.refusals.specs.Table.{step_row, start_rows}
use Rattle.refusals.proofs.Decides.{Decides, equal, smaller, denied, either}
use Rattle.refusals.proofs.FirstStep.{step-decides}
use Rattle.refusals.proofs.Rows.{IsFirst, Numbered, first-also, first_else, Each}
use Rattle.refusals.proofs.Rows.{of-first, numbered, After, exactly}
use Rattle.refusals.proofs.Sections.{size_rows, first-sizes, large, four, limits-are, tolerances-by}

-- ---- settings

module _ (o : Options) where
  abbrev r4 : Row
  r4 = row 4 (LargeSetting o)

  abbrev r5 : Row
  r5 = row 5 (o.max_steps ≡ 0)

  abbrev r6 : Row
  r6 = row 6 (o.maxcor ≡ 0)

  abbrev r7 : Row
  r7 = row 7 ((o.mxordn ≡ 0) ⊎ (o.mxords ≡ 0))

  abbrev limit_rows : List Row
  limit_rows = r4 ∷ r5 ∷ r6 ∷ r7 ∷ row 8 (o.banded ≢ 0) ∷ []

  first-limits : IsFirst limit_rows (limit_refusal o)
  first-limits =
      rw (limits-are o)
      (first-also (r4 ∷ r5 ∷ r6 ∷ r7 ∷ []) _ _ 8
      (suc-ne-zero 3, (suc-ne-zero 4, (suc-ne-zero 5, (suc-ne-zero 6, tt))))
      (first-also (r4 ∷ r5 ∷ r6 ∷ []) _ _ 7 (suc-ne-zero 3, (suc-ne-zero 4, (suc-ne-zero 5, tt)))
      (first-also (r4 ∷ r5 ∷ []) _ _ 6 (suc-ne-zero 3, (suc-ne-zero 4, tt))
      (first-also (r4 ∷ []) _ _ 5 (suc-ne-zero 3, tt) (first-also [] none (large o) 4 tt refl (four o)) (equal _ _))
      (equal _ _))
      (either _ _ (equal _ _) (equal _ _)))
      (denied (eqb o.banded 0) (equal o.banded 0)))

-- ---- tolerances

pub below : (list : List Float) (i : ℕ) → Decides (is_negative list i) (BelowZero list i)
below list i = by (ltb i (length list)) (smaller i (length list))
  where
    by : (t : Bool) → Decides t (i < length list)
        → Decides (cond t (Ieee.lt (get_or list i nan) zero_f) false) (BelowZero list i)
    by true d = (λ e. (d.0 refl, e), λ e h. differs (sym e ∙ h.1))
    by false d = (λ e. differs e, λ e h. d.1 refl h.0)

module _ (rtol atol : List Float) where
  first-tolerances : (rest : List Row) (y : Entry) → IsFirst rest y → (k i : ℕ)
      → IsFirst (tolerance_rows rtol atol k i rest) (or_else (times (tolerance_at rtol atol) k i none) y)
  unfolding times or_else
  first-tolerances rest y f zero i = f
  first-tolerances rest y f (suc k) i =
      tolerances-by rtol atol rest y k i (is_negative rtol i) (is_negative atol i) (first-tolerances rest y f k (i + 1))
      (below rtol i) (below atol i)

-- ---- the first step

module _ (x0 xend : Float) (o : Options) where
  first_step : IsFirst (step_row x0 xend o ∷ []) (step_refusal x0 xend o)
  unfolding step_refusal
  first_step =
      by (eqb o.has_first_step 0) (refused o.first_step (signum_of (xend ⊖ x0)))
      (equal o.has_first_step 0) (step-decides o.first_step (xend ⊖ x0))
    where
      by : (s t : Bool) → Decides s (o.has_first_step ≡ 0)
          → Decides t (StepRefused o.first_step (xend ⊖ x0))
          → IsFirst (step_row x0 xend o ∷ []) (cond s none (cond t (step_row x0 xend o).refusal none))
      by true t d f = inr (λ h. h.0 (d.0 refl), refl)
      by false true d f = inl ((d.1 refl, f.0 refl), refl)
      by false false d f = inr (λ h. f.1 refl h.1, refl)

-- ---- the whole table

pub first-row : (x0 xend : Float) (o : Options) (l : Lengths) (rtol atol : List Float)
    → IsFirst (start_rows x0 xend o l rtol atol) (start_refusal_of x0 xend o l rtol atol)
unfolding start_refusal_of tolerance_refusal
first-row x0 xend o l rtol atol =
    let z : l.n - 0 ≡ l.n = omega arith in
    let tolerances = times (tolerance_at rtol atol) l.n 0 none in
    let step = step_row x0 xend o ∷ [] in
    let last = tolerance_rows rtol atol l.n 0 step in
    let rest = or_else tolerances (step_refusal x0 xend o) in
    rw z
    (first_else (size_rows l) (limit_rows o ++ last) (size_refusal l) (or_else (limit_refusal o) rest)
    (suc-ne-zero 0, (suc-ne-zero 1, (suc-ne-zero 2, tt))) (first-sizes l)
    (first_else (limit_rows o) last (limit_refusal o) rest
    (suc-ne-zero 3, (suc-ne-zero 4, (suc-ne-zero 5, (suc-ne-zero 6, (suc-ne-zero 7, tt))))) (first-limits o)
    (first-tolerances rtol atol step (step_refusal x0 xend o) (first_step x0 xend o) l.n 0)))

-- ---- where none of the tolerances is below 0

pub none-tolerances : (rtol atol : List Float) (rest : List Row) → ((i : ℕ) → BelowZero rtol i → ⊥)
    → ((i : ℕ) → BelowZero atol i → ⊥) → NoneHolds rest → (k i : ℕ) → NoneHolds (tolerance_rows rtol atol k i rest)
none-tolerances rtol atol rest r a h zero i = h
none-tolerances rtol atol rest r a h (suc k) i = (r i, (a i, none-tolerances rtol atol rest r a h k (i + 1)))

-- ---- what holds of every refusal by 1 to 11 holds of each row's

module _ (P : Entry → Type 0) (h : (r : Entry) → 1 ≤ r.number → r.number ≤ 11 → P r) where
  each-tolerance : (rtol atol : List Float) (rest : List Row) → Each P rest → (k i : ℕ)
      → Each P (tolerance_rows rtol atol k i rest)
  each-tolerance rtol atol rest e zero i = e
  each-tolerance rtol atol rest e (suc k) i =
      (h _ (lit≤ tt) (lit≤ tt), (h _ (lit≤ tt) (lit≤ tt), each-tolerance rtol atol rest e k (i + 1)))

  pub each_row : (x0 xend : Float) (o : Options) (l : Lengths) (rtol atol : List Float)
      → Each P (start_rows x0 xend o l rtol atol)
  each_row x0 xend o l rtol atol = (
    h _ (lit≤ tt) (lit≤ tt),
    (
      h _ (lit≤ tt) (lit≤ tt),
      (
        h _ (lit≤ tt) (lit≤ tt),
        (
          h _ (lit≤ tt) (lit≤ tt),
          (
            h _ (lit≤ tt) (lit≤ tt),
            (
              h _ (lit≤ tt) (lit≤ tt),
              (
                h _ (lit≤ tt) (lit≤ tt),
                (
                  h _ (lit≤ tt) (lit≤ tt),
                  each-tolerance rtol atol _ (h _ (lit≤ tt) (lit≤ tt), tt) l.n 0,
                ),
              ),
            ),
          ),
        ),
      ),
    ),
  )

pub at-most-eleven : (x0 xend : Float) (o : Options) (l : Lengths) (rtol atol : List Float)
    → (start_refusal_of x0 xend o l rtol atol).number ≤ 11
at-most-eleven x0 xend o l rtol atol =
    of-first (λ r. r.number ≤ 11) (lit≤ tt) (start_rows x0 xend o l rtol atol) (start_refusal_of x0 xend o l rtol atol)
    (each_row (λ r. r.number ≤ 11) (λ r low small. small) x0 xend o l rtol atol) (first-row x0 xend o l rtol atol)

pub numbered-rows : (x0 xend : Float) (o : Options) (l : Lengths) (rtol atol : List Float)
    → Numbered (start_rows x0 xend o l rtol atol)
numbered-rows x0 xend o l rtol atol =
    numbered (start_rows x0 xend o l rtol atol)
    (each_row (λ r. 1 ≤ r.number) (λ r low small. low) x0 xend o l rtol atol)

-- ---- the places of a start's rows

abbrev place : ℕ → Entry → ℕ
place n r =
    cond (ltb r.number 9) r.number
    (cond (eqb r.number 9) (9 + (r.index + r.index))
    (cond (eqb r.number 10) (10 + (r.index + r.index)) (9 + (n + n))))

after-tolerances : (n : ℕ) (rtol atol : List Float) (r : Row) → r.refusal.number ≡ 11 → (k i j : ℕ) → i + k ≡ n
    → j < 9 + (i + i) → After (place n) j (tolerance_rows rtol atol k i (r ∷ []))
after-tolerances n rtol atol r e zero i j h q = rw e (omega arith, tt)
after-tolerances n rtol atol r e (suc k) i j h q =
    (q, (omega arith, after-tolerances n rtol atol r e k (i + 1) (10 + (i + i)) (omega arith) (omega arith)))

pub exactly-first : (x0 xend : Float) (o : Options) (l : Lengths) (rtol atol : List Float)
    → let x = start_refusal_of x0 xend o l rtol atol in
    ExactlyFirst (λ r. x ≡ r) (x.number ≡ 0) (Unit {0}) (start_rows x0 xend o l rtol atol)
exactly-first x0 xend o l rtol atol =
    exactly (place l.n) (start_rows x0 xend o l rtol atol) 0 (start_refusal_of x0 xend o l rtol atol) (Unit {0}) tt
    (numbered-rows x0 xend o l rtol atol) (
      lit< tt,
      (
        lit< tt,
        (
          lit< tt,
          (
            lit< tt,
            (
              lit< tt,
              (
                lit< tt,
                (
                  lit< tt,
                  (
                    lit< tt,
                    after-tolerances l.n rtol atol _ refl l.n 0 8 (omega arith) (omega arith),
                  ),
                ),
              ),
            ),
          ),
        ),
      ),
    )
    (first-row x0 xend o l rtol atol)
