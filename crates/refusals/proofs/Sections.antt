-- The parts of the table of a start: lengths, settings and tolerances, each as its definition decides it (Table.antt).
-- Assumes nothing.
use mathlib.Core.Bool.{Bool, true, false, cond, not, ◌||◌}
use mathlib.Core.List.{List, [], ◌∷◌}
use mathlib.Core.Logic.{inl, inr, ⊎_elim, ◌≢◌}
use mathlib.Core.Path.{◌≡◌, refl, ap, ◌∙◌}
use Prim.Native.Nat.{ℕ, suc, ◌+◌, ◌<◌}
use lib.Dec.{eqb, ltb}
use lib.Ieee.{Float}
use Rattle.std.proofs.Math.Nat.{suc-ne-zero}
use Rattle.loops.specs.For.{times}
use Rattle.loops.proofs.For.{stays-times}
use Rattle.numbers.specs.Float.{zero_f}
use Rattle.common.specs.Layout.{work_length, question_length}
use Rattle.common.specs.Limits.{max_states}
use Rattle.common.specs.SessionWords.{session_length}
use Rattle.refusals.specs.declared.Options.{Options}
use Rattle.refusals.specs.declared.Lengths.{Lengths}
use Rattle.refusals.specs.Refusal.{Entry, none, plain, also_of, in_order, or_else}
use Rattle.refusals.specs.Start.{is_list, length_refusal, size_refusal, large_refusal, limit_refusal}
use Rattle.refusals.specs.Start.{tolerance_at}
use Rattle.refusals.specs.Rows.{Row, row}
use Rattle.refusals.specs.Table.{NotOneOrN, WrongList, WrongSlice, LargeSetting, BelowZero, tolerance_rows}
use Rattle.refusals.proofs.Decides.{Decides, equal, smaller, denied, either}
use Rattle.refusals.proofs.Rows.{IsFirst, first-also, also-same}

-- ---- lengths and settings

module _ (l : Lengths) where
  listed : (len : ℕ) → Decides (not (is_list len l.n)) (NotOneOrN len l.n)
  listed len =
      let d = denied (is_list len l.n) (either (eqb len 1) (eqb len l.n) (equal len 1) (equal len l.n)) in
      (λ e. (λ q. d.0 e (inl q), λ q. d.0 e (inr q)), λ e h. d.1 e (λ q. ⊎_elim h.0 h.1 q))

  abbrev lists : Bool
  lists = not (is_list l.rtol l.n) || not (is_list l.atol l.n)

  abbrev slices : Bool
  slices =
      not (eqb l.work (work_length l.n)) || (not (eqb l.pivots l.n)
      || (not (eqb l.session session_length) || not (eqb l.question (question_length l.n))))

  lists-are : length_refusal l l.n ≡ also_of (also_of none lists 2) slices 3
  unfolding length_refusal in_order
  lists-are =
      also-same _ _ _ 3 (suc-ne-zero 2) ∙ also-same _ _ _ 3 (suc-ne-zero 2) ∙ also-same _ _ _ 3 (suc-ne-zero 2)
      ∙ ap (λ (r : Entry). also_of r slices 3) (also-same none _ _ 2 (suc-ne-zero 1))

  abbrev unequal : (a b : ℕ) → Decides (not (eqb a b)) (a ≢ b)
  unequal a b = denied (eqb a b) (equal a b)

  abbrev pub size_rows : List Row
  size_rows = row 1 (max_states < l.n) ∷ row 2 (WrongList l) ∷ row 3 (WrongSlice l) ∷ []

  two : Decides lists (WrongList l)
  two = either _ _ (listed l.rtol) (listed l.atol)

  three : Decides slices (WrongSlice l)
  three = either _ _ (unequal _ _) (either _ _ (unequal _ _) (either _ _ (unequal _ _) (unequal _ _)))

  pub first-sizes : IsFirst size_rows (size_refusal l)
  unfolding size_refusal
  first-sizes = by (ltb max_states l.n) (smaller max_states l.n)
    where
      by : (t : Bool) → Decides t (max_states < l.n) → IsFirst size_rows (cond t (plain 1) (length_refusal l l.n))
      by true d = inl (d.0 refl, refl)
      by false d =
          inr (
            d.1 refl,
            rw lists-are
                (first-also (row 2 (WrongList l) ∷ []) _ slices 3 (suc-ne-zero 1, tt)
                (first-also [] none lists 2 tt refl two) three),
          )

module _ (o : Options) where
  abbrev pub large : Bool
  large =
      ltb 1000000 o.max_steps || (ltb 1000000 o.mxordn || (ltb 1000000 o.mxords
      || (ltb 1000000 o.maxcor || (ltb 1000000 o.msbp || ltb 1000000 o.mxncf))))

  pub large_is : large_refusal o ≡ also_of none large 4
  unfolding large_refusal in_order
  large_is =
      also-same _ _ _ 4 (suc-ne-zero 3) ∙ also-same _ _ _ 4 (suc-ne-zero 3) ∙ also-same _ _ _ 4 (suc-ne-zero 3)
      ∙ also-same _ _ _ 4 (suc-ne-zero 3) ∙ also-same none _ _ 4 (suc-ne-zero 3)

  pub four : Decides large (LargeSetting o)
  four =
      either _ _ (smaller _ _) (either _ _ (smaller _ _) (either _ _ (smaller _ _)
      (either _ _ (smaller _ _) (either _ _ (smaller _ _) (smaller _ _)))))

  pub limits-are : limit_refusal o ≡ also_of (also_of (also_of (also_of (also_of none large 4) (eqb o.max_steps 0) 5)
      (eqb o.maxcor 0) 6) (eqb o.mxordn 0 || eqb o.mxords 0) 7) (not (eqb o.banded 0)) 8
  unfolding limit_refusal in_order
  limits-are =
      ap (λ (r : Entry). also_of r (not (eqb o.banded 0)) 8) (also-same _ _ _ 7 (suc-ne-zero 6))
      ∙ ap (λ (r : Entry). also_of (also_of (also_of (also_of r (eqb o.max_steps 0) 5) (eqb o.maxcor 0) 6)
      (eqb o.mxordn 0 || eqb o.mxords 0) 7) (not (eqb o.banded 0)) 8) large_is

-- ---- tolerances

module _ (rtol atol : List Float) where
  pub tolerances-by : (rest : List Row) (y : Entry) (k i : ℕ) (s t : Bool)
      → IsFirst (tolerance_rows rtol atol k (i + 1) rest) (or_else (times (tolerance_at rtol atol) k (i + 1) none) y)
      → Decides s (BelowZero rtol i) → Decides t (BelowZero atol i)
      → IsFirst (tolerance_rows rtol atol (suc k) i rest)
      (or_else (times (tolerance_at rtol atol) k (i + 1)
      (cond s (record { number = 9; index = i; value = zero_f })
      (cond t (record { number = 10; index = i; value = zero_f }) none))) y)
  unfolding or_else
  tolerances-by rest y k i true t f d g =
      let nine : Entry = record { number = 9; index = i; value = zero_f } in
      inl (d.0 refl, rw (stays-times (tolerance_at rtol atol) nine (λ j. refl) k (i + 1)))
  tolerances-by rest y k i false true f d g =
      let ten : Entry = record { number = 10; index = i; value = zero_f } in
      inr (d.1 refl, inl (g.0 refl, rw (stays-times (tolerance_at rtol atol) ten (λ j. refl) k (i + 1))))
  tolerances-by rest y k i false false f d g = inr (d.1 refl, inr (g.1 refl, f))
