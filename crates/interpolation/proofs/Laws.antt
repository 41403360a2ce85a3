-- What callers need of the definitions, and two general laws of loops:
--     length-snapshot, snapshot-keeps    a snapshot keeps the question's length and first n numbers
--     copied-column, copied, unchanged    equal lengths are a copy; a refusal leaves the output as it was
--     reaches    what speaks of the turn and is carried on by every turn holds at the loop's end
--     each       a loop over a list that makes one number at each turn, number by number
-- Assumes nothing.
use mathlib.Core.Path.{◌≡◌, refl, sym, ap, ◌∙◌}
use mathlib.Core.Logic.{◌⊎◌, inl, inr, ⊎_elim}
use mathlib.Core.List.{List}
use Prim.Native.Nat.{ℕ, ◌+◌, ◌-◌, ◌*◌, ◌≤◌, ◌<◌}
use native.Mathlib.Omega.{arith}
use lib.Dec.{eqb, ltb}
use lib.ListN.{length, get_or, set, length-set}
use lib.Seq.{get_or-set_same, get_or-set_other, ext_get_or}
use lib.Ieee as Ieee
use lib.Ieee.{Float, nan}
use borrow.Author.Count.{below_more}
use borrow.Author.Tests.{eq-eqb}
use Rattle.std.specs.Prelude.{Option, Some, None}
use Rattle.loops.specs.For.{for}
use Rattle.loops.proofs.For.{keeps, reaches}
use Rattle.loops.proofs.Test.{chosen}
use Rattle.numbers.specs.Float.{zero_f}
use Rattle.common.specs.declared.Settings.{Settings}
use Rattle.common.specs.declared.Common.{Common}
use Rattle.interpolation.specs.declared.Sizes.{Sizes}
use Rattle.interpolation.specs.Snapshot.{header_of, snapshot_at, snapshot_of}
use Rattle.interpolation.specs.Header.{read_header_of}
use Rattle.interpolation.specs.Evaluate.{last_column_of, Interpolated, outputs, interpolate_sized_of, headed_of}
use Rattle.interpolation.specs.Evaluate.{interpolate_of}

-- after holds g i x where before holds x at i
pub record Each (g : ℕ → Float → Float) (before after : List Float) : Type 0 where
  pub long : length after ≡ length before
  pub here : (i : ℕ) → i < length before → get_or after i nan ≡ g i (get_or before i nan)

module _ (g : ℕ → Float → Float) (yi : List Float) where
  -- the numbers below k are made, the others are as they were
  record Upto (k : ℕ) (l : List Float) : Type 0 where
    long : length l ≡ length yi
    made : (i : ℕ) → i < k → get_or l i nan ≡ g i (get_or yi i nan)
    left : (i : ℕ) → k ≤ i → get_or l i nan ≡ get_or yi i nan

  one_more : (k : ℕ) (l : List Float) → k < length yi → Upto k l → Upto (k + 1) (set l k (g k (get_or l k nan)))
  one_more k l h p =
      let x = g k (get_or l k nan) in
      let other : (i : ℕ) → (i ≡ k → ⊥) → get_or (set l k x) i nan ≡ get_or l i nan =
      λ i d. get_or-set_other l k i x nan d
      in
      record {
        long = length-set l k x ∙ p.long;
        made =
            below_more (λ (i : ℕ). get_or (set l k x) i nan ≡ g i (get_or yi i nan)) k
            (λ i b. other i (λ q. omega arith) ∙ p.made i b)
            (get_or-set_same l k x nan (omega (arith, p.long)) ∙ ap (g k) (p.left k (omega arith)));
        left = λ i b. other i (λ q. omega arith) ∙ p.left i (omega arith);
      }

  -- a loop over a list that makes one number at each turn
  pub each : Each g yi (for 0 (length yi) (λ i l. set l i (g i (get_or l i nan))) yi)
  each =
      let none : Upto 0 yi = record { long = refl; made = λ i b. absurd (omega arith); left = λ i b. refl } in
      let all = reaches Upto (λ i l. set l i (g i (get_or l i nan))) (length yi) one_more 0 yi (omega arith) none in
      record { long = all.long; here = all.made }

-- the length, and what stands below n
record Same (n : ℕ) (before after : List Float) : Type 0 where
  long : length after ≡ length before
  first : (i : ℕ) → i < n → get_or after i nan ≡ get_or before i nan

same_set : {n : ℕ} {before after : List Float} (j : ℕ) (x : Float) → n ≤ j → Same n before after
    → Same n before (set after j x)
same_set {n} {before} {after} j x h p = record {
  long = length-set after j x ∙ p.long;
  first = λ i b. get_or-set_other after j i x nan (λ q. omega arith) ∙ p.first i b;
}

module _ (s : Settings) (c : Common) (work question : List Float) where
  kept-header : Same s.n question (header_of s c s.n question)
  unfolding header_of
  kept-header =
      let before : Same s.n question question = record { long = refl; first = λ i b. refl } in
      same_set _ _ (omega arith)
      (same_set _ _ (omega arith)
      (same_set _ _ (omega arith)
      (same_set _ _ (omega arith)
      (same_set _ _ (omega arith)
      (same_set _ _ (omega arith) before)))))

  kept : Same s.n question (snapshot_of s c work question)
  unfolding snapshot_of
  kept =
      keeps (Same s.n question) (snapshot_at s.n work) _ (λ i l h p. same_set _ _ (omega arith) p)
      0 _ (omega arith) kept-header

  pub length-snapshot : length (snapshot_of s c work question) ≡ length question
  length-snapshot = kept.long

  pub snapshot-keeps : (i : ℕ) → i < s.n → get_or (snapshot_of s c work question) i nan ≡ get_or question i nan
  snapshot-keeps = kept.first

-- the numbers of a column
pub last-each : (column yi : List Float) → Each (λ i x. get_or column i nan) yi (last_column_of column yi)
unfolding last_column_of
last-each column yi = each (λ i x. get_or column i nan) yi

-- a column as long as the output is copied whole
pub copied-column : (column yi : List Float) → length column ≡ length yi → last_column_of column yi ≡ column
copied-column column yi h =
    let t = last-each column yi in
    ext_get_or nan (last_column_of column yi) column (t.long ∙ sym h) (λ i b. t.here i (omega (arith, t.long)))

module _ (xi : Float) (cont yi : List Float) where
  pub copied : length cont ≡ length yi → interpolate_of xi cont yi ≡ outputs 0 cont
  unfolding interpolate_of
  copied h = rw (eq-eqb (length cont) (length yi) h, copied-column cont yi h)

  -- done, or the output is as it was
  abbrev Answered : Interpolated → Type 0
  Answered r = (r.number ≡ 0) ⊎ (r.output ≡ yi)

  answered-sized : (z : Sizes) → Answered (interpolate_sized_of xi cont z yi)
  unfolding interpolate_sized_of
  answered-sized z =
      chosen Answered (eqb (length yi) z.n)
      (chosen Answered (ltb (length cont - 6) ((z.nq + 1) * z.n)) (inr refl)
      (chosen Answered (Ieee.eq z.h zero_f) (inr refl) (inl refl)))
      (inr refl)

  answered-headed : (r : Option Sizes) → Answered (headed_of xi cont r yi)
  answered-headed None = inr refl
  answered-headed (Some z) = answered-sized z

  answered : Answered (interpolate_of xi cont yi)
  unfolding interpolate_of
  answered = chosen Answered (eqb (length cont) (length yi)) (inl refl) (answered-headed (read_header_of cont))

  pub unchanged : ((interpolate_of xi cont yi).number ≡ 0 → ⊥) → (interpolate_of xi cont yi).output ≡ yi
  unchanged refused = ⊎_elim (λ e. absurd (refused e)) (λ e. e) answered
