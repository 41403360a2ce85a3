-- Interpolation against the published formula:
--     evaluated       each number that `evaluate_of` gives is Horner's rule, in floats, on its state's columns
--     interpolated    the same of `interpolate_of`, where none of the refusals applies
--     horner-is       in exact arithmetic Horner's rule is the polynomial; `naturals` have it
-- Assumes nothing.
use mathlib.Core.Path.{◌≡◌, refl, sym, ◌∙◌}
use mathlib.Core.Bool.{false}
use mathlib.Core.List.{List, [], ◌∷◌}
use Prim.Native.Nat.{ℕ, zero, suc, ◌+◌, ◌-◌, ◌*◌, ◌≤◌, ◌<◌}
use native.Mathlib.Nat.{mul_comm, mul_assoc, mul-one, add-mul}
use native.Mathlib.Omega.{arith}
use lib.ListN.{length, get_or, drop}
use lib.Seq.{get_or-take, get_or-drop}
use lib.Ieee as Ieee
use lib.Ieee.{Float, nan}
use borrow.Author.Tests.{eq-eqb, ne_eqb, le-ltb}
use Rattle.loops.specs.For.{for}
use Rattle.loops.proofs.For.{reaches}
use Rattle.numbers.specs.Float.{◌⊕◌, ◌⊖◌, ◌⊗◌, ◌⊘◌, zero_f}
use Rattle.interpolation.specs.declared.Sizes.{Sizes}
use Rattle.interpolation.specs.Header.{Reads}
use Rattle.interpolation.specs.Evaluate.{last_column_of, horner_of, column_in, horner_turn, evaluate_of, outputs}
use Rattle.interpolation.specs.Evaluate.{interpolate_sized_of, interpolate_of}
use Rattle.interpolation.specs.Published.{horner, power, polynomial, Exact, number_at, numbers_at}
use Rattle.interpolation.proofs.Laws.{Each, each, last-each}
use Rattle.interpolation.proofs.Counts.{reads-header}

horner-each : (column : List Float) (s : Float) (yi : List Float)
    → Each (λ i x. get_or column i nan ⊕ s ⊗ x) yi (horner_of column s yi)
unfolding horner_of
horner-each column s yi = each (λ i x. get_or column i nan ⊕ s ⊗ x) yi

module _ (cont yi : List Float) (n nq i : ℕ) (s : Float) (h : i < length yi) (states : length yi ≡ n) where
  -- state i of column j
  entry-is : (j : ℕ) → get_or (column_in cont n j) i nan ≡ number_at cont n i j
  entry-is j = get_or-take n (drop (6 + j * n) cont) i nan (omega arith) ∙ get_or-drop (6 + j * n) cont i nan

  -- Horner's rule on the columns from m to m + k
  abbrev from : ℕ → ℕ → Float
  from m k = horner ◌⊕◌ ◌⊗◌ s (number_at cont n i m) (numbers_at cont n i (m + 1) k)

  -- before turn jb the last jb columns are done
  record Done (jb : ℕ) (l : List Float) : Type 0 where
    begun : 1 ≤ jb
    long : length l ≡ length yi
    value : (m k : ℕ) → k + 1 ≡ jb → m + k ≡ nq → get_or l i nan ≡ from m k

  next : (jb : ℕ) (l : List Float) → jb < nq + 1 → Done jb l → (m k : ℕ) → k + 1 ≡ jb + 1 → m + k ≡ nq
      → number_at cont n i (nq - jb) ⊕ s ⊗ get_or l i nan ≡ from m k
  unfolding horner numbers_at
  next jb l b p m zero e f = absurd (omega (arith, p.begun))
  next jb l b p m (suc k) e f =
      let q : nq - jb ≡ m = omega arith in
      rw (q, p.value (m + 1) k (omega arith) (omega arith))

  turn : (jb : ℕ) (l : List Float) → jb < nq + 1 → Done jb l → Done (jb + 1) (horner_turn cont n nq s jb l)
  turn jb l b p =
      let t = horner-each (column_in cont n (nq - jb)) s l in
      record {
        begun = omega arith;
        long = t.long ∙ p.long;
        value = λ m k e f. (rw (entry-is (nq - jb)) at (t.here i (rw p.long h))) ∙ next jb l b p m k e f;
      }

  begin : Done 1 (last_column_of (column_in cont n nq) yi)
  unfolding horner numbers_at
  begin =
      let t = last-each (column_in cont n nq) yi in
      record {
        begun = omega arith;
        long = t.long;
        value = λ m k e f.
            let z : k ≡ 0 = omega arith in
            let q : m ≡ nq = omega arith in
            rw (z, q) (t.here i h ∙ entry-is nq);
      }

  all-turns : get_or (for 1 (nq + 1) (horner_turn cont n nq s) (last_column_of (column_in cont n nq) yi)) i nan
      ≡ from 0 nq
  all-turns =
      (reaches Done (horner_turn cont n nq s) (nq + 1) turn 1 (last_column_of (column_in cont n nq) yi) (omega arith)
      begin
      ).value 0 nq refl (omega arith)

pub evaluated : (xi : Float) (cont : List Float) (z : Sizes) (yi : List Float) (i : ℕ) → i < length yi
    → length yi ≡ z.n → get_or (evaluate_of xi cont z yi) i nan
    ≡ horner ◌⊕◌ ◌⊗◌ ((xi ⊖ z.tn) ⊘ z.h) (number_at cont z.n i 0) (numbers_at cont z.n i 1 z.nq)
unfolding evaluate_of
evaluated xi cont z yi i h states = all-turns cont yi z.n z.nq i ((xi ⊖ z.tn) ⊘ z.h) h states

-- the header is read, so that 15 does not apply, nor do the copy, 16 and 17
pub interpolated : (xi : Float) (cont yi : List Float) (z : Sizes) → Reads cont z → (length cont ≡ length yi → ⊥)
    → length yi ≡ z.n → (z.nq + 1) * z.n ≤ length cont - 6 → Ieee.eq z.h zero_f ≡ false
    → ((interpolate_of xi cont yi).number ≡ 0)
    × ((i : ℕ) → i < z.n → get_or (interpolate_of xi cont yi).output i nan
    ≡ horner ◌⊕◌ ◌⊗◌ ((xi ⊖ z.tn) ⊘ z.h) (number_at cont z.n i 0) (numbers_at cont z.n i 1 z.nq))
unfolding interpolate_of interpolate_sized_of
interpolated xi cont yi z r other states columns step =
    let a = ne_eqb (length cont) (length yi) other in
    let b = eq-eqb (length yi) z.n states in
    let c = le-ltb (length cont - 6) ((z.nq + 1) * z.n) columns in
    let read = reads-header cont z r in
    let whole : interpolate_of xi cont yi ≡ outputs 0 (evaluate_of xi cont z yi) = rw (a, read, b, c, step) in
    rw whole (refl, (λ i h. evaluated xi cont z yi i (omega arith) states))

module _ {A : Type 0} (same : A → A → Type 0) (add mul : A → A → A) (unit : A) (exact : Exact same add mul unit)
    (s : A) where
  -- times s^j
  horner-times : (rest : List A) (j : ℕ) (a : A)
      → same (mul (horner add mul s a rest) (power add mul unit s j)) (polynomial add mul unit s j a rest)
  unfolding horner power polynomial
  horner-times [] j a = exact.itself _
  horner-times (b ∷ rest) j a =
      let v = horner add mul s b rest in
      let p = power add mul unit s j in
      let swapped = exact.products _ _ p p (exact.commutes s v) (exact.itself p) in
      let turned = exact.through _ _ _ swapped (exact.associates v s p) in
      let further = exact.through _ _ _ turned (horner-times rest (suc j) b) in
      exact.through _ _ _ (exact.distributes a (mul s v) p)
      (exact.sums _ _ _ _ (exact.itself (mul a p)) further)

  pub horner-is : (a : A) (rest : List A) → same (horner add mul s a rest) (polynomial add mul unit s 0 a rest)
  unfolding power
  horner-is a rest =
      exact.through _ _ _ (exact.back _ _ (exact.units (horner add mul s a rest))) (horner-times rest 0 a)

-- the whole numbers are exact
pub naturals : Exact ◌≡◌ ◌+◌ ◌*◌ 1
naturals = record {
  itself = λ a. refl;
  back = λ a b p. sym p;
  through = λ a b c p q. p ∙ q;
  sums = λ a b c d p q. rw (p, q);
  products = λ a b c d p q. rw (p, q);
  commutes = mul_comm;
  associates = mul_assoc;
  distributes = add-mul;
  units = mul-one;
}
