-- One test that is computed over a whole table, and the law that turns it into the statement at each entry.
--     all, all-at     a test passes at n numbers from a on: then at each of them
--     near, entry     each entry of a table is within n units in the last place of its fraction
-- Assumes nothing.
use mathlib.Core.Path.{subst}
use mathlib.Core.Logic.{inl, inr}
use mathlib.Core.Bool.{Bool, true, false, ◌&&◌}
use Prim.Native.Nat.{ℕ, zero, suc, ◌+◌, ◌-◌, ◌*◌, ◌≤◌, ◌<◌}
use native.Mathlib.Nat.{eq-or-lt_of_le}
use native.Mathlib.Omega.{arith}
use lib.Dec.{T, leb, ltb, leb→le, ltb→lt}
use lib.Ieee.Fits.{and_l, and_r}
use lib.Ieee.{Float, nan, inf, fin, binary64, up, down, of_bits, to_bits}
use Rattle.coefficients.specs.Published.{Ratio, ◌over◌, bottom, AtMost, AtLeast, WithinUnits}

abbrev pub all : ℕ → ℕ → (ℕ → Bool) → Bool
all zero a f = true
all (suc n) a f = f a && all n (suc a) f

pub all-at : (n a : ℕ) (f : ℕ → Bool) → T (all n a f) → (k : ℕ) → a ≤ k → k < a + n → T (f k)
all-at zero a f t k h g = absurd (omega arith)
all-at (suc n) a f t k h g =
    elim (eq-or-lt_of_le h) [
      | inl e ↦ subst (λ (j : ℕ). T (f j)) e (and_l (f a) (all n (suc a) f) t)
      | inr l ↦ all-at n (suc a) f (and_r (f a) (all n (suc a) f) t) k l (omega arith)
    ]

abbrev at_most : Float → Ratio → Bool
at_most nan f = false
at_most (inf s) f = false
at_most (fin true m e) f = false
at_most (fin false m e) (a over b) = leb (m * up e * b) (a * down e)

abbrev at_least : Float → Ratio → Bool
at_least nan f = false
at_least (inf s) f = false
at_least (fin true m e) f = false
at_least (fin false m e) (a over b) = leb (a * down e) (m * up e * b)

at-most : (x : Float) (f : Ratio) → T (at_most x f) → AtMost x f
at-most nan f t = t
at-most (inf s) f t = t
at-most (fin true m e) f t = t
at-most (fin false m e) (a over b) t = leb→le (m * up e * b) (a * down e) t

at-least : (x : Float) (f : Ratio) → T (at_least x f) → AtLeast x f
at-least nan f t = t
at-least (inf s) f t = t
at-least (fin true m e) f t = t
at-least (fin false m e) (a over b) t = leb→le (a * down e) (m * up e * b) t

module _ (n : ℕ) (x : Float) (f : Ratio) where
  abbrev below : Bool
  below = at_most (of_bits binary64 (to_bits binary64 x - n)) f

  abbrev above : Bool
  above = at_least (of_bits binary64 (to_bits binary64 x + n)) f

  abbrev within : Bool
  within = ltb 0 (bottom f) && (below && above)

  is_within : T within → WithinUnits n x f
  is_within t =
      let u = and_r (ltb 0 (bottom f)) (below && above) t in record {
        proper = ltb→lt 0 (bottom f) (and_l (ltb 0 (bottom f)) (below && above) t);
        low = at-most (of_bits binary64 (to_bits binary64 x - n)) f (and_l below above u);
        high = at-least (of_bits binary64 (to_bits binary64 x + n)) f (and_r below above u);
      }

-- orders 1 to m, and at order q the entries from `first q` to `last q`
module _ (n m : ℕ) (first last : ℕ → ℕ) (table : ℕ → ℕ → Float) (formula : ℕ → ℕ → Ratio) where
  abbrev row : ℕ → Bool
  row q = all (last q + 1 - first q) (first q) (λ i. within n (table q i) (formula q i))

  abbrev pub near : Bool
  near = all m 1 row

  pub entry : T near → (q i : ℕ) → 1 ≤ q → q ≤ m → first q ≤ i → i ≤ last q → WithinUnits n (table q i) (formula q i)
  entry t q i l h f g =
      is_within n (table q i) (formula q i)
      (all-at (last q + 1 - first q) (first q) (λ j. within n (table q j) (formula q j))
      (all-at m 1 row t q l (omega arith)) i f (omega arith))
