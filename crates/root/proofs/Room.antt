-- Why no candidate of the search lies past infinity's pattern, so that each is a float's. While the exponent's eleven
-- bits are tried, the pattern so far is a multiple of 2^52 and a candidate at most infinity's pattern, which is not
-- kept. After them pattern and bits to come stay below it.
--     first, candidate, next    the search begins so, what it says of the candidate, and each turn keeps it
-- Assumes nothing.
use mathlib.Core.Path.{◌≡◌, refl, sym, ◌∙◌}
use mathlib.Core.Bool.{Bool, true, false, cond}
use mathlib.Core.Logic.{inl, inr}
use Prim.Native.Nat.{ℕ, suc, ◌+◌, ◌-◌, ◌*◌, ◌/◌, ◌%◌, ◌^◌, ◌≤◌, ◌<◌}
use native.Mathlib.Nat.{eq-zero-or-pos, eq-or-lt_of_le, pow-succ', lt_of_not-le}
use native.Mathlib.Omega.{arith}
use lib.Dec.{T}
use lib.Pow.{pow_pos}
use lib.Ieee.{Float, le}
use lib.Ieee.Positive.{positive}
use Rattle.loops.proofs.Test.{differs}
use Rattle.root.specs.Root.{keep_of}
use Rattle.root.specs.Largest.{infinity_bits, product_of}
use Rattle.root.proofs.Monotone.{fails-beyond}

-- an exponent's bit is next, 2^j times the lowest of them
pub record Exponent (j bits bit : ℕ) : Type 0 where
  pub whole : bits % 2 ^ 52 ≡ 0
  pub size : bit ≡ 2 ^ 52 * 2 ^ j
  pub room : bits + 2 * bit ≤ 2 ^ 63

-- before turn i
pub record Room (i bits bit : ℕ) : Type 0 where
  pub exponent : (j : ℕ) → i + j ≡ 10 → Exponent j bits bit
  pub fraction : 10 < i → bits + 2 * bit ≤ infinity_bits

pub first : Room 0 0 0x4000_0000_0000_0000
first = record {
  exponent = λ j e.
      let q : j ≡ 10 = omega arith in
      rw q (record { whole = refl; size = refl; room = omega arith });
  fraction = λ h. absurd (omega arith);
}

pub candidate : (i bits bit : ℕ) → Room i bits bit → bits + bit ≤ infinity_bits
candidate i bits bit r = elim (eq-zero-or-pos (i - 10)) [
  | inl h ↦
      let j = 10 - i in
      let e = r.exponent j (omega arith) in
      omega (arith, e.size, e.room, pow_pos j)
  | inr h ↦ omega (arith, r.fraction (omega arith))
]

module _ (x : Float) (k : ℕ) (above : T (positive x)) where
  below-infinity : (b : ℕ) → b ≤ infinity_bits → le (product_of k b) x ≡ true → b < infinity_bits
  below-infinity b h e = lt_of_not-le (λ g. differs (sym (fails-beyond x k above b g (omega arith)) ∙ e))

  pub next : (i bits bit : ℕ) → Room i bits bit → Room (i + 1) (keep_of x k bits bit) (bit / 2)
  unfolding keep_of
  next i bits bit r = go (le (product_of k (bits + bit)) x) refl
    where
      go : (t : Bool) → le (product_of k (bits + bit)) x ≡ t → Room (i + 1) (cond t (bits + bit) bits) (bit / 2)
      go true q = record {
        exponent = λ j h.
            let e = r.exponent (suc j) (omega arith) in
            record {
              whole = omega (arith, e.whole, e.size, pow-succ' 2 j);
              size = omega (arith, e.size, pow-succ' 2 j);
              room = omega (arith, e.room);
            };
        fraction = λ h. elim (eq-or-lt_of_le {n = 10} {m = i} (omega arith)) [
          | inl a ↦
              let e = r.exponent 0 (omega arith) in
              omega (arith, e.whole, e.size, below-infinity (bits + bit) (candidate i bits bit r) q)
          | inr a ↦ omega (arith, r.fraction a)
        ];
      }
      go false q = record {
        exponent = λ j h.
            let e = r.exponent (suc j) (omega arith) in
            record {
              whole = e.whole;
              size = omega (arith, e.size, pow-succ' 2 j);
              room = omega (arith, e.room);
            };
        fraction = λ h. elim (eq-or-lt_of_le {n = 10} {m = i} (omega arith)) [
          | inl a ↦
              let e = r.exponent 0 (omega arith) in
              omega (arith, e.size, e.room)
          | inr a ↦ omega (arith, r.fraction a)
        ];
      }
