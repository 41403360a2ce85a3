-- The digits of the root, turn by turn.
--     Kept               what holds after i turns: root² + remainder, followed by the digits not yet brought down,
--                        is n moved up by 2i digits, and the remainder is at most twice the root
--     starts, turned     it holds at the start, and a turn keeps it
--     root               so the 54 digits q of n · 2^54 have q² ≤ n · 2^54 < (q + 1)²
-- Assumes nothing.
use mathlib.Core.Path.{◌≡◌, refl}
use mathlib.Core.Bool.{Bool, true, false, cond}
use Prim.Native.Nat.{ℕ, suc, ◌+◌, ◌-◌, ◌*◌, ◌/◌, ◌%◌, ◌^◌, ◌≤◌, ◌<◌}
use native.Mathlib.Nat.{pow-suc}
use native.Mathlib.Numerals.{add-one}
use native.Mathlib.Omega.{arith}
use lib.Dec.{leb}
use borrow.Author.Tests.{leb-true, leb-false}
use Rattle.loops.specs.For.{for}
use Rattle.loops.proofs.For.{reaches}
use Rattle.sqrt.specs.declared.Digits.{Digits}
use Rattle.sqrt.specs.Sqrt.{hidden, digit_of, digit_turn, digits_of}

pub record Kept (n i : ℕ) (s : Digits) : Type 0 where
  pub whole : (s.root * s.root + s.remainder) * 2 ^ 54 + s.rest ≡ n * (2 ^ i * 2 ^ i)
  pub close : s.remainder ≤ 2 * s.root
  pub short : s.root < 2 ^ i
  pub left : s.rest < 2 ^ 54

pub starts : (n : ℕ) → n < 2 ^ 54 → Kept n 0 (record { rest = n; remainder = 0; root = 0 })
starts n h = record { whole = omega arith; close = omega arith; short = omega arith; left = h }

-- the sums of one turn, m the remainder with the two digits d that came down
next : (r m d : ℕ) → 2 * r * (2 * r) + (4 * m + d) ≡ 4 * (r * r + m) + d
next r m d = omega arith

tried : (r m d : ℕ) → 4 * r + 1 ≤ 4 * m + d
    → (2 * r + 1) * (2 * r + 1) + (4 * m + d - (4 * r + 1)) ≡ 4 * (r * r + m) + d
tried r m d h = omega arith

moves : (n p a b x y : ℕ) → a * 2 ^ 54 + x ≡ n * (p * p) → b ≡ 4 * a + x / hidden → y ≡ 4 * (x % hidden)
    → b * 2 ^ 54 + y ≡ n * (2 * p * (2 * p))
moves n p a b x y h g k = rw (g, k) (omega arith)

pub turned : (n i : ℕ) (s : Digits) → Kept n i s → Kept n (i + 1) (digit_of s)
unfolding digit_of
turned n i s k =
    go (leb (4 * r + 1) (4 * m + d)) (leb-true (4 * r + 1) (4 * m + d)) (leb-false (4 * r + 1) (4 * m + d))
  where
    r : ℕ
    r = s.root

    m : ℕ
    m = s.remainder

    d : ℕ
    d = s.rest / hidden

    p : 2 ^ (i + 1) ≡ 2 * 2 ^ i
    p = rw add-one (omega (arith, pow-suc 2 i))

    go : (t : Bool) → (t ≡ true → 4 * r + 1 ≤ 4 * m + d) → (t ≡ false → 4 * m + d < 4 * r + 1)
        → Kept n (i + 1) (cond t
        (record { rest = 4 * (s.rest % hidden); remainder = 4 * m + d - (4 * r + 1); root = 2 * r + 1 })
        (record { rest = 4 * (s.rest % hidden); remainder = 4 * m + d; root = 2 * r }))
    go true is not =
        let h : 4 * r + 1 ≤ 4 * m + d = is refl in
        record {
          whole = rw p (moves n (2 ^ i) (r * r + m) _ s.rest _ k.whole (tried r m d h) refl);
          close = omega (arith, k.close, k.left);
          short = rw p (omega (arith, k.short));
          left = omega arith;
        }
    go false is not =
        let h : 4 * m + d < 4 * r + 1 = not refl in
        record {
          whole = rw p (moves n (2 ^ i) (r * r + m) _ s.rest _ k.whole (next r m d) refl);
          close = omega arith;
          short = rw p (omega (arith, k.short));
          left = omega arith;
        }

-- when all digits are down, none is left
all-down : (n a x : ℕ) → a * 2 ^ 54 + x ≡ n * (2 ^ 54 * 2 ^ 54) → x < 2 ^ 54 → a ≡ n * 2 ^ 54
all-down n a x h l = omega arith

pub record Root (n q : ℕ) : Type 0 where
  pub low : q * q ≤ n * 2 ^ 54
  pub high : n * 2 ^ 54 < suc q * suc q
  pub short : q < 2 ^ 54

pub root : (n : ℕ) → n < 2 ^ 54 → Root n (digits_of n)
unfolding digits_of
root n h =
    let first : Digits = record { rest = n; remainder = 0; root = 0 } in
    let s = for 0 54 digit_turn first in
    let k = reaches (Kept n) digit_turn 54 (λ i t l. turned n i t) 0 first (omega arith) (starts n h) in
    let e = all-down n (s.root * s.root + s.remainder) s.rest k.whole k.left in
    record { low = omega arith; high = omega (arith, k.close); short = k.short }
