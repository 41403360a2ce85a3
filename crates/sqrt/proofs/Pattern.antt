-- A pattern above 0 and below infinity's as 53 digits and an exponent, and the same with an odd exponent.
--     zeros, fraction     the place of a fraction's leading digit: from 0 to 51
--     moved               moved up by its leading zeros less 11, that digit stands in place 52
--     low_is, high_is     `normal_of` by the test that the code makes of the exponent's field
--     normal              what `normal_of` gives: 53 digits, the exponent from 1 to 2098
--     evened              what `even_of` makes of that: at most 54 digits, an odd exponent and the same number
-- Assumes nothing.
use mathlib.Core.Path.{◌≡◌, refl}
use mathlib.Core.Bool.{Bool, true, false, cond}
use Prim.Native.Nat.{ℕ, zero, suc, ◌+◌, ◌-◌, ◌*◌, ◌/◌, ◌%◌, ◌^◌, ◌≤◌, ◌<◌}
use native.Mathlib.Nat.{lt_of_not-le, mul-le-mul_right, pow-suc}
use native.Mathlib.Omega.{arith}
use lib.Dec.{eqb}
use lib.Pow.{pow-add, pow_mono, shl_lt}
use lib.Count.{count_leading_zeros, leading_top}
use borrow.Author.Tests.{eqb-true, eqb-false}
use Rattle.sqrt.specs.declared.Normal.{Normal}
use Rattle.sqrt.specs.Sqrt.{hidden, shift_of, normal_at, normal_of, even_of}

-- the place of a fraction's leading digit
pub record Zeros (t : ℕ) : Type 0 where
  pub place : ℕ
  pub is : count_leading_zeros 64 t + suc place ≡ 64
  pub low : 2 ^ place ≤ t
  pub high : t < 2 ^ suc place
  pub under : place < 52

pub zeros : (t : ℕ) → 0 < t → t < hidden → Zeros t
zeros t p h =
    let z = leading_top 64 t p (omega arith) in
    record {
      place = z.0;
      is = z.1;
      low = z.2;
      high = z.3;
      under = lt_of_not-le (λ big. let w : 2 ^ 52 ≤ 2 ^ z.0 = pow_mono big in omega (arith, w, z.2));
    }

-- a subnormal pattern's fraction is not 0
pub fraction : (b : ℕ) → 0 < b → b / hidden ≡ 0 → Zeros (b % hidden)
fraction b p h = zeros (b % hidden) (omega arith) (omega arith)

pub moved : (t : ℕ) → 0 < t → t < hidden → (2 ^ 52 ≤ t * 2 ^ shift_of t) × (t * 2 ^ shift_of t < 2 ^ 53)
moved t p h =
    let z = zeros t p h in
    let j = z.place in
    let s : shift_of t ≡ 52 - j = omega (arith, z.is, z.under) in
    let up : j + (52 - j) ≡ 52 = omega (arith, z.under) in
    let over : suc j + (52 - j) ≡ 53 = omega (arith, z.under) in
    let low : 2 ^ j * 2 ^ (52 - j) ≤ t * 2 ^ (52 - j) = mul-le-mul_right (2 ^ (52 - j)) z.low in
    let high : t * 2 ^ (52 - j) < 2 ^ (suc j + (52 - j)) = shl_lt (suc j) (52 - j) z.high in
    rw s (rw (← pow-add 2 j (52 - j), up) at low, rw over at high)

-- the two ways of `normal_of`
pub low_is : (b : ℕ) → b / hidden ≡ 0
    → normal_of b ≡ record { digits = b % hidden * 2 ^ shift_of (b % hidden); exponent = 53 - shift_of (b % hidden) }
unfolding normal_of normal_at
low_is b h = rw h

high-at : (x t : ℕ) → (x ≡ 0 → ⊥) → normal_at x t ≡ record { digits = t + hidden; exponent = x + 52 }
unfolding normal_at
high-at zero t h = absurd (h refl)
high-at (suc x) t h = refl

pub high_is : (b : ℕ) → (b / hidden ≡ 0 → ⊥)
    → normal_of b ≡ record { digits = b % hidden + hidden; exponent = b / hidden + 52 }
unfolding normal_of
high_is b h = high-at (b / hidden) (b % hidden) h

pub record Normalised (x : Normal) : Type 0 where
  pub low : 2 ^ 52 ≤ x.digits
  pub high : x.digits < 2 ^ 53
  pub first : 1 ≤ x.exponent
  pub last : x.exponent ≤ 2098

normal-at : (x t : ℕ) → x ≤ 2046 → t < hidden → 0 < x + t → Normalised (normal_at x t)
unfolding normal_at
normal-at zero t h g p =
    let q : 0 < t = omega arith in
    let z = zeros t q g in
    record {
      low = (moved t q g).0;
      high = (moved t q g).1;
      first = omega (arith, z.is);
      last = omega (arith, z.is);
    }
normal-at (suc x) t h g p = record { low = omega arith; high = omega arith; first = omega arith; last = omega arith }

pub normal : (b : ℕ) → 0 < b → b < 0x7ff0_0000_0000_0000 → Normalised (normal_of b)
unfolding normal_of
normal b p h = normal-at (b / hidden) (b % hidden) (omega arith) (omega arith) (omega arith)

pub record Evened (x y : Normal) : Type 0 where
  pub low : 2 ^ 52 ≤ y.digits
  pub high : y.digits + 2 ≤ 2 ^ 54
  pub odd : y.exponent % 2 ≡ 1
  pub last : y.exponent ≤ 2097
  pub same : y.digits * 2 ^ y.exponent ≡ x.digits * 2 ^ x.exponent

-- a factor 2 that the exponent lends to the digits
lent : (d e : ℕ) → 1 ≤ e → 2 * d * 2 ^ (e - 1) ≡ d * 2 ^ e
lent d zero h = elim h [ ]
lent d (suc e) h =
    let q : suc e - 1 ≡ e = omega arith in
    rw (q, pow-suc 2 e) (omega arith)

pub evened : (x : Normal) → Normalised x → Evened x (even_of x)
unfolding even_of
evened x n = go (eqb (x.exponent % 2) 0) (eqb-true (x.exponent % 2) 0) (eqb-false (x.exponent % 2) 0)
  where
    go : (t : Bool) → (t ≡ true → x.exponent % 2 ≡ 0) → (t ≡ false → x.exponent % 2 ≡ 0 → ⊥)
        → Evened x (cond t (record { digits = 2 * x.digits; exponent = x.exponent - 1 }) x)
    go true is not =
        let e : x.exponent % 2 ≡ 0 = is refl in
        record {
          low = omega (arith, n.low);
          high = omega (arith, n.high);
          odd = omega (arith, n.first);
          last = omega (arith, n.last);
          same = lent x.digits x.exponent n.first;
        }
    go false is not =
        let e : x.exponent % 2 ≡ 0 → ⊥ = not refl in
        record {
          low = n.low;
          high = omega (arith, n.high);
          odd = omega arith;
          last = omega (arith, n.last);
          same = refl;
        }
