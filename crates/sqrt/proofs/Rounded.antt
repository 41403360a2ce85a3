-- The square root is correctly rounded: the theorems of specs/Rounded.antt.
--     found            the digits and the exponents of x and of its root
--     rounded          half a unit and nearest, from those
--     only, square     the nearest float is one alone, so that the root of a square is exact
--     rest             zeros, infinities, negative numbers and NaN
-- Assumes nothing.
use mathlib.Core.Path.{◌≡◌, refl, sym, ap, ◌∙◌}
use mathlib.Core.Bool.{true, false}
use Prim.Native.Nat.{ℕ, suc, ◌+◌, ◌-◌, ◌*◌, ◌/◌, ◌%◌, ◌^◌, ◌<◌}
use native.Mathlib.Nat.{le_refl, mul-pos}
use native.Mathlib.Omega.{arith}
use lib.Dec.{T}
use lib.IntN.{ℤ}
use lib.Pow.{pow-add, pow_pos}
use lib.Ieee as Ieee
use lib.Ieee.{Float, nan, inf, fin, binary64, up, down, minus, to_bits}
use lib.Ieee.Digits.{minus_val}
use lib.Ieee.Fits.{down_pos}
use lib.Ieee.Bits.{of_bits-fits}
use lib.Ieee.Positive.{num, den, positive, den_pos, positive_of_value}
use borrow.Author.Tests.{ltb-true, lt-ltb}
use Rattle.numbers.proofs.Unique.{unique}
use Rattle.sqrt.specs.Sqrt.{normal_of, even_of, digits_of, sqrt_bits, sqrt_of}
use Rattle.sqrt.specs.Rounded.{HalfBelow, HalfAbove, HalfUnit, Nearest}
use Rattle.sqrt.specs.Rounded.{RootRounded, RootOnly, RootOfSquare, RootOfRest}
use Rattle.sqrt.proofs.Pattern.{normal, evened}
use Rattle.sqrt.proofs.Turns.{root}
use Rattle.sqrt.proofs.Cases.{positive-bits}
use Rattle.sqrt.proofs.Fractions as fractions
use Rattle.sqrt.proofs.Halves as halves
use Rattle.sqrt.proofs.Halves.{Halves}
use Rattle.sqrt.proofs.Value.{units, units-pos, InUnits, cross, written, own, other, below}

-- y is the digits r times 2^k units, x is `size` units, and 4 · x is n · 2^54 squares of y's last place
record Found (x y : Float) : Type 0 where
  n : ℕ
  r : ℕ
  k : ℕ
  size : ℕ
  digits : Halves n r
  root_is : InUnits y (r * 2 ^ k)
  number_is : InUnits x size
  scale : 4 * size * units ≡ n * 2 ^ 54 * (2 ^ k * 2 ^ k)

-- the exponent e is odd, so that e + 1075 can be halved
regroup : (n p a b c d : ℕ) → c * d ≡ a * b → c * (n * p) * d ≡ n * a * (p * b)
regroup n p a b c d h = omega (arith, ap (λ (z : ℕ). z * (n * p)) h)

half : (n e k : ℕ) → k + k ≡ e + 1075 → 4 * (n * 2 ^ e) * units ≡ n * 2 ^ 54 * (2 ^ k * 2 ^ k)
half n e k h =
    let p : 2 ^ k * 2 ^ k ≡ 2 ^ e * 2 ^ 1075 = sym (pow-add 2 k k) ∙ ap (λ (z : ℕ). 2 ^ z) h ∙ pow-add 2 e 1075 in
    rw p (regroup n (2 ^ e) (2 ^ 54) (2 ^ 1075) 4 units refl)

found : (m : ℕ) (e : ℤ) → T (Ieee.fits binary64 (fin false (suc m) e))
    → Found (fin false (suc m) e) (sqrt_of (fin false (suc m) e))
unfolding sqrt_of sqrt_bits
found m e f =
    let b = to_bits binary64 (fin false (suc m) e) in
    let range = positive-bits m e f in
    let x = even_of (normal_of b) in
    let odd = evened (normal_of b) (normal b range.0 range.1) in
    let q = digits_of x.digits in
    let digits = root x.digits (omega (arith, odd.high)) in
    let h = halves.halves x.digits q odd.low odd.high digits in
    let k = (x.exponent + 971) / 2 - 1 in
    record {
      n = x.digits;
      r = q / 2 + q % 2;
      k = k + 53;
      size = x.digits * 2 ^ x.exponent;
      digits = h;
      root_is = written k (q / 2 + q % 2) (omega (arith, odd.last)) h.low h.high;
      number_is = rw odd.same (own m e f);
      scale = half x.digits x.exponent (k + 53) (omega (arith, odd.odd));
    }

module _ (x y : Float) (s : Found x y) where
  -- the last place of y, y itself and 4 · x
  abbrev place : ℕ
  place = 2 ^ s.k

  abbrev mine : ℕ
  mine = s.r * place

  abbrev four : ℕ
  four = s.n * 2 ^ 54 * (place * place)

  -- half of a / b, which is c units, against the root
  lower : (a b c : ℕ) → 0 < b → a * units ≡ c * b → c * c < four → HalfBelow a b x
  lower a b c B p h =
      fractions.half-below units units-pos a b c (num x) (den x) s.size B (den_pos x) p
      (cross x s.size s.number_is) (rw s.scale h)

  upper : (a b c : ℕ) → 0 < b → a * units ≡ c * b → four < c * c → HalfAbove a b x
  upper a b c B p h =
      fractions.half-above units units-pos a b c (num x) (den x) s.size B (den_pos x) p
      (cross x s.size s.number_is) (rw s.scale h)

  half_unit : HalfUnit x y
  half_unit =
      let p = minus s.k 1127 in
      let l = 2 * s.r - 1 in
      let u = 2 * s.r + 1 in
      let n = s.n * 2 ^ 54 in
      let pos = pow_pos s.k in
      record {
        r = s.r;
        p = p;
        low = s.digits.low;
        high = s.digits.high;
        is = fractions.same units units-pos (num y) (den y) mine (s.r * up p) (down p) mine
            (cross y mine s.root_is) (minus_val s.r s.k 1127) refl;
        from = lower (l * up p) (down p) (l * place) (down_pos p) (minus_val l s.k 1127)
            (halves.squared-below l place n (l * place) pos (le_refl (l * place)) s.digits.below);
        to = upper (u * up p) (down p) (u * place) (down_pos p) (minus_val u s.k 1127)
            (halves.squared-above u place n (u * place) pos (le_refl (u * place)) s.digits.above);
      }

  -- the units of y + z
  both : (z : Float) (b : ℕ) → InUnits z b → (num y * den z + num z * den y) * units ≡ (mine + b) * (den y * den z)
  both z b q =
      fractions.sum units units-pos (num y) (den y) mine (num z) (den z) b (cross y mine s.root_is) (cross z b q)

  nearest : Nearest x y
  nearest = record {
    under = λ m e f h.
        let z = fin false m e in
        let o = other m e f in
        let theirs = o.c * 2 ^ o.j in
        lower (num y * den z + num z * den y) (den y * den z) (mine + theirs) (mul-pos (den_pos y) (den_pos z))
        (both z theirs o.is)
        (halves.under s.n s.r s.k o.c o.j s.digits o.few
        (below z y theirs mine o.is s.root_is h));
    over = λ m e f h.
        let z = fin false m e in
        let o = other m e f in
        let theirs = o.c * 2 ^ o.j in
        upper (num y * den z + num z * den y) (den y * den z) (mine + theirs) (mul-pos (den_pos y) (den_pos z))
        (both z theirs o.is)
        (halves.over s.n s.r s.k o.c o.j s.digits o.few
        (below y z mine theirs s.root_is o.is h));
  }

fits-root : (m : ℕ) (e : ℤ) → T (Ieee.fits binary64 (sqrt_of (fin false (suc m) e)))
unfolding sqrt_of
fits-root m e = of_bits-fits binary64 (sqrt_bits (to_bits binary64 (fin false (suc m) e)))

pub rounded : RootRounded
rounded m e f =
    let x = fin false (suc m) e in
    let y = sqrt_of x in
    let s = found m e f in
    let p : 0 < s.r = omega (arith, s.digits.low) in
    record {
      fits = fits-root m e;
      finite = positive_of_value y (s.r * 2 ^ s.k) units s.root_is (mul-pos p (pow_pos s.k));
      half_unit = half_unit x y s;
      nearest = nearest x y s;
    }

-- two floats that are nearest are the same
not-less : (x : Float) (m : ℕ) (e : ℤ) (n : ℕ) (d : ℤ)
    → T (Ieee.fits binary64 (fin false m e)) → T (Ieee.fits binary64 (fin false n d))
    → Nearest x (fin false m e) → Nearest x (fin false n d) → m * up e * down d < n * up d * down e → ⊥
unfolding Ieee.lt
not-less x m e n d f g p q h =
    let t = lt-ltb (m * up e * down d) (n * up d * down e) h in
    fractions.two-sides (m * up e) (down e) (n * up d) (down d) (num x) (den x) (p.over n d g t) (q.under m e f t)

alike : (x y : Float) (n : ℕ) (d : ℤ)
    → T (positive y) → T (Ieee.fits binary64 y) → T (Ieee.fits binary64 (fin false n d))
    → Nearest x y → Nearest x (fin false n d) → y ≡ fin false n d
alike x nan n d a f g p q = absurd a
alike x (inf s) n d a f g p q = absurd a
alike x (fin true m e) n d a f g p q = absurd a
alike x (fin false m e) n d a f g p q =
    unique binary64 false m n e d f g
    (omega (arith, not-less x m e n d f g p q, not-less x n d m e g f q p))

pub only : RootOnly
only m e n d f g q =
    let r = rounded m e f in
    alike (fin false (suc m) e) (sqrt_of (fin false (suc m) e)) n d r.finite r.fits g r.nearest q

pub square : RootOfSquare
unfolding Ieee.lt
square m e n d f g s = only m e n d f g (record {
  under = λ k c h t.
      fractions.square-below (k * up c) (down c) (n * up d) (down d) (suc m * up e) (down e) (down_pos e) s
      (ltb-true _ _ t);
  over = λ k c h t.
      fractions.square_above (k * up c) (down c) (n * up d) (down d) (suc m * up e) (down e) (down_pos e) s
      (ltb-true _ _ t);
})

pub rest : RootOfRest
unfolding sqrt_of
rest = record {
  zeros = λ s e. refl;
  infinity = refl;
  negative = λ m e. refl;
  minus_infinity = refl;
  no_number = refl;
}
