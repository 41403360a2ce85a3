-- A float that fits is the only one of its value, so `round` gives back what the format holds.
--     unique       two floats that fit, of one sign and one value, are the same
--     round-own    a float's own value, rounded, is the float
-- Assumes nothing.
use mathlib.Core.Path.{◌≡◌, sym, ap, ◌∙◌, subst}
use mathlib.Core.Bool.{Bool, cond, ◌&&◌}
use Prim.Native.Nat.{ℕ, suc, ◌+◌, ◌-◌, ◌*◌, ◌/◌, ◌%◌, ◌^◌, ◌≤◌, ◌<◌}
use native.Mathlib.Nat.{mul_assoc, mul_comm, mul-one, mul_right_comm, mul-lt-mul_of_pos_right}
use native.Mathlib.Nat.{lt_of_mul-lt-mul_right, lt_of_not-le}
use native.Mathlib.Omega.{arith}
use lib.IntN.{ℤ, pos, negsuc}
use lib.Dec.{T, eqb, leb, ltb, leb→le, ltb→lt}
use lib.Pow.{pow-add, pow_pos, pow-lt}
use lib.Ieee as Ieee
use lib.Ieee.{Float, nan, inf, fin, Format, prec, emax, low, up, down, size, hid, top, to_bits, round}
use lib.Ieee.Exact.{HasValue, round_exact}
use lib.Ieee.Bits.{of_bits-to_bits}
use lib.Ieee.Digits.{back}
use lib.Ieee.Fits.{down_pos, round-fits, and_l, and_r}
use lib.Ieee.Nearest.{div_same}

-- the pattern of a magnitude in units of the smallest value
abbrev pattern : Format → Bool → ℕ → ℕ
pattern f s n = let k = size n - prec f in cond s (top f) 0 + k * hid f + n / 2 ^ k

scaled : (m n u v p q l : ℕ) → m * u * q ≡ n * v * p → m * u * l * q ≡ n * v * l * p
scaled m n u v p q l h = mul_right_comm (m * u) l q ∙ ap (λ (x : ℕ). x * l) h ∙ mul_right_comm (n * v) p l

pub unique : (f : Format) (s : Bool) (m n : ℕ) (e g : ℤ) → T (Ieee.fits f (fin s m e)) → T (Ieee.fits f (fin s n g))
    → m * up e * down g ≡ n * up g * down e → fin s m e ≡ fin s n g
unfolding Ieee.to_bits
unique f s m n e g p q h =
    let same : m * up e * 2 ^ low f / down e ≡ n * up g * 2 ^ low f / down g =
    div_same (m * up e * 2 ^ low f) (down e) (n * up g * 2 ^ low f) (down g) (down_pos e) (down_pos g)
    (scaled m n (up e) (up g) (down e) (down g) (2 ^ low f) h) in
    sym (of_bits-to_bits f (fin s m e) p) ∙ ap (λ (x : ℕ). Ieee.of_bits f (pattern f s x)) same
    ∙ of_bits-to_bits f (fin s n g) q

of-value : (f : Format) (x : Float) (s : Bool) (m : ℕ) (e : ℤ) → T (Ieee.fits f x) → T (Ieee.fits f (fin s m e))
    → HasValue x s (m * up e) (down e) → x ≡ fin s m e
of-value f nan s m e p q v = absurd v
of-value f (inf t) s m e p q v = absurd v
of-value f (fin t n g) s m e p q v =
    let w = subst (λ (b : Bool). T (Ieee.fits f (fin b n g))) v.0 p in
    ap (λ (b : Bool). fin b n g) v.0 ∙ unique f s n m g e w q v.1

-- what `fits` says of a number that is not 0: few digits, not too fine, not too large
says : (f : Format) (s : Bool) (m : ℕ) (e : ℤ) → T (Ieee.fits f (fin s (suc m) e))
    → (suc m < 2 ^ prec f) × (down e ≤ 2 ^ low f) × (suc m * up e < 2 ^ suc (emax f) * down e)
unfolding Ieee.fits
says f s m e h =
    let a = eqb (suc m % 2) 1 in
    let b = ltb (suc m) (2 ^ prec f) in
    let c = leb (down e) (2 ^ low f) in
    let d = ltb (suc m * up e) (2 ^ suc (emax f) * down e) in (
      ltb→lt (suc m) (2 ^ prec f) (and_r a b (and_l (a && b) c (and_l (a && b && c) d h))),
      leb→le (down e) (2 ^ low f) (and_r (a && b) c (and_l (a && b && c) d h)),
      ltb→lt (suc m * up e) (2 ^ suc (emax f) * down e) (and_r (a && b && c) d h),
    )

-- the value of m · 2^e in units of the smallest value, m · 2^j
pub record InUnits (f : Format) (m : ℕ) (e : ℤ) : Type 0 where
  pub j : ℕ
  pub is : m * up e * 2 ^ low f ≡ m * 2 ^ j * down e

fine : (k l : ℕ) → 2 ^ suc k ≤ 2 ^ l → suc k ≤ l
fine k l h = lt_of_not-le (λ small. let p : 2 ^ l < 2 ^ suc k = pow-lt (omega arith) in omega arith)

in-units : (f : Format) (m : ℕ) (e : ℤ) → down e ≤ 2 ^ low f → InUnits f m e
in-units f m (pos k) h = record {
  j = k + low f;
  is = mul_assoc m (2 ^ k) (2 ^ low f) ∙ ap (λ (x : ℕ). m * x) (sym (pow-add 2 k (low f)))
      ∙ sym (mul-one (m * 2 ^ (k + low f)));
}
in-units f m (negsuc k) h =
    let le = fine k (low f) h in record {
      j = low f - suc k;
      is = ap (λ (x : ℕ). x * 2 ^ low f) (mul-one m)
          ∙ ap (λ (x : ℕ). m * x)
          (ap (λ (x : ℕ). 2 ^ x) (sym (back (low f) (suc k) le)) ∙ pow-add 2 (low f - suc k) (suc k))
          ∙ sym (mul_assoc m (2 ^ (low f - suc k)) (2 ^ suc k));
    }

below : (a b c d e : ℕ) → 0 < b → a * b ≡ d * c → a < e * c → d < e * b
below a b c d e p q h =
    let w : a * b < e * c * b = mul-lt-mul_of_pos_right h p in
    lt_of_mul-lt-mul_right c
    (subst (λ (x : ℕ). x < e * b * c) q (subst (λ (x : ℕ). a * b < x) (mul_right_comm e c b) w))

pub round-own : (f : Format) (s : Bool) (m : ℕ) (e : ℤ) → T (Ieee.fits f (fin s (suc m) e))
    → round f s (suc m * up e) (down e) ≡ fin s (suc m) e
round-own f s m e h =
    let w = says f s m e h in
    let u = in-units f (suc m) e w.1 in
    of-value f (round f s (suc m * up e) (down e)) s (suc m) e (round-fits f s (suc m * up e) (down e)) h
    (round_exact f s (suc m * up e) (down e) (suc m) u.j (down_pos e) w.0
    (subst (λ (x : ℕ). suc m * 2 ^ u.j < x)
    (mul_comm (2 ^ suc (emax f)) (2 ^ low f) ∙ sym (pow-add 2 (low f) (suc (emax f))))
    (below (suc m * up e) (2 ^ low f) (down e) (suc m * 2 ^ u.j) (2 ^ suc (emax f)) (pow_pos (low f)) u.is w.2))
    u.is)
