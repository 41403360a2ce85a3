-- The correctly rounded square root in whole numbers: what IEEE 754 asks of squareRoot, rounding to nearest.
-- A finite float is the fraction num / den (m · 2^e is m · up e / down e), and every order of fractions is
-- multiplied out. No real root is named: a fraction v ≥ 0 lies below the root of x where v² < x, so that half of v
-- does where v² < 4 · x. The theorems at the end are proved in proofs/Rounded.antt; of the standard's other rounding
-- directions and its flags they say nothing.
use Rattle.std.specs.Prelude.{◌≡◌, Bool, true, false, ℕ, suc, ◌+◌, ◌-◌, ◌*◌, ◌^◌, ◌≤◌, ◌<◌, T, ℤ, Float}
use Rattle.std.specs.Float.Ieee as Ieee
use Rattle.std.specs.Float.{nan, inf, fin, binary64}
use Rattle.std.specs.Float.Ieee.{up, down}
use Rattle.std.specs.Float.Ieee.Positive.{num, den, positive}
use Rattle.sqrt.specs.Sqrt.{sqrt_of}

-- half of a / b lies below the root of x, (a / b)² < 4 · x, or above it, 4 · x < (a / b)²
abbrev pub HalfBelow : ℕ → ℕ → Float → Type 0
HalfBelow a b x = a * a * den x < 4 * num x * (b * b)

abbrev pub HalfAbove : ℕ → ℕ → Float → Type 0
HalfAbove a b x = 4 * num x * (b * b) < a * a * den x

-- the middle of y and z, half of y + z, lies below the root of x, or above it
abbrev pub MiddleBelow : Float → Float → Float → Type 0
MiddleBelow y z x = HalfBelow (num y * den z + num z * den y) (den y * den z) x

abbrev pub MiddleAbove : Float → Float → Float → Type 0
MiddleAbove y z x = HalfAbove (num y * den z + num z * den y) (den y * den z) x

-- y is r · 2^p with all 53 digits in use, and the root of x lies from (r - 1/2) · 2^p to (r + 1/2) · 2^p:
-- strictly on both sides, so that a tie cannot occur
pub record HalfUnit (x y : Float) : Type 0 where
  pub r : ℕ
  pub p : ℤ
  pub low : 2 ^ 52 ≤ r
  pub high : r < 2 ^ 53
  pub is : num y * down p ≡ r * up p * den y
  pub from : HalfBelow ((2 * r - 1) * up p) (down p) x
  pub to : HalfAbove ((2 * r + 1) * up p) (down p) x

-- of all finite floats y is the nearest to the root of x: seen from the middle of y and another float z ≥ 0,
-- the root lies on y's side. z is m · 2^e with its sign clear: the other zero has the same value
pub record Nearest (x y : Float) : Type 0 where
  pub under : (m : ℕ) (e : ℤ) → T (Ieee.fits binary64 (fin false m e)) → Ieee.lt (fin false m e) y ≡ true
      → MiddleBelow y (fin false m e) x
  pub over : (m : ℕ) (e : ℤ) → T (Ieee.fits binary64 (fin false m e)) → Ieee.lt y (fin false m e) ≡ true
      → MiddleAbove y (fin false m e) x

-- y is a 64-bit float, finite and above 0, within half a unit of the root and nearest to it
pub record Rounded (x y : Float) : Type 0 where
  pub fits : T (Ieee.fits binary64 y)
  pub finite : T (positive y)
  pub half_unit : HalfUnit x y
  pub nearest : Nearest x y

-- the root of every finite number above 0 is correctly rounded
abbrev pub RootRounded : Type 0
RootRounded =
    (m : ℕ) (e : ℤ) → T (Ieee.fits binary64 (fin false (suc m) e))
    → Rounded (fin false (suc m) e) (sqrt_of (fin false (suc m) e))

-- and no other float is: one that is nearest to the root is the root that is given
abbrev pub RootOnly : Type 0
RootOnly =
    (m : ℕ) (e : ℤ) (n : ℕ) (d : ℤ)
    → T (Ieee.fits binary64 (fin false (suc m) e)) → T (Ieee.fits binary64 (fin false n d))
    → Nearest (fin false (suc m) e) (fin false n d) → sqrt_of (fin false (suc m) e) ≡ fin false n d

-- where x is exactly the square of a float z ≥ 0, the root is z
abbrev pub RootOfSquare : Type 0
RootOfSquare =
    (m : ℕ) (e : ℤ) (n : ℕ) (d : ℤ)
    → T (Ieee.fits binary64 (fin false (suc m) e)) → T (Ieee.fits binary64 (fin false n d))
    → suc m * up e * (down d * down d) ≡ n * up d * (n * up d) * down e
    → sqrt_of (fin false (suc m) e) ≡ fin false n d

-- every other float: both zeros and +infinity give themselves, the rest a NaN
pub record RootOfRest : Type 0 where
  pub zeros : (s : Bool) (e : ℤ) → sqrt_of (fin s 0 e) ≡ fin s 0 e
  pub infinity : sqrt_of (inf false) ≡ inf false
  pub negative : (m : ℕ) (e : ℤ) → sqrt_of (fin true (suc m) e) ≡ nan
  pub minus_infinity : sqrt_of (inf true) ≡ nan
  pub no_number : sqrt_of nan ≡ nan
