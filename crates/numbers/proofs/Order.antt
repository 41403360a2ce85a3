-- The order of floats, signs, zeros and infinities included, over the library's lemmas on it: here by equations of the
-- tests, as code makes them. A NaN stands in no order.
--     Number, nan-or, lt-number      x is no NaN
--     le_refl, le_of_lt, le_trans    the order
--     total, lt_not_le               of two numbers, one is below the other or the other is at most it, and never both
--     lt_trans                       the order, both sides strict
--     at-most                        the test of two magnitudes
--     same                           two floats above 0 that fit are the same if each is at most the other
-- Assumes nothing.
use mathlib.Core.Path.{◌≡◌, refl, sym, ◌∙◌}
use mathlib.Core.Bool.{Bool, true, false, ◌&&◌, ◌||◌}
use mathlib.Core.Logic.{◌⊎◌, inl, inr}
use Prim.Native.Nat.{ℕ}
use native.Mathlib.Nat.{eq-or-lt_of_le}
use native.Mathlib.Omega.{arith}
use lib.Dec.{T, ltb, leb, eqb, eqb→eq}
use lib.Ieee as Ieee
use lib.Ieee.{Float, nan, inf, fin, binary64}
use lib.Ieee.Bits.{is_true, is_false}
use lib.Ieee.Compare.{differs_from_itself}
use lib.Ieee.Fits.{and_l}
use borrow.Author.Tests.{leb-true, leb-false, lt-ltb, le-ltb, eq-eqb, ne_eqb}
use Rattle.std.proofs.lemmas.Float as Std
use Rattle.std.proofs.lemmas.Float.{T_from_true, T_from_false}
use Rattle.loops.proofs.Test.{differs}
use Rattle.numbers.specs.Float.{zero_f}
use Rattle.numbers.proofs.Bits.{nan_test, no_nan}
use Rattle.numbers.proofs.Unique.{unique}

-- a is at most b: below or level
pub at-most : (a b : ℕ) (q : Bool) → q ≡ eqb a b → (ltb a b || (q && true)) ≡ leb a b
at-most a b q e = go (leb a b) refl
  where
    go : (t : Bool) → leb a b ≡ t → (ltb a b || (q && true)) ≡ t
    go false h =
        let g = leb-false a b h in
        rw (le-ltb a b (omega arith), e, ne_eqb a b (λ r. omega arith))
    go true h = elim (eq-or-lt_of_le (leb-true a b h)) [
      | inl r ↦ rw (le-ltb a b (omega arith), e, eq-eqb a b r)
      | inr l ↦ rw (lt-ltb a b l)
    ]

-- x is no NaN, by the test that code makes
abbrev pub Number : Float → Type 0
Number x = Ieee.ne x x ≡ false

pub nan-or : (x : Float) → (x ≡ nan) ⊎ Number x
nan-or x = go (Ieee.ne x x) refl
  where
    go : (t : Bool) → Ieee.ne x x ≡ t → (x ≡ nan) ⊎ (t ≡ false)
    go true h = inl (differs_from_itself x (T_from_true _ h))
    go false h = inr refl

pub le_refl : (x : Float) → Number x → Ieee.le x x ≡ true
le_refl x p = is_true _ (Std.le_refl x (no_nan x p))

pub le_of_lt : (x y : Float) → Ieee.lt x y ≡ true → Ieee.le x y ≡ true
le_of_lt x y h = is_true _ (Std.le_of_lt x y (T_from_true _ h))

-- what is above something is a number
pub lt-number : (x y : Float) → Ieee.lt x y ≡ true → Number y
lt-number x y h = sym (nan_test y) ∙ is_false _ (Std.le_right x y (Std.le_of_lt x y (T_from_true _ h)))

pub le_trans : (x y z : Float) → Ieee.le x y ≡ true → Ieee.le y z ≡ true → Ieee.le x z ≡ true
le_trans x y z h k = is_true _ (Std.le_trans x y z (T_from_true _ h) (T_from_true _ k))

pub total : (x y : Float) → Number x → Number y → Ieee.lt x y ≡ false → Ieee.le y x ≡ true
total x y p q h = is_true _ (Std.le_of_not-lt x y (no_nan x p) (no_nan y q) (T_from_false _ h))

pub lt_not_le : (x y : Float) → Ieee.lt x y ≡ true → Ieee.le y x ≡ true → ⊥
lt_not_le x y h k = Std.lt_irrefl x (Std.lt_of_lt_of_le x y x (T_from_true _ h) (T_from_true _ k))

pub lt_trans : (x y z : Float) → Number x → Ieee.lt x y ≡ true → Ieee.lt y z ≡ true → Ieee.lt x z ≡ true
lt_trans x y z p h k = is_true _ (Std.lt_trans x y z (T_from_true _ h) (T_from_true _ k))

equal : (x y : Float) → T (Ieee.fits binary64 x) → T (Ieee.fits binary64 y)
    → Ieee.lt zero_f x ≡ true → Ieee.lt zero_f y ≡ true → T (Ieee.eq x y) → x ≡ y
unfolding Ieee.eq Ieee.lt Ieee.of_bits
equal nan y f g p q e = absurd e
equal (inf s) nan f g p q e = absurd e
equal (inf true) (inf t) f g p q e = differs p
equal (inf false) (inf true) f g p q e = differs q
equal (inf false) (inf false) f g p q e = refl
equal (inf s) (fin t n d) f g p q e = absurd e
equal (fin s m k) nan f g p q e = absurd e
equal (fin s m k) (inf t) f g p q e = absurd e
equal (fin true m k) (fin t n d) f g p q e = differs p
equal (fin false m k) (fin true n d) f g p q e = differs q
equal (fin false m k) (fin false n d) f g p q e = unique binary64 false m n k d f g (eqb→eq _ _ (and_l _ _ e))

pub same : (x y : Float) → T (Ieee.fits binary64 x) → T (Ieee.fits binary64 y)
    → Ieee.lt zero_f x ≡ true → Ieee.lt zero_f y ≡ true → Ieee.le x y ≡ true → Ieee.le y x ≡ true → x ≡ y
same x y f g p q h k = elim (Std.lt-or-eq x y (T_from_true _ h)) [
  | inl l ↦ absurd (lt_not_le x y (is_true _ l) k)
  | inr e ↦ equal x y f g p q e
]
