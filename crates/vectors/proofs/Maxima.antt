-- The maximum from +0 on does not depend on the order of the entries, so four maxima, each of its own entries, come to
-- the same as one.
--     Clean, clean-max        +0, or a float of the format above 0: what a maximum from +0 on is
--     swap, join              two entries in the other order; an entry given to the second of two maxima
--     four-clean, four-top    the four after four more entries, and their largest
--     four-on                 so that the norm's loop may go on from there
-- Assumes nothing.
use mathlib.Core.Path.{◌≡◌, refl, sym, ap, ◌∙◌}
use mathlib.Core.Bool.{Bool, true, false, cond}
use mathlib.Core.Logic.{◌⊎◌, inl, inr, ⊎_elim, ⊎_map}
use mathlib.Core.List.{List}
use Prim.Native.Nat.{ℕ, ◌+◌, ◌≤◌}
use lib.Dec.{T}
use lib.Ieee as Ieee
use lib.Ieee.{Float, nan, binary64}
use lib.Ieee.Compare.{nan_differs}
use lib.Ieee.Fits.{mul-fits}
use Rattle.loops.proofs.Test.{differs}
use Rattle.loops.specs.For.{for}
use Rattle.loops.proofs.For.{again-four}
use Rattle.numbers.specs.Float.{zero_f}
use Rattle.numbers.specs.Order.{max_of}
use Rattle.vectors.specs.declared.Four.{Four}
use Rattle.vectors.specs.Norm.{entry_of, norm_turn}
use Rattle.vectors.specs.Maxima.{four_at, top_of}
use Rattle.numbers.proofs.Order.{Number, nan-or, le_refl, le_of_lt, lt-number, le_trans, total}
use Rattle.numbers.proofs.Order.{lt_not_le, lt_trans, same}
use Rattle.vectors.proofs.Largest.{NanOrLe, itself, zero_number}

abbrev Fits : Float → Type 0
Fits x = T (Ieee.fits binary64 x)

pub record Clean (x : Float) : Type 0 where
  pub way : (x ≡ zero_f) ⊎ (Ieee.lt zero_f x ≡ true)
  pub fits : Fits x

zero-fits : Fits zero_f
unfolding Ieee.fits Ieee.of_bits
zero-fits = tt

pub clean-zero : Clean zero_f
clean-zero = record { way = inl refl; fits = zero-fits }

pub clean-number : (x : Float) → Clean x → Number x
clean-number x p = ⊎_elim (λ e. rw e zero_number) (λ l. lt-number zero_f x l) p.way

-- what is above a maximum from +0 on is above 0
above : (x y : Float) → Clean x → Ieee.lt x y ≡ true → Ieee.lt zero_f y ≡ true
above x y p h = ⊎_elim (λ (e : x ≡ zero_f). rw e at h) (λ l. lt_trans zero_f x y zero_number l h) p.way

-- the two ways of a maximum
pub record Taken (m y r : Float) : Type 0 where
  pub less : Ieee.lt m y ≡ true
  pub is : r ≡ y

pub record Kept (m y r : Float) : Type 0 where
  pub bounds : NanOrLe y m
  pub is : r ≡ m

way : (m y : Float) → Number m → Taken m y (max_of m y) ⊎ Kept m y (max_of m y)
unfolding max_of
way m y p = go (Ieee.lt m y) refl
  where
    go : (t : Bool) → Ieee.lt m y ≡ t
        → Taken m y (cond t y (cond (Ieee.ne m m) y m)) ⊎ Kept m y (cond t y (cond (Ieee.ne m m) y m))
    go true h = inl (record { less = h; is = refl })
    go false h = inr (record {
      bounds = ⊎_elim (λ e. inl e) (λ q. inr (total m y p q h)) (nan-or y);
      is = rw p;
    })

pub clean-max : (m y : Float) → Clean m → Fits y → Clean (max_of m y)
clean-max m y p f =
    ⊎_elim
    (λ (t : Taken m y (max_of m y)). rw t.is (record { way = inr (above m y p t.less); fits = f }))
    (λ (k : Kept m y (max_of m y)). rw k.is p)
    (way m y (clean-number m p))

-- r is the maximum of m, y and z; it is m unless it is above it
record Peak (m y z r : Float) : Type 0 where
  low : Ieee.le m r ≡ true
  left : NanOrLe y r
  right : NanOrLe z r
  one : (r ≡ m) ⊎ (((r ≡ y) ⊎ (r ≡ z)) × (Ieee.lt m r ≡ true))

through : (x y z : Float) → NanOrLe x y → Ieee.le y z ≡ true → NanOrLe x z
through x y z h k = ⊎_map (λ e. e) (λ l. le_trans x y z l k) h

-- a number that is at most y or a NaN is at most y
number-le : (x y : Float) → Number x → NanOrLe x y → Ieee.le x y ≡ true
number-le x y p h = ⊎_elim (λ (e : x ≡ nan). differs (sym (rw e at p) ∙ nan_differs)) (λ l. l) h

module _ (m y z : Float) (p : Clean m) where
  in-turn : Peak m y z (max_of (max_of m y) z)
  in-turn =
      let n = clean-number m p in
      ⊎_elim
      (λ (t : Taken m y (max_of m y)).
      let c = lt-number m y t.less in
      rw t.is
      (⊎_elim
      (λ (u : Taken y z (max_of y z)). rw u.is (record {
        low = le_trans m y z (le_of_lt m y t.less) (le_of_lt y z u.less);
        left = inr (le_of_lt y z u.less);
        right = itself z;
        one = inr (inr refl, lt_trans m y z n t.less u.less);
      }))
      (λ (k : Kept y z (max_of y z)). rw k.is (record {
        low = le_of_lt m y t.less;
        left = itself y;
        right = k.bounds;
        one = inr (inl refl, t.less);
      }))
      (way y z c)))
      (λ (k : Kept m y (max_of m y)).
      rw k.is
      (⊎_elim
      (λ (u : Taken m z (max_of m z)). rw u.is (record {
        low = le_of_lt m z u.less;
        left = through y m z k.bounds (le_of_lt m z u.less);
        right = itself z;
        one = inr (inr refl, u.less);
      }))
      (λ (l : Kept m z (max_of m z)). rw l.is (record {
        low = le_refl m n;
        left = k.bounds;
        right = l.bounds;
        one = inl refl;
      }))
      (way m z n)))
      (way m y n)

  -- y being a number, z goes to the maximum of y first
  in-second : Number y → Peak m y z (max_of m (max_of y z))
  in-second c =
      let n = clean-number m p in
      ⊎_elim
      (λ (t : Taken y z (max_of y z)).
      rw t.is
      (⊎_elim
      (λ (u : Taken m z (max_of m z)). rw u.is (record {
        low = le_of_lt m z u.less;
        left = inr (le_of_lt y z t.less);
        right = itself z;
        one = inr (inr refl, u.less);
      }))
      (λ (k : Kept m z (max_of m z)).
      let l = number-le z m (lt-number y z t.less) k.bounds in
      rw k.is (record {
        low = le_refl m n;
        left = inr (le_trans y z m (le_of_lt y z t.less) l);
        right = inr l;
        one = inl refl;
      }))
      (way m z n)))
      (λ (k : Kept y z (max_of y z)).
      rw k.is
      (⊎_elim
      (λ (u : Taken m y (max_of m y)). rw u.is (record {
        low = le_of_lt m y u.less;
        left = itself y;
        right = k.bounds;
        one = inr (inl refl, u.less);
      }))
      (λ (l : Kept m y (max_of m y)). rw l.is (record {
        low = le_refl m n;
        left = l.bounds;
        right = through z y m k.bounds (number-le y m c l.bounds);
        one = inl refl;
      }))
      (way m y n)))
      (way y z c)

-- there is one maximum
module _ (m y z : Float) (p : Clean m) (f : Fits y) (g : Fits z) where
  -- one of the two that is above m is at most a maximum
  at-most : (s r : Float) → (s ≡ y) ⊎ (s ≡ z) → Ieee.lt m s ≡ true → Peak m y z r → Ieee.le s r ≡ true
  at-most s r o l q =
      number-le s r (lt-number m s l)
      (⊎_elim (λ (e : s ≡ y). rw e q.left) (λ (e : s ≡ z). rw e q.right) o)

  of_format : (s : Float) → (s ≡ y) ⊎ (s ≡ z) → Fits s
  of_format s o = ⊎_elim (λ (e : s ≡ y). rw e f) (λ (e : s ≡ z). rw e g) o

  only : (r s : Float) → Peak m y z r → Peak m y z s → r ≡ s
  only r s a b = go a.one b.one
    where
      go : (r ≡ m) ⊎ (((r ≡ y) ⊎ (r ≡ z)) × (Ieee.lt m r ≡ true))
          → (s ≡ m) ⊎ (((s ≡ y) ⊎ (s ≡ z)) × (Ieee.lt m s ≡ true)) → r ≡ s
      go (inl e) (inl d) = e ∙ sym d
      go (inl e) (inr d) = absurd (lt_not_le m s d.1 (rw e at (at-most s r d.0 d.1 a)))
      go (inr e) (inl d) = absurd (lt_not_le m r e.1 (rw d at (at-most r s e.0 e.1 b)))
      go (inr e) (inr d) =
          same r s (of_format r e.0) (of_format s d.0) (above m r p e.1) (above m s p d.1)
          (at-most r s e.0 e.1 b) (at-most s r d.0 d.1 a)

turned : (m y z r : Float) → Peak m z y r → Peak m y z r
turned m y z r q = record {
  low = q.low;
  left = q.right;
  right = q.left;
  one = ⊎_map (λ e. e) (λ o. (⊎_elim (λ e. inr e) (λ e. inl e) o.0, o.1)) q.one;
}

pub swap : (m y z : Float) → Clean m → Fits y → Fits z → max_of (max_of m y) z ≡ max_of (max_of m z) y
swap m y z p f g = only m y z p f g _ _ (in-turn m y z p) (turned m y z _ (in-turn m z y p))

pub join : (m n y : Float) → Clean m → Clean n → Fits y → max_of m (max_of n y) ≡ max_of (max_of m n) y
join m n y p q f = only m n y p q.fits f _ _ (in-second m n y p (clean-number n q)) (in-turn m n y p)

-- ---- the four
pub record AllClean (m : Four) : Type 0 where
  pub a : Clean m.a
  pub b : Clean m.b
  pub c : Clean m.c
  pub d : Clean m.d

pub all-clean : AllClean (record { a = zero_f; b = zero_f; c = zero_f; d = zero_f })
all-clean = record { a = clean-zero; b = clean-zero; c = clean-zero; d = clean-zero }

pub top-zero : top_of (record { a = zero_f; b = zero_f; c = zero_f; d = zero_f }) ≡ zero_f
unfolding max_of Ieee.lt Ieee.ne Ieee.of_bits
top-zero = refl

pub top-number : (m : Four) → AllClean m → Number (top_of m)
top-number m p =
    clean-number _ (clean-max _ _ (clean-max _ _ p.a p.b.fits) (clean-max _ _ p.c p.d.fits).fits)

module _ (a b c d y : Float) (A : Clean a) (B : Clean b) (C : Clean c) (D : Clean d) (f : Fits y) where
  AB : Clean (max_of a b)
  AB = clean-max a b A B.fits

  CD : Clean (max_of c d)
  CD = clean-max c d C D.fits

  to-a : max_of (max_of (max_of a y) b) (max_of c d) ≡ max_of (max_of (max_of a b) (max_of c d)) y
  to-a = ap (λ x. max_of x (max_of c d)) (swap a y b A f B.fits) ∙ swap (max_of a b) y (max_of c d) AB f CD.fits

  to-b : max_of (max_of a (max_of b y)) (max_of c d) ≡ max_of (max_of (max_of a b) (max_of c d)) y
  to-b = ap (λ x. max_of x (max_of c d)) (join a b y A B f) ∙ swap (max_of a b) y (max_of c d) AB f CD.fits

  to-c : max_of (max_of a b) (max_of (max_of c y) d) ≡ max_of (max_of (max_of a b) (max_of c d)) y
  to-c = ap (λ x. max_of (max_of a b) x) (swap c y d C f D.fits) ∙ join (max_of a b) (max_of c d) y AB CD f

  to-d : max_of (max_of a b) (max_of c (max_of d y)) ≡ max_of (max_of (max_of a b) (max_of c d)) y
  to-d = ap (λ x. max_of (max_of a b) x) (join c d y C D f) ∙ join (max_of a b) (max_of c d) y AB CD f

entry-fits : (v w : List Float) (i : ℕ) → Fits (entry_of v w i)
entry-fits v w i = mul-fits binary64 _ _

module _ (v w : List Float) (i : ℕ) (m : Four) (p : AllClean m) where
  pub four-clean : AllClean (four_at v w i m)
  four-clean = record {
    a = clean-max _ _ p.a (entry-fits v w i);
    b = clean-max _ _ p.b (entry-fits v w (i + 1));
    c = clean-max _ _ p.c (entry-fits v w (i + 2));
    d = clean-max _ _ p.d (entry-fits v w (i + 3));
  }

  pub four-top : top_of (four_at v w i m)
      ≡ norm_turn v w (i + 3) (norm_turn v w (i + 2) (norm_turn v w (i + 1) (norm_turn v w i (top_of m))))
  four-top =
      let q = four-clean in
      to-d _ _ _ _ _ q.a q.b q.c p.d (entry-fits v w (i + 3))
      ∙ ap (λ x. max_of x (entry_of v w (i + 3)))
      (to-c _ _ _ _ _ q.a q.b p.c p.d (entry-fits v w (i + 2))
      ∙ ap (λ x. max_of x (entry_of v w (i + 2)))
      (to-b _ _ _ _ _ q.a p.b p.c p.d (entry-fits v w (i + 1))
      ∙ ap (λ x. max_of x (entry_of v w (i + 1)))
      (to-a _ _ _ _ _ p.a p.b p.c p.d (entry-fits v w i))))

  -- the four at entry i + 4, where the norm's loop has come from i
  pub four-on : (e : ℕ) (r : Float) → i + 4 ≤ e → for i e (norm_turn v w) (top_of m) ≡ r
      → for (i + 4) e (norm_turn v w) (top_of (four_at v w i m)) ≡ r
  four-on e r h q = rw four-top (again-four (norm_turn v w) i e (top_of m) r h q)
