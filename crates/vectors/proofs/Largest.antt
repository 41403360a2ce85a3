-- The maximum that ignores a NaN, and the norms that are made by it.
--     max-larger                     it is one of the two, and at least each that is no NaN
--     zero_number                    +0, from which the norms start, is no NaN
--     max-above                      with 2^-52 it is never at most 0
--     largest                        over a loop from +0 on: +0 or an entry, no NaN, and at least each that is no NaN
--     norm-largest, fnorm-largest    the same of `vmnorm` and `fnorm_dense`
-- Assumes nothing.
use mathlib.Core.Path.{◌≡◌, refl, sym, ap, ◌∙◌}
use mathlib.Core.Bool.{Bool, true, false, cond}
use mathlib.Core.Logic.{◌⊎◌, inl, inr, ⊎_elim, ⊎_map}
use mathlib.Core.List.{List}
use Prim.Native.Nat.{ℕ, ◌+◌, ◌<◌}
use native.Mathlib.Omega.{arith}
use borrow.Author.Count.{below_more}
use lib.ListN.{length, get_or}
use lib.Ieee as Ieee
use lib.Ieee.{Float, nan}
use lib.Ieee.Compare.{differs_from_itself, nan_differs}
use Rattle.loops.proofs.Test.{differs}
use Rattle.loops.specs.For.{for}
use Rattle.loops.proofs.For.{reaches}
use Rattle.numbers.specs.Float.{◌⊗◌, zero_f, uround}
use Rattle.numbers.specs.Sign.{abs_of}
use Rattle.numbers.specs.Order.{max_of}
use Rattle.vectors.specs.Norm.{vmnorm_of, row_of, fnorm_of}
use Rattle.numbers.proofs.Order.{Number, nan-or, le_refl, le_of_lt, lt-number, le_trans, total}

-- x is a NaN, or at most y
abbrev pub NanOrLe : Float → Float → Type 0
NanOrLe x y = (x ≡ nan) ⊎ (Ieee.le x y ≡ true)

-- r is the maximum of a and b that ignores a NaN
pub record Larger (a b r : Float) : Type 0 where
  pub left : NanOrLe a r
  pub right : NanOrLe b r
  pub one : (r ≡ a) ⊎ (r ≡ b)
  pub number : Number a → Number r

pub itself : (x : Float) → NanOrLe x x
itself x = ⊎_elim (λ e. inl e) (λ n. inr (le_refl x n)) (nan-or x)

pub max-larger : (a b : Float) → Larger a b (max_of a b)
unfolding max_of
max-larger a b = go (Ieee.lt a b) refl (Ieee.ne a a) refl
  where
    go : (t : Bool) → Ieee.lt a b ≡ t → (u : Bool) → Ieee.ne a a ≡ u → Larger a b (cond t b (cond u b a))
    go true h u n = record {
      left = inr (le_of_lt a b h);
      right = itself b;
      one = inr refl;
      number = λ p. lt-number a b h;
    }
    go false h true n = record {
      left = inl (differs_from_itself a (rw n tt));
      right = itself b;
      one = inr refl;
      number = λ p. differs (sym p ∙ n);
    }
    go false h false n = record {
      left = inr (le_refl a n);
      right = ⊎_elim (λ e. inl e) (λ q. inr (total a b n q h)) (nan-or b);
      one = inl refl;
      number = λ p. p;
    }

-- 2^-52 is a number above 0
unit-above : Ieee.le uround zero_f ≡ false
unfolding Ieee.le Ieee.of_bits
unit-above = refl

unit-number : uround ≡ nan → ⊥
unfolding Ieee.of_bits Ieee.is_nan
unit-number e = differs (ap Ieee.is_nan e)

-- a maximum with 2^-52 is never at most 0
pub max-above : (a : Float) → Ieee.le (max_of a uround) zero_f ≡ false
max-above a = go (Ieee.le (max_of a uround) zero_f) refl
  where
    go : (t : Bool) → Ieee.le (max_of a uround) zero_f ≡ t → t ≡ false
    go false h = refl
    go true h =
        ⊎_elim
        (λ e. absurd (unit-number e))
        (λ l. differs (sym unit-above ∙ le_trans uround (max_of a uround) zero_f l h))
        (max-larger a uround).right

-- r is one of x 0 to x (n - 1)
pub record Met (x : ℕ → Float) (n : ℕ) (r : Float) : Type 0 where
  pub at : ℕ
  pub within : at < n
  pub is : r ≡ x at

-- r is +0 or one of x 0 to x (n - 1), no NaN, and at least each of them that is no NaN
pub record Largest (x : ℕ → Float) (n : ℕ) (r : Float) : Type 0 where
  pub number : Number r
  pub bounds : (i : ℕ) → i < n → NanOrLe (x i) r
  pub above : Ieee.le zero_f r ≡ true
  pub met : (r ≡ zero_f) ⊎ Met x n r

pub zero_number : Number zero_f
unfolding Ieee.ne Ieee.of_bits
zero_number = refl

nothing : (x : ℕ → Float) → Largest x 0 zero_f
unfolding Ieee.le Ieee.of_bits
nothing x = record { number = zero_number; bounds = λ i b. absurd (omega arith); above = refl; met = inl refl }

module _ (x : ℕ → Float) where
  one_more : (k : ℕ) (s : Float) → Largest x k s → Largest x (k + 1) (max_of s (x k))
  one_more k s p =
      let r = max_of s (x k) in
      let m = max-larger s (x k) in
      let grown : Ieee.le s r ≡ true =
      ⊎_elim (λ e. differs (sym (rw e at p.number) ∙ nan_differs)) (λ l. l) m.left
      in
      record {
        number = m.number p.number;
        bounds =
            below_more (λ (i : ℕ). NanOrLe (x i) r) k
            (λ i b. ⊎_map (λ e. e) (λ l. le_trans (x i) s r l grown) (p.bounds i b))
            m.right;
        above = le_trans zero_f s r p.above grown;
        met =
            ⊎_elim
            (λ e. rw e (⊎_map (λ z. z) (λ q. record { at = q.at; within = omega arith; is = q.is }) p.met))
            (λ e. inr (record { at = k; within = omega arith; is = e }))
            m.one;
      }

  -- the maximum of x 0 to x (n - 1), from +0 on
  pub largest : (n : ℕ) → Largest x n (for 0 n (λ i s. max_of s (x i)) zero_f)
  largest n =
      reaches (Largest x) (λ i s. max_of s (x i)) n (λ k s h p. one_more k s p) 0 zero_f (omega arith) (nothing x)

pub norm-largest : (v w : List Float)
    → Largest (λ i. abs_of (get_or v i nan) ⊗ get_or w i nan) (length v) (vmnorm_of v w).value
unfolding vmnorm_of
norm-largest v w = largest (λ i. abs_of (get_or v i nan) ⊗ get_or w i nan) (length v)

pub fnorm-largest : (n : ℕ) (a w : List Float)
    → Largest (λ i. row_of n a w i ⊗ get_or w i nan) n (fnorm_of n a w).value
unfolding fnorm_of
fnorm-largest n a w = largest (λ i. row_of n a w i ⊗ get_or w i nan) n

-- what is above a float is no NaN: for a function's attribute
pub ruleset compared = (lt-number)
