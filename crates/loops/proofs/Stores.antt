-- Loops over a list.
--     length-for, length-stores   a loop whose turns keep the length; one whose turns store
--     Stored, stores              turn i puts at place a i what g makes of the entry at place b i; the places differ
--                                 from turn to turn, and none is read after an earlier turn wrote it
-- Assumes nothing.
use mathlib.Core.Path.{◌≡◌, refl, ap, ◌∙◌}
use mathlib.Core.List.{List}
use mathlib.Core.Logic.{◌≢◌}
use Prim.Native.Nat.{ℕ, ◌+◌, ◌<◌}
use native.Mathlib.Omega.{arith}
use lib.ListN.{length, get_or, set, length-set}
use lib.Seq.{get_or-set_same, get_or-set_other}
use borrow.Author.Count.{below_more}
use Rattle.loops.specs.For.{for}
use Rattle.loops.proofs.For.{reaches, always}

pub length-for : {A : Type 0} (f : ℕ → List A → List A) (i e : ℕ) (l : List A)
    → ((k : ℕ) (s : List A) → length (f k s) ≡ length s) → length (for i e f l) ≡ length l
length-for f i e l one = always (λ s. length s ≡ length l) f i e l (λ k s p. one k s ∙ p) refl

-- at a k what g k says
pub length-stores : {A : Type 0} (a : ℕ → ℕ) (g : ℕ → List A → A) (i e : ℕ) (l : List A)
    → length (for i e (λ k s. set s (a k) (g k s)) l) ≡ length l
length-stores a g i e l = length-for (λ k s. set s (a k) (g k s)) i e l (λ k s. length-set s (a k) (g k s))

module _ {A : Type 0} (d : A) (a b : ℕ → ℕ) (g : ℕ → A → A) where
  abbrev pub store_at : ℕ → List A → List A
  store_at i l = set l (a i) (g i (get_or l (b i) d))

  -- the places of the first n turns are made from `before`, and all else is as it was there
  pub record Stored (n : ℕ) (before after : List A) : Type 0 where
    pub long : length after ≡ length before
    pub made : (i : ℕ) → i < n → get_or after (a i) d ≡ g i (get_or before (b i) d)
    pub other : (j : ℕ) → ((i : ℕ) → i < n → j ≢ a i) → get_or after j d ≡ get_or before j d

  module _ (n : ℕ) (l : List A) (apart : (i j : ℕ) → i < j → j < n → (a i ≢ a j) × (b j ≢ a i))
      (room : (i : ℕ) → i < n → a i < length l) where
    one_more : (k : ℕ) (m : List A) → k < n → Stored k l m → Stored (k + 1) l (store_at k m)
    one_more k m h p =
        let x = g k (get_or m (b k) d) in
        record {
          long = length-set m (a k) x ∙ p.long;
          made =
              below_more (λ (i : ℕ). get_or (store_at k m) (a i) d ≡ g i (get_or l (b i) d)) k
              (λ i q. get_or-set_other m (a k) (a i) x d (apart i k q h).0 ∙ p.made i q)
              (get_or-set_same m (a k) x d (rw p.long (room k h))
              ∙ ap (g k) (p.other (b k) (λ i q. (apart i k q h).1)));
          other = λ j q.
              get_or-set_other m (a k) j x d (q k (omega arith)) ∙ p.other j (λ i r. q i (omega arith));
        }

    pub stores : Stored n l (for 0 n store_at l)
    stores =
        reaches (λ k m. Stored k l m) store_at n one_more 0 l (omega arith)
        (record { long = refl; made = λ i q. absurd (omega arith); other = λ j q. refl })
