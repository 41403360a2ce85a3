-- What callers need of the weights' definitions.
--     serves                          a tolerance list that serves for entry i serves for those before it
--     length-ewset, length-ewset-like, length-invert
--                                     every length is kept
--     ewset-written, like-written     what is written, and that all else is as it was
--     inverted, stopped               what an inversion does: all, or up to the first weight that is at most 0
--     never-refused, like-inverted    where no weight is refused, as after a modified reply
-- Assumes nothing.
use mathlib.Core.Path.{◌≡◌, refl, sym, ap, ◌∙◌}
use mathlib.Core.List.{List}
use mathlib.Core.Bool.{Bool, true, false, cond}
use mathlib.Core.Logic.{⊎_map}
use Prim.Native.Nat.{ℕ, ◌+◌, ◌≤◌, ◌<◌}
use native.Mathlib.Omega.{arith}
use borrow.Author.Count.{below_more}
use lib.ListN.{length, get_or, set, length-set}
use lib.Seq.{get_or-set_same, get_or-set_other}
use lib.Ieee as Ieee
use lib.Ieee.{Float, nan}
use Rattle.loops.proofs.Test.{differs}
use Rattle.loops.specs.For.{for}
use Rattle.loops.proofs.For.{reaches}
use Rattle.loops.proofs.Stores.{length-stores, stores}
use Rattle.loops.specs.Part.{part}
use Rattle.loops.proofs.Part.{length_part, get_d_part}
use Rattle.numbers.specs.Float.{◌⊕◌, ◌⊗◌, ◌⊘◌, zero_f, one_f, uround}
use Rattle.numbers.specs.Sign.{abs_of}
use Rattle.numbers.specs.Order.{max_of}
use Rattle.vectors.specs.Tolerance.{List1OrN, tolerance_of}
use Rattle.vectors.specs.Weights.{ewset_of, ewset_like_of, Inversion, invert_at, invert_of}
use Rattle.vectors.proofs.Largest.{max-above}

pub serves : (list : List Float) (i j : ℕ) → j ≤ i → List1OrN list i → List1OrN list j
serves list i j h p = ⊎_map (λ one. one) (λ below. omega arith) p

-- ---- ewset and ewset_scalar_like
-- in `after`, entry at + i is made from entry i of `before`, for every i below n, and all else is as in `before`
pub record Written (g : ℕ → Float → Float) (n at : ℕ) (before after : List Float) : Type 0 where
  pub long : length after ≡ length before
  pub made : (i : ℕ) → i < n → get_or after (at + i) nan ≡ g i (get_or before i nan)
  pub below : (j : ℕ) → j < at → get_or after j nan ≡ get_or before j nan
  pub beyond : (j : ℕ) → at + n ≤ j → get_or after j nan ≡ get_or before j nan

module _ (g : ℕ → Float → Float) (n at : ℕ) (work : List Float) where
  abbrev store : ℕ → List Float → List Float
  store i l = set l (at + i) (g i (get_or l i nan))

  stores-written : n ≤ at → at + n ≤ length work → Written g n at work (for 0 n store work)
  stores-written apart room =
      let s = stores nan (λ i. at + i) (λ i. i) g n work (λ i j h k. (λ e. omega arith, λ e. omega arith))
      (λ i h. omega arith) in
      record {
        long = s.long;
        made = s.made;
        below = λ j b. s.other j (λ i h e. omega arith);
        beyond = λ j b. s.other j (λ i h e. omega arith);
      }

-- the weight of state i
abbrev pub weight : List Float → List Float → ℕ → Float → Float
weight rtol atol i y = tolerance_of rtol i ⊗ abs_of y ⊕ tolerance_of atol i

-- the weight after a modified reply
abbrev pub weight_like : ℕ → Float → Float
weight_like i y = max_of (abs_of y) uround

module _ (rtol atol : List Float) (n at : ℕ) (work : List Float) where
  pub length-ewset : length (ewset_of rtol atol n at work) ≡ length work
  unfolding ewset_of
  length-ewset = length-stores (λ i. at + i) (λ i l. weight rtol atol i (get_or l i nan)) 0 n work

  pub ewset-written : n ≤ at → at + n ≤ length work
      → Written (weight rtol atol) n at work (ewset_of rtol atol n at work)
  unfolding ewset_of
  ewset-written apart room = stores-written (weight rtol atol) n at work apart room

module _ (n at : ℕ) (work : List Float) where
  pub length-ewset-like : length (ewset_like_of n at work) ≡ length work
  unfolding ewset_like_of
  length-ewset-like = length-stores (λ i. at + i) (λ i l. weight_like i (get_or l i nan)) 0 n work

  pub like-written : n ≤ at → at + n ≤ length work → Written weight_like n at work (ewset_like_of n at work)
  unfolding ewset_like_of
  like-written apart room = stores-written weight_like n at work apart room

-- ---- invert_weights
-- the first k weights, none of them at most 0, are inverted, and the others are as they were
pub record Inverted (before : List Float) (k : ℕ) (after : List Float) : Type 0 where
  pub long : length after ≡ length before
  pub passed : (i : ℕ) → i < k → Ieee.le (get_or before i nan) zero_f ≡ false
  pub inverse : (i : ℕ) → i < k → get_or after i nan ≡ one_f ⊘ get_or before i nan
  pub rest : (i : ℕ) → k ≤ i → get_or after i nan ≡ get_or before i nan

-- weight k is the first that is at most 0
pub record Stopped (before : List Float) (k : ℕ) (after : List Float) : Type 0 where
  pub within : k < length before
  pub refused : Ieee.le (get_or before k nan) zero_f ≡ true
  pub done : Inverted before k after

module _ (ewt : List Float) where
  record InvertedTo (k : ℕ) (s : Inversion) : Type 0 where
    going : s.refused ≡ false → Inverted ewt k s.ewt
    halted : s.refused ≡ true → Stopped ewt s.index s.ewt

  inverts : (k : ℕ) (l : List Float) → k < length ewt → Ieee.le (get_or l k nan) zero_f ≡ false → Inverted ewt k l
      → Inverted ewt (k + 1) (set l k (one_f ⊘ get_or l k nan))
  inverts k l h above p =
      let x = one_f ⊘ get_or l k nan in
      let other : (j : ℕ) → (j ≡ k → ⊥) → get_or (set l k x) j nan ≡ get_or l j nan =
      λ j d. get_or-set_other l k j x nan d
      in
      let same = p.rest k (omega arith) in
      record {
        long = length-set l k x ∙ p.long;
        passed = below_more (λ (i : ℕ). Ieee.le (get_or ewt i nan) zero_f ≡ false) k p.passed (rw (← same) above);
        inverse =
            below_more (λ (i : ℕ). get_or (set l k x) i nan ≡ one_f ⊘ get_or ewt i nan) k
            (λ i b. other i (λ q. omega arith) ∙ p.inverse i b)
            (get_or-set_same l k x nan (omega (arith, p.long)) ∙ ap (λ (y : Float). one_f ⊘ y) same);
        rest = λ i b. other i (λ q. omega arith) ∙ p.rest i (omega arith);
      }

  one-turn : (k : ℕ) (s : Inversion) → k < length ewt → InvertedTo k s → InvertedTo (k + 1) (invert_at k s)
  one-turn k s h p = go s.refused refl (Ieee.le (get_or s.ewt k nan) zero_f) refl
    where
      go : (t : Bool) → s.refused ≡ t → (u : Bool) → Ieee.le (get_or s.ewt k nan) zero_f ≡ u
          → InvertedTo (k + 1)
          (cond t s
          (cond u
          (record { ewt = s.ewt; refused = true; index = k })
          (record { ewt = set s.ewt k (one_f ⊘ get_or s.ewt k nan); refused = false; index = 0 })))
      go true e u f = record { going = λ q. differs (sym q ∙ e); halted = p.halted }
      go false e true f =
          let done = p.going e in
          record {
            going = λ q. differs (sym q);
            halted =
                λ q. record { within = omega arith; refused = rw (← (done.rest k (omega arith))) f; done = done };
          }
      go false e false f =
          record {
            going = λ q. inverts k s.ewt (omega arith) f (p.going e);
            halted = λ q. differs q;
          }

  ends : InvertedTo (length ewt) (invert_of ewt)
  unfolding invert_of
  ends =
      let none : Inverted ewt 0 ewt =
      record {
        long = refl;
        passed = λ i b. absurd (omega arith);
        inverse = λ i b. absurd (omega arith);
        rest = λ i b. refl;
      }
      in
      reaches InvertedTo invert_at (length ewt) one-turn 0 _ (omega arith)
      (record { going = λ q. none; halted = λ q. differs q })

  -- an inversion that refuses nothing inverts every weight
  pub inverted : (invert_of ewt).refused ≡ false → Inverted ewt (length ewt) (invert_of ewt).ewt
  inverted h = ends.going h

  -- one that refuses a weight refuses the first that is at most 0, with those before it inverted
  pub stopped : (invert_of ewt).refused ≡ true → Stopped ewt (invert_of ewt).index (invert_of ewt).ewt
  stopped h = ends.halted h

  pub length-invert : length (invert_of ewt).ewt ≡ length ewt
  length-invert = go (invert_of ewt).refused refl
    where
      go : (t : Bool) → (invert_of ewt).refused ≡ t → length (invert_of ewt).ewt ≡ length ewt
      go true h = (stopped h).done.long
      go false h = (inverted h).long

  pub never-refused : ((i : ℕ) → i < length ewt → Ieee.le (get_or ewt i nan) zero_f ≡ false)
      → (invert_of ewt).refused ≡ false
  never-refused above = go (invert_of ewt).refused refl
    where
      go : (t : Bool) → (invert_of ewt).refused ≡ t → t ≡ false
      go false h = refl
      go true h = let s = stopped h in differs (sym (above (invert_of ewt).index s.within) ∙ s.refused)

-- after a modified reply no weight is refused
pub like-inverted : (n at : ℕ) (work : List Float) → n ≤ at → at + n ≤ length work
    → (invert_of (part at n (ewset_like_of n at work))).refused ≡ false
like-inverted n at work apart room =
    let l = ewset_like_of n at work in
    let w = like-written n at work apart room in
    let fits : at + n ≤ length l = omega (arith, w.long) in
    never-refused (part at n l)
    (λ i b.
    let below : i < n = rw (length_part at n l fits) at b in
    rw (get_d_part at n l fits i nan below, w.made i below) (max-above (abs_of (get_or work i nan))))
