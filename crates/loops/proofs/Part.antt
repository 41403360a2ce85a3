-- The laws of a part of a list that does not reach beyond it.
--     length_part, length-put_part, get_d_part    sizes and elements
--     part-put, get_d_beyond                     what was put is there, and what stands beyond it stays
-- Assumes nothing.
use mathlib.Core.Path.{◌≡◌, sym, ap, ◌∙◌}
use mathlib.Core.List.{List, ◌++◌}
use Prim.Native.Nat.{ℕ, ◌+◌, ◌≤◌, ◌<◌}
use native.Mathlib.Omega.{arith}
use lib.ListN.{length, get_or, take, drop, length-drop}
use lib.Seq.{length-take-le, get_or-take, get_or-drop, get_or-append-add, take_at, drop_at}
use borrow.Rule.Slice.PartMut.{same_len_mid}
use Rattle.loops.specs.Part.{part, put_part}

module _ {A : Type 0} (a n : ℕ) (l : List A) (h : a + n ≤ length l) where
  pub length_part : length (part a n l) ≡ n
  length_part = length-take-le n (drop a l) (rw length-drop (omega arith))

  pub length-put_part : (s : List A) → length s ≡ n → length (put_part a n l s) ≡ length l
  length-put_part s e = same_len_mid a n l s (e ∙ sym length_part)

  pub get_d_part : (i : ℕ) (d : A) → i < n → get_or (part a n l) i d ≡ get_or l (a + i) d
  get_d_part i d k = get_or-take n (drop a l) i d k ∙ get_or-drop a l i d

module _ {A : Type 0} (a n : ℕ) (l s : List A) (h : a ≤ length l) (e : length s ≡ n) where
  pub part-put : part a n (put_part a n l s) ≡ s
  part-put =
      let rest = drop n (drop a l) in
      ap (take n) (drop_at (take a l) (s ++ rest) a (length-take-le a l h)) ∙ take_at s rest n e

  pub get_d_beyond : (k : ℕ) (d : A) → get_or (put_part a n l s) (a + (n + k)) d ≡ get_or l (a + (n + k)) d
  get_d_beyond k d =
      let m : length (take a l) ≡ a = length-take-le a l h in
      let first = get_or-append-add (take a l) (s ++ drop n (drop a l)) (n + k) d in
      let second = get_or-append-add s (drop n (drop a l)) k d in
      (rw m at first) ∙ (rw e at second) ∙ get_or-drop n (drop a l) k d ∙ get_or-drop a l (n + k) d
