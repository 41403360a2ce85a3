-- A loop over a part of a list, where the part is lent and back as s: an entry of s is one of the list, and to store
-- there is to store in s. The list may be cut in two, as `split_at_mut` cuts a slice, with the part in one side.
--     part_turns    the list is whole
--     left_turns    the part is of the left side; `beyond` reads the right one
--     right_turns   it is of the right side, or begins it; the left one is read, whole or from a place on (`ahead`)
-- Each set is for an attribute: with it a check proves a turn without an answer. Where a law has x ≡ y, x is what the
-- turn of the whole stores, and y what the code does. Assumes nothing.
use mathlib.Core.Path.{◌≡◌, refl, sym, ◌∙◌}
use mathlib.Core.List.{List, ◌++◌}
use Prim.Native.Nat.{ℕ, ◌+◌, ◌-◌, ◌≤◌, ◌<◌}
use native.Mathlib.Omega.{arith}
use lib.ListN.{length, get_or, set, take, drop}
use Rattle.std.proofs.lemmas.List.{length-take-le, set-append_left, set-append_right}
use Rattle.std.proofs.lemmas.List.{get_or_append_left, get_or-append_right}
use Rattle.loops.specs.For.{for}
use Rattle.loops.specs.Part.{part, put_part}
use Rattle.loops.proofs.For.{onward, ended}
use Rattle.loops.proofs.Part.{length-put_part, get_d_part}

-- `onward`, where the next index is written otherwise
pub onward-to : {S : Type 0} (f : ℕ → S → S) (i next e : ℕ) (s t r : S) → next ≡ i + 1 → i < e → f i s ≡ t
    → for i e f s ≡ r → for next e f t ≡ r
onward-to f i next e s t r place h p q = rw place (onward f i e s t r h p q)

-- entry j of a part is entry p of its list
module _ {A : Type 0} (l s : List A) (first m j p : ℕ) (place : p ≡ first + j) (room : first ≤ length l)
    (h : j < length s) where
  abbrev rest : List A
  rest = drop m (drop first l)

  long : length (take first l) ≡ first
  long = length-take-le first l room

  back : p - first ≡ j
  back = omega arith

  pub part-got : (d : A) → get_or (put_part first m l s) p d ≡ get_or s j d
  part-got d =
      get_or-append_right (take first l) (s ++ rest) first p d long (omega arith)
      ∙ rw back (get_or_append_left s rest d j h)

  pub part-set : (x y : A) → x ≡ y → set (put_part first m l s) p x ≡ put_part first m l (set s j y)
  part-set x y e =
      rw
      (set-append_right (take first l) (s ++ rest) first p x long (omega arith), back, set-append_left s rest j x h, e)
      refl

module _ {A : Type 0} (left right s : List A) (first m j p : ℕ) (place : p ≡ length left + (first + j))
    (room : first ≤ length right) (h : j < length s) where
  inner : p - length left ≡ first + j
  inner = omega arith

  pub right-stored : (x y : A) → x ≡ y
      → set (left ++ put_part first m right s) p x ≡ left ++ put_part first m right (set s j y)
  right-stored x y e =
      rw (
        set-append_right left (put_part first m right s) (length left) p x refl (omega arith),
        part-set right s first m j (p - length left) inner room h x y e,
      )
      refl

pub front-stored : {A : Type 0} (left s rest : List A) (j p : ℕ) → p ≡ length left + j → j < length s
    → (x y : A) → x ≡ y → set (left ++ (s ++ rest)) p x ≡ left ++ (set s j y ++ rest)
front-stored left s rest j p place h x y e =
    let inner : p - length left ≡ j = omega arith in
    rw (set-append_right left (s ++ rest) (length left) p x refl (omega arith), inner, set-append_left s rest j x h, e)
    refl

pub ahead : {A : Type 0} (left right : List A) (at i : ℕ) (d : A) → at + i < length left
    → get_or (left ++ right) (at + i) d ≡ get_or (part at (length left - at) left) i d
ahead left right at i d h =
    get_or_append_left left right d (at + i) h
    ∙ sym (get_d_part at (length left - at) left (omega arith) i d (omega arith))

module _ {A : Type 0} (left right s : List A) (first m : ℕ) (room : first + m ≤ length left) (e : length s ≡ m) where
  all : length (put_part first m left s) ≡ length left
  all = length-put_part first m left room s e

  pub left-got : (j p : ℕ) (d : A) → p ≡ first + j → j < m
      → get_or (put_part first m left s ++ right) p d ≡ get_or s j d
  left-got j p d place h =
      get_or_append_left (put_part first m left s) right d p (omega (arith, all))
      ∙ part-got left s first m j p place (omega arith) (omega arith) d

  pub left-stored : (j p : ℕ) (x y : A) → x ≡ y → p ≡ first + j → j < m
      → set (put_part first m left s ++ right) p x ≡ put_part first m left (set s j y) ++ right
  left-stored j p x y same place h =
      rw (
        set-append_left (put_part first m left s) right p x (omega (arith, all)),
        part-set left s first m j p place (omega arith) (omega arith) x y same,
      )
      refl

  pub beyond : (at i : ℕ) (d : A) → length left ≡ at
      → get_or (put_part first m left s ++ right) (at + i) d ≡ get_or right i d
  beyond at i d long =
      let inner : at + i - length left ≡ i = omega arith in
      get_or-append_right (put_part first m left s) right (length left) (at + i) d all (omega arith) ∙ rw inner refl

pub ruleset part_turns = (onward-to, ended, part-set, part-got)

pub ruleset left_turns = (onward, ended, left-stored, left-got, beyond)

pub ruleset right_turns = (onward, ended, right-stored, front-stored, ahead, get_or_append_left, length-take-le)
