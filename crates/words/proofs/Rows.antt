-- Rows of words: what was put is read back, and what stands elsewhere stays.
--     length-put-counts, length-put-floats     the bytes keep their number
--     counts-at, floats_at                     an entry of the counts or floats that are read
--     length_over, over-part                   a list after floats were read to its first entries, and those
--     put-counts-at, put-counts-other          a word after the counts were put, among them and elsewhere
--     put-floats-at, put-floats-other          the same for floats
--     row-first, put-counts-row, put-floats-row    rows of a list's beginning, of counts and of floats as rows of words
-- Assumes nothing.
use mathlib.Core.Path.{◌≡◌, refl, sym, ap, ◌∙◌}
use mathlib.Core.List.{List, [], ◌∷◌, ◌++◌, map}
use mathlib.Core.Logic.{⊎_elim, ◌⊎◌, inl, inr}
use Prim.Native.Nat.{ℕ, zero, suc, ◌+◌, ◌*◌, ◌-◌, ◌≤◌, ◌<◌, ◌^◌}
use native.Mathlib.Omega.{arith}
use native.Mathlib.Nat.{not-suc-le-zero, le_of_suc-le-suc, eq-or-lt_of_le, eq-zero-or-pos}
use lib.ListN.{length, get_or, set, replicate, take, drop, length-set, length-replicate, get_or-map, take-append-drop}
use lib.Seq.{get_or-set_same, get_or-set_other, get_or-take, length-take-le, ext_get_or, set-append_left}
use lib.Ieee.{Float, binary64, to_bits, of_bits}
use Rattle.std.proofs.lemmas.List.{map-id}
use Rattle.loops.specs.For.{times}
use Rattle.loops.specs.Part.{part}
use Rattle.loops.proofs.Part.{length_part}
use Rattle.numbers.specs.Float.{zero_f}
use Rattle.words.specs.Words.{put_word, word, float, counts_over, counts_in, put_counts_of, floats_over, floats_in}
use Rattle.words.specs.Words.{slot_of, put_float_at, put_floats_of, row_over, put_row_of}
use Rattle.words.proofs.Eight.{length-put, word_back, word-other}

-- an entry within the list is the same by every default
pub same-default : {A : Type 0} (l : List A) (i : ℕ) (a b : A) → i < length l → get_or l i a ≡ get_or l i b
same-default [] i a b h = absurd (not-suc-le-zero h)
same-default (x ∷ l) zero a b h = refl
same-default (x ∷ l) (suc i) a b h = same-default l i a b (le_of_suc-le-suc h)

pub zero_bits : to_bits binary64 zero_f ≡ 0
unfolding to_bits of_bits
zero_bits = refl

below_none : (i k : ℕ) → i ≤ k → k < i + 0 → ⊥
below_none i k a b = omega arith

-- ---- a row that is read: entry i becomes r i

module _ {A : Type 0} (r : ℕ → A) where
  abbrev read_at : ℕ → List A → List A
  read_at i l = set l i (r i)

  length-read : (n i : ℕ) (l : List A) → length (times read_at n i l) ≡ length l
  unfolding times
  length-read zero i l = refl
  length-read (suc n) i l = length-read n (i + 1) (set l i (r i)) ∙ length-set l i (r i)

  read-before : (n i k : ℕ) (l : List A) (d : A) → k < i → get_or (times read_at n i l) k d ≡ get_or l k d
  unfolding times
  read-before zero i k l d h = refl
  read-before (suc n) i k l d h =
      read-before n (i + 1) k (set l i (r i)) d (omega arith) ∙ get_or-set_other l i k (r i) d (λ e. omega arith)

  read_at_lem : (n i k : ℕ) (l : List A) (d : A) → i ≤ k → k < i + n → i + n ≤ length l
      → get_or (times read_at n i l) k d ≡ r k
  unfolding times
  read_at_lem zero i k l d a b h = absurd (below_none i k a b)
  read_at_lem (suc n) i k l d a b h =
      ⊎_elim
      (λ (e : i ≡ k).
      rw (← e)
      (read-before n (i + 1) i (set l i (r i)) d (omega arith) ∙ get_or-set_same l i (r i) d (omega arith)))
      (λ (m : i < k).
      read_at_lem n (i + 1) k (set l i (r i)) d (omega arith) (omega arith) (rw length-set (omega arith)))
      (eq-or-lt_of_le a)

module _ (b : List ℕ) (at k : ℕ) where
  pub length-counts : length (counts_in b at k) ≡ k
  unfolding counts_over
  length-counts = length-read (λ i. word b (at + i)) (k - 0) 0 (replicate k 0) ∙ length-replicate k 0

  pub counts-at : (i d : ℕ) → i < k → get_or (counts_in b at k) i d ≡ word b (at + i)
  unfolding counts_over
  counts-at i d h =
      let e = length-replicate {A = ℕ} k 0 in
      read_at_lem (λ i. word b (at + i)) (k - 0) 0 i (replicate k 0) d (omega arith) (omega arith) (omega arith)

  pub length-floats : length (floats_in b at k) ≡ k
  unfolding floats_over
  length-floats = length-read (λ i. float b (at + i)) (k - 0) 0 (replicate k zero_f) ∙ length-replicate k zero_f

  pub floats_at : (i : ℕ) (d : Float) → i < k → get_or (floats_in b at k) i d ≡ float b (at + i)
  unfolding floats_over
  floats_at i d h =
      let e = length-replicate k zero_f in
      read_at_lem (λ i. float b (at + i)) (k - 0) 0 i (replicate k zero_f) d (omega arith) (omega arith) (omega arith)

-- k floats read to the first entries of a list, and those entries
module _ (b : List ℕ) (at k : ℕ) (list : List Float) (h : k ≤ length list) where
  pub length_over : length (floats_over b at k list) ≡ length list
  unfolding floats_over
  length_over = length-read (λ i. float b (at + i)) (k - 0) 0 list

  over-at : (i : ℕ) (d : Float) → i < k → get_or (floats_over b at k list) i d ≡ float b (at + i)
  unfolding floats_over
  over-at i d l = read_at_lem (λ i. float b (at + i)) (k - 0) 0 i list d (omega arith) (omega arith) (omega arith)

  -- they are the first of any longer row
  pub over-part : (n : ℕ) → k ≤ n → part 0 k (floats_over b at k list) ≡ part 0 k (floats_in b at n)
  over-part n m =
      let o = length_over in
      let l = length-floats b at n in
      let left = length_part 0 k (floats_over b at k list) (omega arith) in
      let right = length_part 0 k (floats_in b at n) (omega arith) in
      ext_get_or zero_f (part 0 k (floats_over b at k list)) (part 0 k (floats_in b at n)) (left ∙ sym right)
      (λ i j.
      let s : i < k = omega arith in
      get_or-take k (floats_over b at k list) i zero_f s ∙ over-at i zero_f s
      ∙ sym (get_or-take k (floats_in b at n) i zero_f s ∙ floats_at b at n i zero_f (omega arith)))

-- ---- a row that is put: word p i becomes w i

apart : (i j : ℕ) → (i ≡ j → ⊥) → (8 * j + 8 ≤ 8 * i) ⊎ (8 * i + 8 ≤ 8 * j)
apart i j h =
    ⊎_elim (λ (z : i - j ≡ 0). inr (omega arith)) (λ (z : 0 < i - j). inl (omega arith)) (eq-zero-or-pos (i - j))

module _ (p w : ℕ → ℕ) where
  abbrev put_at : ℕ → List ℕ → List ℕ
  put_at i b = put_word b (8 * p i) (w i)

  length-row : (n i : ℕ) (b : List ℕ) → length (times put_at n i b) ≡ length b
  unfolding times
  length-row zero i b = refl
  length-row (suc n) i b = length-row n (i + 1) (put_at i b) ∙ length-put b (8 * p i) (w i)

  row_other : (n i j : ℕ) (b : List ℕ) → ((k : ℕ) → i ≤ k → k < i + n → p k ≡ j → ⊥)
      → word (times put_at n i b) j ≡ word b j
  unfolding times
  row_other zero i j b h = refl
  row_other (suc n) i j b h =
      row_other n (i + 1) j (put_at i b) (λ k l m. h k (omega arith) (omega arith))
      ∙ word-other b (8 * p i) (w i) (8 * j) (apart (p i) j (h i (omega arith) (omega arith)))

  row_at : (n i k : ℕ) (b : List ℕ) → ((i j : ℕ) → p i ≡ p j → i ≡ j) → i ≤ k → k < i + n
      → 8 * p k + 8 ≤ length b → w k < 2 ^ 64 → word (times put_at n i b) (p k) ≡ w k
  unfolding times
  row_at zero i k b one a m room small = absurd (below_none i k a m)
  row_at (suc n) i k b one a m room small =
      ⊎_elim
      (λ (e : i ≡ k).
      rw e
      (row_other n (k + 1) (p k) (put_at k b) (λ j l o q. clear k j l (one j k q))
      ∙ word_back b (8 * p k) (w k) room small))
      (λ (l : i < k).
      row_at n (i + 1) k (put_at i b) one (omega arith) (omega arith) (rw length-put room) small)
      (eq-or-lt_of_le a)
    where
      clear : (k j : ℕ) → k + 1 ≤ j → j ≡ k → ⊥
      clear k j l e = omega arith

module _ (at : ℕ) (u b : List ℕ) where
  pub length-put-counts : length (put_counts_of at u b) ≡ length b
  unfolding put_counts_of
  length-put-counts = length-row (λ i. at + i) (λ i. get_or u i 0) (length u - 0) 0 b

  pub put-counts-at : (k : ℕ) → k < length u → 8 * (at + length u) ≤ length b → get_or u k 0 < 2 ^ 64
      → word (put_counts_of at u b) (at + k) ≡ get_or u k 0
  unfolding put_counts_of
  put-counts-at k h room small =
      row_at (λ i. at + i) (λ i. get_or u i 0) (length u - 0) 0 k b (λ i j e. omega arith)
      (omega arith) (omega arith) (omega arith) small

  pub put-counts-other : (j : ℕ) → (j < at) ⊎ (at + length u ≤ j) → word (put_counts_of at u b) j ≡ word b j
  unfolding put_counts_of
  put-counts-other j h =
      row_other (λ i. at + i) (λ i. get_or u i 0) (length u - 0) 0 j b
      (λ k l m e. ⊎_elim (λ o. omega arith) (λ o. omega arith) h)

module _ (at n : ℕ) (list : List Float) (b : List ℕ) where
  pub length-put-floats : length (put_floats_of at n list b) ≡ length b
  unfolding put_floats_of
  length-put-floats = length-row (λ i. at + i) (slot_of list) (n - 0) 0 b

  pub put-floats-at : (k : ℕ) → k < n → 8 * (at + n) ≤ length b → slot_of list k < 2 ^ 64
      → word (put_floats_of at n list b) (at + k) ≡ slot_of list k
  unfolding put_floats_of
  put-floats-at k h room small =
      row_at (λ i. at + i) (slot_of list) (n - 0) 0 k b (λ i j e. omega arith)
      (omega arith) (omega arith) (omega arith) small

  pub put-floats-other : (j : ℕ) → (j < at) ⊎ (at + n ≤ j) → word (put_floats_of at n list b) j ≡ word b j
  unfolding put_floats_of
  put-floats-other j h =
      row_other (λ i. at + i) (slot_of list) (n - 0) 0 j b
      (λ k l m e. ⊎_elim (λ o. omega arith) (λ o. omega arith) h)

-- ---- what the code says of any row

-- a row that is read to the first entries of a list is read to these alone
module _ {A : Type 0} (r : ℕ → A) where
  row-first-times : (n i : ℕ) (a : List A) (rest : List A) → i + n ≤ length a
      → times (read_at r) n i a ++ rest ≡ times (read_at r) n i (a ++ rest)
  unfolding times
  row-first-times zero i a rest h = refl
  row-first-times (suc n) i a rest h =
      let q = row-first-times n (i + 1) (set a i (r i)) rest (rw length-set (omega arith)) in
      rw (set-append_left a rest i (r i) (omega arith)) q

pub row-first : {A : Type 0} (read : ℕ → A) (bytes : List ℕ) (at k : ℕ) (list : List A) → k ≤ length list
    → row_over read bytes at k (take k list) ++ drop k list ≡ row_over read bytes at k list
row-first read bytes at k list h =
    let whole = take-append-drop k list in
    let q =
    row-first-times (λ i. read (word bytes (at + i))) (k - 0) 0 (take k list) (drop k list)
    (rw (length-take-le k list h) (omega arith))
    in
    rw whole at q

same-turns : {S : Type 0} (f g : ℕ → S → S) → ((k : ℕ) (s : S) → f k s ≡ g k s) → (n i : ℕ) (s : S)
    → times f n i s ≡ times g n i s
unfolding times
same-turns f g e zero i s = refl
same-turns f g e (suc n) i s = rw (e i s) (same-turns f g e n (i + 1) (g i s))

pub put-counts-row : (at : ℕ) (list b : List ℕ)
    → put_row_of at (length list) (map (λ n. n) list) b ≡ put_counts_of at list b
unfolding put_counts_of
put-counts-row at list b = rw map-id

pub put-floats-row : (at k : ℕ) (list : List Float) (b : List ℕ)
    → put_row_of at k (map (to_bits binary64) list) b ≡ put_floats_of at k list b
unfolding put_floats_of
put-floats-row at k list b =
    let slot : (i : ℕ) → get_or (map (to_bits binary64) list) i 0 ≡ slot_of list i =
    λ i. rw zero_bits at (get_or-map (to_bits binary64) list i zero_f) in
    same-turns _ (put_float_at at list) (λ i s. ap (put_word s (8 * (at + i))) (slot i)) (k - 0) 0 b
