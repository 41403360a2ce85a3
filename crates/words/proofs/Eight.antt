-- Words in bytes: what was put is what stands there, and every other word stays.
--     eight-put                  a word is put as its eight bytes
--     length-put                 the bytes keep their number
--     word_back, word-other      word k after a word was put at k, and elsewhere
-- Assumes nothing.
use mathlib.Core.Path.{◌≡◌, refl, sym, ◌∙◌, ap}
use mathlib.Core.List.{List, [], ◌∷◌, ◌++◌, append_assoc}
use mathlib.Core.Logic.{⊎_elim, ◌⊎◌, inl, inr}
use Prim.Native.Nat.{ℕ, suc, ◌+◌, ◌*◌, ◌/◌, ◌%◌, ◌≤◌, ◌<◌, ◌^◌}
use native.Mathlib.Omega.{arith}
use native.Mathlib.Nat.{add-zero, mod-eq_of_lt, div-div-eq-div-mul}
use lib.ListN.{length, length-set, get_or, set, take, drop}
use lib.Seq.{get_or-set_other, sets, sets-eq, get_or-append-add, length-take-le, drop-drop}
use lib.Dec.{lit<}
use Rattle.std.specs.Int.{w64, to_le_bytes}
use Rattle.loops.specs.Part.{put_part}
use Rattle.words.specs.Words.{word_at, put_word}

pub length-put : (s : List ℕ) (at w : ℕ) → length (put_word s at w) ≡ length s
unfolding put_word
length-put s at w = simp length-set

bytes_of : ℕ → List ℕ
bytes_of w =
    w % 256 ∷ w / 256 % 256 ∷ w / 65536 % 256 ∷ w / 16777216 % 256 ∷ w / 4294967296 % 256 ∷ w / 1099511627776 % 256
    ∷ w / 281474976710656 % 256 ∷ w / 72057594037927936 % 256 ∷ []

digit : (x : ℕ) → x % 256 + 256 * (x / 256) ≡ x
digit x = omega arith

-- a number below 2 ^ 64 is its eight digits
eight : (w : ℕ) → w < 2 ^ 64
    → w % 256 + 256 * (w / 256 % 256 + 256 * (w / 65536 % 256 + 256 * (w / 16777216 % 256
    + 256 * (w / 4294967296 % 256 + 256 * (w / 1099511627776 % 256 + 256 * (w / 281474976710656 % 256
    + 256 * (w / 72057594037927936 % 256))))))) ≡ w
eight w b =
    let m7 : w / 72057594037927936 % 256 ≡ w / 72057594037927936 = mod-eq_of_lt (omega arith) in
    let d6 : w / 281474976710656 % 256 + 256 * (w / 72057594037927936) ≡ w / 281474976710656 =
    rw div-div-eq-div-mul at (digit (w / 281474976710656)) in
    let d5 : w / 1099511627776 % 256 + 256 * (w / 281474976710656) ≡ w / 1099511627776 =
    rw div-div-eq-div-mul at (digit (w / 1099511627776)) in
    let d4 : w / 4294967296 % 256 + 256 * (w / 1099511627776) ≡ w / 4294967296 =
    rw div-div-eq-div-mul at (digit (w / 4294967296)) in
    let d3 : w / 16777216 % 256 + 256 * (w / 4294967296) ≡ w / 16777216 =
    rw div-div-eq-div-mul at (digit (w / 16777216)) in
    let d2 : w / 65536 % 256 + 256 * (w / 16777216) ≡ w / 65536 = rw div-div-eq-div-mul at (digit (w / 65536)) in
    let d1 : w / 256 % 256 + 256 * (w / 65536) ≡ w / 256 = rw div-div-eq-div-mul at (digit (w / 256)) in
    rw (m7, d6, d5, d4, d3, d2, d1) (digit w)

sets-other : (l : List ℕ) (i : ℕ) (vs : List ℕ) (j : ℕ) → (j < i) ⊎ (i + length vs ≤ j)
    → get_or (sets l i vs) j 0 ≡ get_or l j 0
sets-other l i [] j h = refl
sets-other l i (a ∷ vs) j h =
    sets-other (set l i a) (suc i) vs j (⊎_elim (λ b. inl (omega arith)) (λ b. inr (omega arith)) h)
    ∙ get_or-set_other l i j a 0 (⊎_elim (λ b e. omega arith) (λ b e. omega arith) h)

module _ (s : List ℕ) (at w : ℕ) where
  as-sets : put_word s at w ≡ sets s at (bytes_of w)
  unfolding put_word bytes_of
  as-sets =
      let e1 : at + 1 ≡ suc at = omega arith in
      let e2 : at + 2 ≡ suc (suc at) = omega arith in
      let e3 : at + 3 ≡ suc (suc (suc at)) = omega arith in
      let e4 : at + 4 ≡ suc (suc (suc (suc at))) = omega arith in
      let e5 : at + 5 ≡ suc (suc (suc (suc (suc at)))) = omega arith in
      let e6 : at + 6 ≡ suc (suc (suc (suc (suc (suc at))))) = omega arith in
      let e7 : at + 7 ≡ suc (suc (suc (suc (suc (suc (suc at)))))) = omega arith in
      rw (e1, e2, e3, e4, e5, e6, e7)

  module _ (h : at + 8 ≤ length s) where
    byte_at : (k : ℕ) → get_or (put_word s at w) (at + k) 0 ≡ get_or (bytes_of w ++ drop (at + 8) s) k 0
    unfolding bytes_of
    byte_at k =
        let l : length (take at s) ≡ at = length-take-le at s (omega arith) in
        let q = get_or-append-add (take at s) (bytes_of w ++ drop (at + 8) s) k 0 in
        ap (λ (t : List ℕ). get_or t (at + k) 0)
        (as-sets ∙ sets-eq (bytes_of w) s at h ∙ append_assoc (take at s) (bytes_of w) (drop (at + 8) s))
        ∙ rw l at q

    pub word_back : w < 2 ^ 64 → word_at (put_word s at w) at ≡ w
    unfolding word_at bytes_of
    word_back b =
        let z : get_or (put_word s at w) at 0 ≡ w % 256 = rw add-zero at (byte_at 0) in
        rw (z, byte_at 1, byte_at 2, byte_at 3, byte_at 4, byte_at 5, byte_at 6, byte_at 7) (eight w b)

  pub eight-put : at + 8 ≤ length s → put_part at 8 s (to_le_bytes w64 w) ≡ put_word s at w
  unfolding bytes_of
  eight-put h =
      ap (λ (t : List ℕ). take at s ++ (bytes_of w ++ t)) (drop-drop 8 at s)
      ∙ sym (as-sets ∙ sets-eq (bytes_of w) s at h ∙ append_assoc (take at s) (bytes_of w) (drop (at + 8) s))

  -- a byte that stands clear of what is put stays
  byte-other : (i : ℕ) → (i < at) ⊎ (at + 8 ≤ i) → get_or (put_word s at w) i 0 ≡ get_or s i 0
  unfolding bytes_of
  byte-other i h = rw as-sets (sets-other s at (bytes_of w) i h)

pub word-other : (s : List ℕ) (at w j : ℕ) → (j + 8 ≤ at) ⊎ (at + 8 ≤ j) → word_at (put_word s at w) j ≡ word_at s j
unfolding word_at
word-other s at w j h =
    let b : (k : ℕ) → k < 8 → get_or (put_word s at w) (j + k) 0 ≡ get_or s (j + k) 0 =
    λ k l. byte-other s at w (j + k) (⊎_elim (λ o. inl (omega arith)) (λ o. inr (omega arith)) h) in
    let z : get_or (put_word s at w) j 0 ≡ get_or s j 0 = rw add-zero at (b 0 (lit< tt)) in
    rw (z, b 1 (lit< tt), b 2 (lit< tt), b 3 (lit< tt), b 4 (lit< tt), b 5 (lit< tt), b 6 (lit< tt), b 7 (lit< tt))

-- for a function's attribute
pub ruleset eight_put = eight-put
