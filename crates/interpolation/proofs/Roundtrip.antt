-- The snapshot of a step as a list, and as interpolation reads it.
--     snapshot-is    the question: its first n numbers, the header, columns 0 to nq, and the rest as it was
--     lent_is        the part of it that is the snapshot
--     reads-step, reads-columns    what interpolation reads from that part: the step's n, nq, t and h, and the
--                                  history's columns
-- Assumes nothing.
use mathlib.Core.Path.{◌≡◌, refl, sym, ap, ◌∙◌}
use mathlib.Core.List.{List, [], ◌∷◌, ◌++◌, append_assoc}
use Prim.Native.Nat.{ℕ, suc, ◌+◌, ◌*◌, ◌≤◌, ◌<◌}
use native.Mathlib.Nat.{add_assoc, mul-le-mul_right}
use native.Mathlib.Numerals.{add-one}
use native.Mathlib.Omega.{arith}
use lib.ListN.{length, get_or, take, drop, length-append, length-drop}
use lib.Seq.{length-take-le, take_at, drop_at, drop-drop, get_or-append-add, get_or-take, sets-eq, paste, paste-zero}
use lib.Seq.{paste-suc}
use lib.Ieee.{Float, nan}
use Rattle.loops.proofs.For.{reaches, within}
use Rattle.loops.specs.Part.{part}
use Rattle.numbers.specs.Float.{whole, uround}
use Rattle.common.specs.Limits.{max_states}
use Rattle.common.specs.declared.Settings.{Settings}
use Rattle.common.specs.declared.Common.{Common}
use Rattle.common.specs.Layout.{question_length}
use Rattle.interpolation.specs.Snapshot.{header_of, snapshot_at, snapshot_of}
use Rattle.interpolation.specs.Header.{Reads}
use Rattle.interpolation.specs.Published.{number_at}
use Rattle.interpolation.proofs.Counts.{whole-self}

abbrev pub header : Settings → Common → List Float
header s c = whole s.n ∷ whole c.nq ∷ c.tn ∷ c.h ∷ c.hu ∷ uround ∷ []

-- the numbers in the columns 0 to nq
abbrev pub size : Settings → Common → ℕ
size s c = (c.nq + 1) * s.n

module _ (s : Settings) (c : Common) (work question : List Float)
    (order : c.nq ≤ 12) (history : 13 * s.n ≤ length work) (room : question_length s.n ≤ length question) where
  fewer : size s c ≤ 13 * s.n
  fewer =
      let k : c.nq + 1 ≤ 13 = omega arith in
      mul-le-mul_right s.n k

  -- the question up to the columns, and what the header's stores leave
  abbrev front : List Float
  front = take s.n question ++ header s c

  abbrev begun : List Float
  begun = front ++ drop (s.n + 6) question

  header_is : header_of s c s.n question ≡ begun
  unfolding header_of
  header_is =
      let n = s.n in
      let e2 : n + 2 ≡ suc (suc n) = omega arith in
      let e3 : n + 3 ≡ suc (suc (suc n)) = omega arith in
      let e4 : n + 4 ≡ suc (suc (suc (suc n))) = omega arith in
      let e5 : n + 5 ≡ suc (suc (suc (suc (suc n)))) = omega arith in
      rw (add-one n, e2, e3, e4, e5) (sets-eq (header s c) question n (omega arith))

  long-front : length front ≡ s.n + 6
  long-front = length-append (take s.n question) (header s c) ∙ rw (length-take-le s.n question (omega arith))

  long-begun : length begun ≡ length question
  long-begun = simp (length-append, length-drop) (omega (arith, length-take-le s.n question (omega arith)))

  -- what k turns of the loop leave
  abbrev after : ℕ → List Float
  after k = paste begun (s.n + 6) work k

  one_more : (k : ℕ) (l : List Float) → k < size s c → l ≡ after k → snapshot_at s.n work k l ≡ after (k + 1)
  one_more k l h p =
      let below : s.n + 6 + k < length begun = omega (arith, fewer, long-begun) in
      rw (p, add-one k) (paste-suc begun (s.n + 6) work k nan below (omega (arith, fewer)))

  copied : snapshot_of s c work question ≡ after (size s c)
  unfolding snapshot_of
  copied =
      reaches (λ k l. l ≡ after k) (snapshot_at s.n work) (size s c) one_more 0 (header_of s c s.n question)
      (omega arith) (header_is ∙ paste-zero begun (s.n + 6) work)

  pub snapshot-is : snapshot_of s c work question
      ≡ take s.n question ++ header s c ++ take (size s c) work ++ drop (s.n + 6 + size s c) question
  snapshot-is =
      let at = s.n + 6 in
      let rest = drop at question in
      let first = take_at front rest at long-front in
      let last : drop (at + size s c) begun ≡ drop (at + size s c) question =
      sym (drop-drop (size s c) at begun) ∙ ap (drop (size s c)) (drop_at front rest at long-front)
      ∙ drop-drop (size s c) at question
      in
      copied ∙ ap (λ l. l ++ take (size s c) work ++ drop (at + size s c) begun) first
      ∙ ap (λ l. front ++ take (size s c) work ++ l) last

  -- what the host hands to interpolation
  pub lent_is : part s.n (6 + size s c) (snapshot_of s c work question) ≡ header s c ++ take (size s c) work
  lent_is =
      let n = s.n in
      let a = take n question in
      let b = header s c in
      let d = take (size s c) work in
      let rest = drop (n + 6 + size s c) question in
      let whole : snapshot_of s c work question ≡ a ++ (b ++ d ++ rest) =
      snapshot-is ∙ append_assoc (a ++ b) d rest ∙ append_assoc a b (d ++ rest)
      in
      let full = length-take-le (size s c) work (omega (arith, fewer)) in
      let long : length (b ++ d) ≡ 6 + size s c = length-append b d ∙ ap (λ k. 6 + k) full in
      ap (part n (6 + size s c)) whole
      ∙ ap (take (6 + size s c)) (drop_at a (b ++ d ++ rest) n (length-take-le n question (omega arith)))
      ∙ take_at (b ++ d) rest (6 + size s c) long

  pub reads-step : s.n ≤ max_states
      → Reads (header s c ++ take (size s c) work) (record { n = s.n; nq = c.nq; tn = c.tn; h = c.h })
  reads-step h = record {
    long = rw length-append (omega arith);
    states = (h, whole-self s.n h);
    order = (order, whole-self c.nq (omega arith));
    time = refl;
    step = refl;
  }

  pub reads-columns : (i j : ℕ) → i < s.n → j ≤ c.nq
      → number_at (header s c ++ take (size s c) work) s.n i j ≡ get_or work (j * s.n + i) nan
  reads-columns i j h k =
      let inside : j * s.n + i < size s c = omega (arith, within s.n (c.nq + 1) j (omega arith)) in
      ap (λ p. get_or (header s c ++ take (size s c) work) p nan) (add_assoc 6 (j * s.n) i)
      ∙ get_or-append-add (header s c) (take (size s c) work) (j * s.n + i) nan
      ∙ get_or-take (size s c) work (j * s.n + i) nan inside
