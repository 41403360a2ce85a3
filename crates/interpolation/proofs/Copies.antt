-- A loop that copies one by one is a part of the list copied whole.
--     copies    the first n entries of `from`, from a on
-- Assumes nothing.
use mathlib.Core.Path.{◌≡◌, sym, ◌∙◌}
use mathlib.Core.Logic.{◌⊎◌, inl, inr}
use mathlib.Core.List.{List, ◌++◌}
use Prim.Native.Nat.{ℕ, ◌+◌, ◌-◌, ◌≤◌, ◌<◌}
use native.Mathlib.Omega.{arith}
use lib.ListN.{length, get_or, set, take, drop, get_or-append}
use lib.Seq.{length-take-le, get_or-take, get_or-append-add, ext_get_or}
use Rattle.std.proofs.lemmas.Bool.{cases_lt}
use Rattle.loops.specs.For.{for}
use Rattle.loops.specs.Part.{put_part}
use Rattle.loops.proofs.Part.{length-put_part, get_d_beyond}
use Rattle.loops.proofs.Stores.{Stored, stores}

module _ {A : Type 0} (d : A) (a n : ℕ) (from to : List A) (long : n ≤ length from) (room : a + n ≤ length to) where
  abbrev pub copied_one_by_one : List A
  copied_one_by_one = for 0 n (λ i l. set l (a + i) (get_or from i d)) to

  stored : Stored d (λ i. a + i) (λ i. a + i) (λ i x. get_or from i d) n to copied_one_by_one
  stored =
      stores d (λ i. a + i) (λ i. a + i) (λ i x. get_or from i d) n to
      (λ i j h k. (λ q. omega arith, λ q. omega arith)) (λ i h. omega arith)

  abbrev part-now : List A
  part-now = take n from

  long-part : length part-now ≡ n
  long-part = length-take-le n from long

  start : length (take a to) ≡ a
  start = length-take-le a to (omega arith)

  before : (i : ℕ) → i < a → get_or copied_one_by_one i d ≡ get_or (put_part a n to part-now) i d
  before i h =
      stored.other i (λ k q e. omega arith)
      ∙ sym (get_or-append (take a to) (part-now ++ drop n (drop a to)) d i (rw start h) ∙ get_or-take a to i d h)

  within : (k : ℕ) → k < n → get_or copied_one_by_one (a + k) d ≡ get_or (put_part a n to part-now) (a + k) d
  within k h =
      let at = rw start at (get_or-append-add (take a to) (part-now ++ drop n (drop a to)) k d) in
      stored.made k h
      ∙ sym (at ∙ get_or-append part-now (drop n (drop a to)) d k (rw long-part h) ∙ get_or-take n from k d h)

  beyond : (k : ℕ) → get_or copied_one_by_one (a + (n + k)) d ≡ get_or (put_part a n to part-now) (a + (n + k)) d
  beyond k =
      stored.other (a + (n + k)) (λ i q e. omega arith)
      ∙ sym (get_d_beyond a n to part-now (omega arith) long-part k d)

  entry : (i : ℕ) → (i < a) ⊎ (a ≤ i) → (i < a + n) ⊎ (a + n ≤ i)
      → get_or copied_one_by_one i d ≡ get_or (put_part a n to part-now) i d
  entry i (inl h) r = before i h
  entry i (inr h) (inl r) =
      let q : a + (i - a) ≡ i = omega arith in
      rw q at (within (i - a) (omega arith))
  entry i (inr h) (inr r) =
      let q : a + (n + (i - (a + n))) ≡ i = omega arith in
      rw q at (beyond (i - (a + n)))

  pub copies : copied_one_by_one ≡ put_part a n to part-now
  copies =
      ext_get_or d copied_one_by_one (put_part a n to part-now)
      (stored.long ∙ sym (length-put_part a n to room part-now long-part))
      (λ i h. entry i (cases_lt i a) (cases_lt i (a + n)))
