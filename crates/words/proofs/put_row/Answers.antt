use mathlib.Core.List.{List, ◌++◌, append_assoc, map}
use mathlib.Core.Path.{◌≡◌, refl, sym, ap, ◌∙◌}
use Prim.Native.Nat.{ℕ, zero, suc, ◌+◌, ◌*◌, ◌-◌, ◌≤◌, ◌<◌, min}
use native.Mathlib.Omega.{arith}
use lib.ListN.{length, get_or, take, drop, replicate, length-append, length-map, length-take, take-append-drop}
use lib.ListN.{replicate-append-replicate}
use lib.Seq.{length-take-le, take_at, drop_at, drop-drop, get_or-take}
use Rattle.std.proofs.lemmas.List.{get_or_past, get_or-map}
use Rattle.loops.specs.For.{times}
use Rattle.loops.specs.Part.{put_part}
use Rattle.loops.proofs.For.{onward}
use Rattle.loops.proofs.Part.{length_part}
use Rattle.words.specs.Words.{put_word}
use Rattle.words.proofs.Eight.{eight-put, length-put}
use Rattle.words.proofs.put_row.Goals as goal

-- two parts side by side
put-two : (a p q : ℕ) (l s t : List ℕ) → a + p + q ≤ length l → length s ≡ p
    → put_part (a + p) q (put_part a p l s) t ≡ put_part a (p + q) l (s ++ t)
put-two a p q l s t h e =
    let whole : put_part a p l s ≡ (take a l ++ s) ++ drop p (drop a l) =
    sym (append_assoc (take a l) s (drop p (drop a l))) in
    let first : length (take a l ++ s) ≡ a + p =
    length-append (take a l) s ∙ rw (length-take-le a l (omega arith), e) refl
    in
    rw (
      whole,
      take_at (take a l ++ s) (drop p (drop a l)) (a + p) first,
      drop_at (take a l ++ s) (drop p (drop a l)) (a + p) first,
      drop-drop q p (drop a l),
      append_assoc,
      append_assoc,
    ) refl

-- the words beyond the list's end are 0
module _ (at : ℕ) (words : List ℕ) where
  zeros : (n i : ℕ) (b : List ℕ) → (0 < n → length words ≤ i) → 8 * (at + (i + n)) ≤ length b
      → put_part (8 * (at + i)) (8 * n) b (replicate (8 * n) 0)
      ≡ times (λ i b. put_word b (8 * (at + i)) (get_or words i 0)) n i b
  unfolding times
  zeros zero i b h r = take-append-drop (8 * (at + i)) b
  zeros (suc n) i b h r =
      let a = 8 * (at + i) in
      let next : 8 * (at + (i + 1)) ≡ a + 8 = omega arith in
      let more : 8 * suc n ≡ 8 + 8 * n = omega arith in
      let first : put_part a 8 b (replicate 8 0) ≡ put_word b a 0 = eight-put b a 0 (omega arith) in
      let rest =
      zeros n (i + 1) (put_word b a 0) (λ m. omega (arith, h (omega arith))) (omega (arith, length-put b a 0)) in
      let both = put-two a 8 (8 * n) b (replicate 8 0) (replicate (8 * n) 0) (omega arith) refl in
      rw (get_or_past words i 0 (h (omega arith)), more, ← replicate-append-replicate, ← both, first, ← next) rest

pub loop-i-preserved : goal.loop-i-preserved
loop-i-preserved g c =
    let l = c.args.list.now in
    let i = c.loop-i.i in
    let x = c.x-item.result in
    let inside : i < min c.min-m.result (length l) = rw length-take at c.loop-i-test.true in
    let read : x ≡ get_or l i x = c.x-item.is ∙ get_or-take c.min-m.result l i x (omega arith) in
    let got : get_or (map g.T.Word.written l) i 0 ≡ c.to_word.result =
    get_or-map g.T.Word.written l i x 0 (omega arith) ∙ ap g.T.Word.written (sym read) ∙ sym c.to_word.ensures
    in
    onward _ _ _ _ _ _ (omega (arith, c.min-m.ensures)) (rw (c.put.ensures, got)) c.loop-i.invariant

pub returns : goal.returns
returns g c =
    let l = c.args.list.now in
    let i = c.loop-i.i in
    let k = c.args.k in
    let at = c.args.at in
    let m = c.min-m.result in
    let long : length (take m l) ≡ m = length-take-le m l (omega (arith, c.min-m.ensures)) in
    let same : m ≡ i = omega (arith, long, c.loop-i.auto.i-end) in
    let size : 8 * (at + k) - 8 * (at + i) ≡ 8 * (k - i) = omega arith in
    let room = length_part (8 * (at + m)) (8 * (at + k) - 8 * (at + m)) c.loop-i.bytes
    (omega (arith, c.loop-i.auto.bytes, c.min-m.ensures)) in
    let full = rw (room, same, size) at c.fill.ensures.after in
    rw (full, same, size)
    (zeros at (map g.T.Word.written l) (k - i) i c.loop-i.bytes
    (λ h. rw length-map (omega (arith, c.min-m.ensures))) (omega (arith, c.loop-i.auto.bytes, c.min-m.ensures))
    ∙ c.loop-i.invariant)
