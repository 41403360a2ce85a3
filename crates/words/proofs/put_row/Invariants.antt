-- `put_row` meets its contract. The invariant: the words that are left give the whole row.
-- Assumes nothing.
use mathlib.Core.List.{map}
use mathlib.Core.Path.{◌≡◌}
use Prim.Native.Nat.{◌+◌, ◌*◌}
use lib.ListN.{get_or}
use Rattle.loops.specs.For.{for}
use Rattle.words.specs.Words.{put_word, put_row_of}
use Rattle.words.proofs.put_row.Given as goal

abbrev pub invariant-loop-i : goal.invariant-loop-i
invariant-loop-i g l =
    for l.i l.k (λ i b. put_word b (8 * (l.at + i)) (get_or (map g.T.Word.written l.list) i 0)) l.bytes
    ≡ put_row_of l.at l.k (map g.T.Word.written l.list) l.initial.bytes
