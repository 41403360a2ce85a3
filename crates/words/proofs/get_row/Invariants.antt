-- `get_row` meets its contract. The invariant: the words that are left give the whole row.
-- Assumes nothing.
use mathlib.Core.Path.{◌≡◌}
use Prim.Native.Nat.{◌+◌}
use lib.ListN.{length, set}
use Rattle.loops.specs.For.{for}
use Rattle.words.specs.Words.{word, row_over}
use Rattle.words.proofs.get_row.Given as goal

abbrev pub invariant-loop-i : goal.invariant-loop-i
invariant-loop-i g l =
    for l.i (length l.initial.list) (λ i s. set s i (g.T.Word.read (word l.bytes (l.at + i)))) l.list
    ≡ row_over g.T.Word.read l.bytes l.at (length l.initial.list) l.initial.list
