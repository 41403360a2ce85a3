-- `get` meets its contract: filling on from entry i gives the whole list. Assumes nothing.
use mathlib.Core.Path.{◌≡◌}
use lib.ListN.{length}
use Rattle.loops.specs.For.{for}
use Rattle.replay.specs.Leaf.{stored_at, leaf_list}
use Rattle.replay.proofs.leaf.get.Given as goal

abbrev pub invariant-loop-i : goal.invariant-loop-i
invariant-loop-i g l =
    for l.i (length l.initial.list) (stored_at g.T.Word.read l.stored l.at) l.list
    ≡ leaf_list g.T.Word.read l.stored l.at l.initial.list
