-- `exchange` meets its contract. The invariant: the columns that are left give the whole exchange. Assumes nothing.
use mathlib.Core.Path.{◌≡◌}
use Rattle.loops.specs.For.{for}
use Rattle.dense.specs.Factor.{swap_at, swap_of}
use Rattle.dense.proofs.exchange.Given as goal

abbrev pub invariant-loop-j : goal.invariant-loop-j
invariant-loop-j l =
    for l.j l.n (swap_at l.n l.k l.p) l.a ≡ swap_of l.n l.k l.p l.initial.a
