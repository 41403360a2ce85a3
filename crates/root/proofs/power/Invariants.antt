-- `power` meets its contract: the factors still to come, multiplied onto what is there, give the whole product.
use mathlib.Core.Path.{◌≡◌}
use Rattle.loops.specs.For.{for}
use Rattle.root.specs.Root.{factor, power_of}
use Rattle.root.proofs.power.Given as goal

abbrev pub invariant-loop : goal.invariant-loop
invariant-loop l = for l.counter l.k (factor l.y) l.p ≡ power_of l.k l.y
