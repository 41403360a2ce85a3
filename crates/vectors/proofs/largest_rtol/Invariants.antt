-- `largest_rtol` meets its contract. The invariant: the numbers that are left give the whole maximum. Assumes nothing.
use mathlib.Core.List.{List, [], ◌∷◌}
use mathlib.Core.Path.{◌≡◌}
use Prim.Native.Nat.{ℕ, zero, suc}
use lib.Ieee.{Float}
use Rattle.numbers.specs.Order.{max_of}
use Rattle.vectors.specs.FirstStep.{largest_rtol_of}
use Rattle.vectors.proofs.largest_rtol.Given as goal

-- the first m numbers of a list, each into the maximum
unfoldable pub over : ℕ → List Float → Float → Float
over zero l tol = tol
over (suc m) [] tol = tol
over (suc m) (x ∷ l) tol = over m l (max_of tol x)

abbrev pub invariant-loop-x : goal.invariant-loop-x
invariant-loop-x l = over l.x-iterator.n l.x-iterator.iter.rest.now l.tol ≡ largest_rtol_of l.rtol l.n
