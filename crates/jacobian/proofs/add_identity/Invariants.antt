-- `add_identity` meets its contract. The invariant: the entries that are left give the whole.
-- Assumes nothing.
use mathlib.Core.Path.{◌≡◌}
use Rattle.loops.specs.For.{for}
use Rattle.jacobian.specs.Jacobian.{identity_at, identity_of}
use Rattle.jacobian.proofs.add_identity.Given as goal

abbrev pub invariant-loop-i : goal.invariant-loop-i
invariant-loop-i l =
    for l.i l.n (identity_at l.n) l.a ≡ identity_of l.n l.initial.a
