-- `passes` meets its contract. The invariant: for whatever f computes, the passes that are left give the whole.
-- Pass k begins k + 1 columns before nqnyh, and there are nq of them. Assumes nothing.
use mathlib.Core.Path.{◌≡◌}
use lib.Ieee.{Float}
use Rattle.loops.specs.For.{for}
use Rattle.history.specs.Columns.{pass_of, passes_of}
use Rattle.history.proofs.passes.Given as goal

abbrev pub invariant-loop-k : goal.invariant-loop-k
invariant-loop-k g l =
    (op : Float → Float → Float) → ((x y z : Float) → goal.F-post g l.f x y z → z ≡ op x y)
    → for l.k l.nq (pass_of op l.n l.nqnyh) l.yh ≡ passes_of op l.n l.nq l.nqnyh l.initial.yh
