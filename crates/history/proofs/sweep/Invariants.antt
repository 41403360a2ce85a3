-- `sweep` meets its contract. The invariant: for whatever f computes, the turns that are left give the whole range.
-- Assumes nothing.
use mathlib.Core.Path.{◌≡◌}
use lib.Ieee.{Float}
use Rattle.loops.specs.For.{for}
use Rattle.history.specs.Columns.{sweep_at, sweep_of}
use Rattle.history.proofs.sweep.Given as goal

abbrev pub invariant-loop-i : goal.invariant-loop-i
invariant-loop-i g l =
    (op : Float → Float → Float) → ((x y z : Float) → goal.F-post g l.f x y z → z ≡ op x y)
    → for l.i l.e (sweep_at op l.n) l.yh ≡ sweep_of op l.n l.a l.e l.initial.yh
