use Prim.Native.Nat.{◌+◌, ◌-◌, ◌*◌}
use mathlib.Core.Path.{◌≡◌, sym, ap, ◌∙◌}
use native.Mathlib.Omega.{arith}
use lib.ListN.{length}
use Rattle.loops.specs.Part.{part}
use Rattle.loops.proofs.For.{onward, ended}
use Rattle.interpolation.specs.Evaluate.{last_column_of, evaluate_of}
use Rattle.interpolation.proofs.Laws.{copied-column}
use Rattle.interpolation.proofs.evaluate.Goals as goal

pub loop-j-preserved : goal.loop-j-preserved
loop-j-preserved c =
    let b = c.args.z in
    let j = c.loop-j.j in
    let size : 6 + (j - 1) * b.n + b.n - (6 + (j - 1) * b.n) ≡ b.n = omega arith in
    let next : b.nq + 1 - (j - 1) ≡ b.nq + 1 - j + 1 = omega arith in
    let column : b.nq - (b.nq + 1 - j) ≡ j - 1 = omega arith in
    let turned = rw size at c.horner.ensures in
    rw next (onward _ _ _ _ _ _ (omega arith) (rw column (sym turned)) c.loop-j.invariant)

pub returns : goal.returns
unfolding evaluate_of
returns c =
    let b = c.args.z in
    let size : 6 + b.nq * b.n + b.n - (6 + b.nq * b.n) ≡ b.n = omega arith in
    let last = rw size at c.copy_from.ensures in
    let column = part (6 + b.nq * b.n) b.n c.args.cont.now in
    let whole : last_column_of column c.args.yi.now ≡ column =
    copied-column column c.args.yi.now (ap length (sym last) ∙ omega (arith, c.copy_from.auto.to))
    in
    rw (whole, ← last) (ended _ _ _ _ _ (omega arith) c.loop-j.invariant)
