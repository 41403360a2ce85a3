use Prim.Native.Nat.{◌+◌}
use mathlib.Core.Path.{◌≡◌, refl, sym, ap, ◌∙◌}
use mathlib.Core.Bool.{true}
use native.Mathlib.Omega.{arith}
use lib.ListN.{length}
use lib.Ieee.{nan}
use Rattle.std.proofs.lemmas.List.{set-get_or}
use Rattle.loops.proofs.For.{onward, stays}
use Rattle.vectors.specs.Weights.{Inversion, invert_at, invert_of, weights_outcome}
use Rattle.vectors.proofs.invert_weights.Goals as goal

-- after a weight that is refused no turn changes anything
pub returns-then-weight : goal.returns-then-weight
returns-then-weight c =
    let l = c.loop-index in
    let left : Inversion = record { ewt = l.ewt; refused = true; index = l.index } in
    let whole : left ≡ invert_of c.args.ewt.now =
    sym (stays invert_at (l.index + 1) (length c.args.ewt.now) left (λ k. refl))
    ∙ onward _ _ _ _ _ _ (omega arith) (rw c.if-weight.true) l.invariant
    in
    simp (set-get_or l.ewt l.index nan) (ap (λ (s : Inversion). s.ewt) whole, ap weights_outcome whole)
