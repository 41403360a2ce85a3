use Prim.Native.Nat.{◌+◌, ◌*◌}
use mathlib.Core.Path.{◌≡◌, refl}
use native.Mathlib.Omega.{arith}
use Rattle.loops.proofs.For.{again-four}
use Rattle.vectors.specs.Norm.{fnorm_of}
use Rattle.vectors.proofs.Largest.{max-larger, zero_number}
use Rattle.vectors.proofs.fnorm_dense.Goals as goal

pub loop-k-init : goal.loop-k-init
unfolding fnorm_of
loop-k-init c = (omega arith, zero_number, refl)

pub loop-k-preserved : goal.loop-k-preserved
loop-k-preserved c =
    let l = c.loop-k in
    let next : 4 * (l.k + 1) ≡ 4 * l.k + 4 = omega arith in (
      omega arith,
      rw c.four_rows-value.ensures
          ((max-larger _ _).number
          ((max-larger _ _).number ((max-larger _ _).number ((max-larger _ _).number l.invariant.1)))),
      rw (next, c.four_rows-value.ensures) (again-four _ (4 * l.k) c.args.n _ _ (omega arith) l.invariant.2),
    )
