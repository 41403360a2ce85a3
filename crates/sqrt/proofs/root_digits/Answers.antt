use Prim.Native.Nat.{◌≤◌, ◌^◌}
use mathlib.Core.Path.{ap}
use native.Mathlib.Omega.{arith}
use lib.Pow.{pow_mono}
use Rattle.loops.proofs.For.{again, ended}
use Rattle.sqrt.specs.Sqrt.{digit_turn, digits_of}
use Rattle.sqrt.proofs.Turns.{turned}
use Rattle.sqrt.proofs.root_digits.Goals as goal

pub next-s-requires : goal.next-s-requires
next-s-requires c =
    let k = c.loop.invariant.0 in
    let h : c.loop.counter ≤ 54 = omega arith in
    let p : 2 ^ c.loop.counter ≤ 2 ^ 54 = pow_mono h in
    omega (arith, p, k.close, k.short, k.left)

pub loop-preserved : goal.loop-preserved
loop-preserved c =
    let l = c.loop in
    rw c.next-s.ensures (turned _ _ _ l.invariant.0, again _ _ _ _ _ (omega arith) l.invariant.1)

pub returns : goal.returns
unfolding digits_of
returns c =
    let l = c.loop in
    ap (λ s. s.root) (ended digit_turn l.counter 54 l.s _ (omega arith) l.invariant.1)
