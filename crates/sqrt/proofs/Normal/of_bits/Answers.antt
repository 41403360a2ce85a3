-- `of_bits` meets its contract: a subnormal's fraction is moved up, and nothing of it is moved out.
use Prim.Native.Nat.{◌*◌, ◌%◌, ◌^◌, ◌<◌}
use native.Mathlib.Nat.{mod-eq_of_lt}
use native.Mathlib.Omega.{arith}
use Rattle.sqrt.specs.Sqrt.{hidden, shift_of}
use Rattle.sqrt.proofs.Pattern.{moved, low_is}
use Rattle.sqrt.proofs.Normal.of_bits.Goals as goal

pub returns-then-field-eq0 : goal.returns-then-field-eq0
returns-then-field-eq0 c =
    let b = c.args.bits in
    let t = b % hidden in
    let small : t * 2 ^ shift_of t < 2 ^ 64 = omega (arith, moved t (omega arith) (omega arith)) in
    rw (low_is b c.if-field-eq0.true, mod-eq_of_lt small, c.from.ensures)
