-- `fields` meets its contract. The words pass before two fields are held against each other, so that n is not 0.
-- Assumes nothing.
use Rattle.std.proofs.Common.{arith}
use Rattle.session.proofs.Thirteen.{small}
use Rattle.session.proofs.Steps.{tests}
use Rattle.session.proofs.ranges.fields.Goals as goal

pub orders-requires : goal.orders-requires
orders-requires c =
    small c.args.u.now c.args.s c.args.c c.requires.0 c.requires.1 (grind (arith, tests))
