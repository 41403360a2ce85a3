-- `root_bits` meets its contract: it calls what `sqrt_bits` calls.
use Rattle.sqrt.specs.Sqrt.{sqrt_bits}
use Rattle.sqrt.proofs.root_bits.Goals as goal

pub returns : goal.returns
unfolding sqrt_bits
returns c = rw (c.root_digits-q.ensures, c.even-x.ensures, c.of_bits.ensures)
