-- `write_turn` meets its contract. Assumes nothing.
use native.Mathlib.Omega.{arith}
use Rattle.session.specs.Session.{encode_of}
use Rattle.replies.specs.Replies.{turn_written_of}
use Rattle.replies.proofs.write_turn.Goals as goal

pub returns : goal.returns
unfolding turn_written_of encode_of
returns c = grind arith
