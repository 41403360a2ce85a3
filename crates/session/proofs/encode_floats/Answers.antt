-- `encode_floats` meets its contract. Assumes nothing.
use mathlib.Core.Path.{◌∙◌}
use Rattle.common.specs.SessionWords.{count_words, float_words}
use Rattle.words.proofs.Rows.{put-floats-row}
use Rattle.session.specs.Fields.{floats_of}
use Rattle.session.proofs.encode_floats.Goals as goal

pub returns : goal.returns
returns c =
    c.put_row.ensures
    ∙ rw c.floats-f.ensures (put-floats-row count_words float_words (floats_of c.args.x) c.args.bytes.now)
