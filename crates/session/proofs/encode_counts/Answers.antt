-- `encode_counts` meets its contract. Assumes nothing.
use mathlib.Core.Path.{◌∙◌}
use Rattle.words.proofs.Rows.{put-counts-row}
use Rattle.session.specs.Fields.{counts_of}
use Rattle.session.proofs.encode_counts.Goals as goal

pub returns : goal.returns
returns c =
    c.put_row.ensures ∙ rw c.counts-u.ensures (put-counts-row 0 (counts_of c.args.x) c.args.bytes.now)
