-- What a first prediction keeps of the counts, for an attribute. Assumes nothing.
use Rattle.between_steps.proofs.Lengths.{first-counts}

pub ruleset first_counts = (first-counts)
