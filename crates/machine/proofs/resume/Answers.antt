-- `resume` changes nothing where the reply was not asked for. Assumes nothing.
use Rattle.machine.specs.Resume.{resume_of}
use Rattle.machine.proofs.resume.Goals as goal

pub returns-then-not-is_asked : goal.returns-then-not-is_asked
unfolding resume_of
returns-then-not-is_asked c = rw (← c.is_asked.ensures, c.if-not-is_asked.true) (c.unasked.ensures _ _)
