-- No session of a run falls out of the ranges of 13: after an accepted start and any list of replies, refused ones
-- included, the session, the tolerance lists, the work and the pivots are what the next reply asks of them
-- (`session-kept` in proofs/Kept.antt).
use Rattle.std.specs.Prelude.{List, ◌≡◌, ◌-◌, length}
use Rattle.vectors.specs.Tolerance.{List1OrN}
use Rattle.common.specs.State.{Given}
use Rattle.common.specs.Ranges.{Accepted}
use Rattle.questions.specs.Requires.{Resumes, UnlessFinished}
use Rattle.questions.specs.Turns.{RunState}
use Rattle.rules.specs.Rules.{Start}
use Rattle.rules.specs.Replies.{Reply}
use Rattle.invariants.specs.Next.{session_found}
use Rattle.refinement.specs.Shown.{reached_after}
use Rattle.refinement.specs.AtNode.{started_at}

-- what a start accepts
pub record Accepts (g : Given) (a : Start) : Type 0 where
  pub settings : Accepted g.s
  pub relative : List1OrN g.rtol (g.s.n - 1)
  pub absolute : List1OrN g.atol (g.s.n - 1)
  pub sized : length a.y0 ≡ g.s.n

-- what a reply finds
abbrev pub InRun : Given → RunState → Type 0
InRun g l =
    UnlessFinished l.phase (Resumes (session_found g l) g.rtol g.atol l.st.w l.st.p)

abbrev pub SessionKept : Given → Start → Type 0
SessionKept g a = (rs : List Reply) → InRun g (reached_after g (started_at g a) rs)
