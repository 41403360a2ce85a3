-- Demand 1 for the machine: after as many replies as the rules' theorem says its phase is Finished.
--     finishes
-- Assumes nothing.
use mathlib.Core.Bool.{false, true≢false}
use mathlib.Core.List.{List, []}
use mathlib.Core.Path.{◌≡◌, refl, sym, ◌∙◌}
use Prim.Native.Nat.{ℕ, ◌*◌}
use lib.Dec.{eqb}
use lib.ListN.{length, replicate, length-replicate}
use lib.Ieee.{Float}
use borrow.Author.Tests.{eq-eqb}
use Rattle.numbers.specs.Float.{zero_f}
use Rattle.common.specs.State.{Given}
use Rattle.between_steps.specs.declared.Answer.TheVariants.{Continue}
use Rattle.common.specs.Ranges.{Accepted}
use Rattle.questions.specs.declared.Phase.{Phase}
use Rattle.questions.specs.Turns.{RunState}
use Rattle.machine.specs.Resume.{is_asked}
use Rattle.rules.specs.Play.{Play, ret, ask, tell, say}
use Rattle.rules.specs.Rules.{Start, start}
use Rattle.rules.specs.Replies.{Reply, fed}
use Rattle.rules.specs.Demands.{HasEnded}
use Rattle.rules.proofs.Demands.{demand-1}
use Rattle.refinement.specs.Shown.{reached_after}
use Rattle.refinement.specs.AtNode.{derivative, jacobian, answer, SameState, started_at}
use Rattle.refinement.specs.Follows.{state_at, Finishes}
use Rattle.refinement.proofs.Follows.{follows}

-- a reply of the length asked
abbrev zeros : ℕ → List Float
zeros k = replicate k zero_f

unlike : {X : Type 0} (k : ℕ) → eqb (length (zeros k)) k ≡ false → X
unlike k e = absurd (true≢false (sym (eq-eqb (length (zeros k)) k (length-replicate k zero_f)) ∙ e))

-- a phase that takes no reply
only-finished : (n : ℕ) (phase : Phase)
    → ((r : Reply) → is_asked phase r.kind (length r.numbers) n ≡ false) → phase ≡ Phase.Finished
only-finished n Phase.FirstDerivative h = unlike n (h (derivative (zeros n) zero_f))
only-finished n Phase.FirstReport h = unlike n (h (answer Continue (zeros n) zero_f))
only-finished n Phase.FirstModified h = unlike n (h (derivative (zeros n) zero_f))
only-finished n Phase.Opened h = unlike n (h (derivative (zeros n) zero_f))
only-finished n Phase.JacobianAsked h = unlike (n * n) (h (jacobian (zeros (n * n)) zero_f))
only-finished n Phase.DifferenceColumn h = unlike n (h (derivative (zeros n) zero_f))
only-finished n Phase.FurtherDerivative h = unlike n (h (derivative (zeros n) zero_f))
only-finished n Phase.Restep h = unlike n (h (derivative (zeros n) zero_f))
only-finished n Phase.Report h = unlike n (h (answer Continue (zeros n) zero_f))
only-finished n Phase.Modified h = unlike n (h (derivative (zeros n) zero_f))
only-finished n Phase.Finished h = refl

ended : (g : Given) (p : Play) (l : RunState) → HasEnded p → SameState g p (state_at p) l
    → l.phase ≡ Phase.Finished
ended g (ret e) l h q = only-finished g.s.n l.phase q.takes
ended g (ask v x k) l h q = absurd h
ended g (tell r x k) l h q = absurd h
ended g (say e p) l h q = absurd h

pub finishes : (g : Given) (a : Start) → Accepted g.s → Finishes g a
finishes g a acc rs asked few =
    ended g (fed g.s.n (start g a) [] rs).play (reached_after g (started_at g a) rs) (demand-1 g a acc rs asked few)
    ((follows g a acc).held rs)
