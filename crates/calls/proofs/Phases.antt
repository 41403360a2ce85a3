-- The phase in which the machine stands at a node, from the question that it asks there.
--     phase-node
-- Assumes nothing.
use mathlib.Core.Bool.{cond}
use mathlib.Core.List.{List}
use mathlib.Core.Path.{◌≡◌, refl, ap, subst}
use Prim.Native.Nat.{ℕ}
use lib.Ieee.{Float}
use Rattle.loops.proofs.Test.{differs}
use Rattle.common.specs.declared.Common.{Common}
use Rattle.questions.specs.declared.Phase.{Phase}
use Rattle.questions.specs.declared.Question.{Question}
use Rattle.questions.specs.Turns.{RunState}
use Rattle.rules.specs.Play.{derivative_at, jacobian_at, finished, step_refused, weight_refused, exhausted, Play, ret}
use Rattle.rules.specs.Play.{ask, tell, say}
use Rattle.common.specs.State.{Given}
use Rattle.refinement.specs.Shown.{Shown, wants_derivative, wants_jacobian, reports, ends, refuses_step, refuses_weight}
use Rattle.refinement.specs.Shown.{refuses, stuck, wanted_at, shown_as}
use Rattle.refinement.specs.AtNode.{AtNode}
use Rattle.calls.specs.Follow.{is_step, TakesDerivative, PhaseAt}
use Rattle.calls.specs.ReplyRefused.{derivative, awaits}
use Rattle.calls.proofs.Agrees.{for_derivative, Agrees}

takes-derivative : (phase : Phase) → awaits phase ≡ derivative → TakesDerivative phase
takes-derivative Phase.FirstDerivative h = λ len n. refl
takes-derivative Phase.FirstReport h = differs (ap for_derivative h)
takes-derivative Phase.FirstModified h = λ len n. refl
takes-derivative Phase.Opened h = λ len n. refl
takes-derivative Phase.JacobianAsked h = differs (ap for_derivative h)
takes-derivative Phase.DifferenceColumn h = λ len n. refl
takes-derivative Phase.FurtherDerivative h = λ len n. refl
takes-derivative Phase.Restep h = λ len n. refl
takes-derivative Phase.Report h = differs (ap for_derivative h)
takes-derivative Phase.Modified h = λ len n. refl
takes-derivative Phase.Finished h = differs (ap for_derivative h)

-- the phase of what is shown, w being the work
abbrev ShownIn : ℕ → Phase → List Float → Shown → Type 0
ShownIn n phase w (wants_derivative t v) = TakesDerivative phase × (v ≡ wanted_at n phase w)
ShownIn n phase w (wants_jacobian t v) = phase ≡ Phase.JacobianAsked
ShownIn n phase w (reports r) = phase ≡ cond (is_step r.snapshot) Phase.Report Phase.FirstReport
ShownIn n phase w (ends e) = phase ≡ Phase.Finished
ShownIn n phase w (refuses_step h) = phase ≡ Phase.Finished
ShownIn n phase w (refuses_weight i) = phase ≡ Phase.Finished
ShownIn n phase w refuses = ⊥
ShownIn n phase w stuck = ⊥

shown-in : (n : ℕ) (phase : Phase) (c : Common) (w : List Float) (v : Question) → Agrees v phase c
    → ShownIn n phase w (shown_as n v phase c w)
unfolding shown_as
shown-in n phase c w (Question.Derivative a) g = (takes-derivative phase g, refl)
shown-in n phase c w (Question.Jacobian a) g = g
shown-in n phase c w (Question.FirstReport a) g = g.0
shown-in n phase c w (Question.Report r) g = g.0
shown-in n phase c w (Question.Finished e) g = g
shown-in n phase c w (Question.StepRefused h) g = g
shown-in n phase c w (Question.WeightRefused i) g = g
shown-in n phase c w Question.Unasked g = absurd g

module _ (g : Given) (l : RunState) (a : Agrees l.question l.phase l.st.c) where
  abbrev n : ℕ
  n = g.s.n

  shows : (v : Shown) → shown_as n l.question l.phase l.st.c l.st.w ≡ v
      → ShownIn n l.phase l.st.w v
  shows v e =
      subst (ShownIn n l.phase l.st.w) e
      (shown-in n l.phase l.st.c l.st.w l.question a)

  pub phase-node : (t : Play) → AtNode g t l → PhaseAt n t l.phase
  phase-node (ret (finished status x)) s = shows _ s.shows
  phase-node (ret (step_refused h x)) s = shows _ s.shows
  phase-node (ret (weight_refused i x)) s = shows _ s.shows
  phase-node (ret (exhausted x)) s = absurd s
  phase-node (ask (derivative_at t v) x k) s = rw (← s.0.holds.same) (shows _ s.0.shows)
  phase-node (ask (jacobian_at t v) x k) s = shows _ s.0.shows
  phase-node (tell r x k) s = shows _ s.0.shows
  phase-node (say e p) s = phase-node p s
