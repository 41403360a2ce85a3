-- What an accepted start leaves stands at the root of the tree.
--     begins                    the start's question, and with it every reply that follows
-- Assumes nothing.
use mathlib.Core.Bool.{Bool, true, false}
use mathlib.Core.List.{List}
use mathlib.Core.Path.{refl}
use Prim.Native.Nat.{ℕ, ◌≤◌}
use lib.Dec.{leb}
use lib.Ieee.{Float}
use Rattle.numbers.specs.Sign.{refused}
use Rattle.std.specs.Prelude.{Result, Ok, Err}
use Rattle.vectors.specs.declared.NotPositive.{NotPositive}
use Rattle.vectors.specs.Weights.{invert_of, weights_outcome}
use Rattle.common.specs.Layout.{ewt}
use Rattle.common.specs.State.{Given, State, put_w}
use Rattle.between_steps.specs.declared.Answer.{Answer}
use Rattle.between_steps.specs.declared.Answer.TheVariants.{Continue, Interrupt, Modified}
use Rattle.between_steps.specs.declared.Status.TheVariants as Status
use Rattle.between_steps.specs.Begin.{is_going}
use Rattle.between_steps.specs.Start.{inverted}
use Rattle.questions.specs.declared.Phase.TheVariants as Phase
use Rattle.questions.specs.Turns.{asked_of}
use Rattle.questions.specs.Begin.{go_on_of}
use Rattle.common.specs.Initial.{initial_of}
use Rattle.reports.specs.Reports.{sized_at, sized_of, weighted_at, first_derivative_of}
use Rattle.reports.specs.Reports as Machine
use Rattle.machine.specs.Resume.{resume_at}
use Rattle.rules.specs.Rules.{Start, beginning, sized_state, first_modified, first_restarted, first_answered, sized}
use Rattle.rules.specs.Rules.{first_step, weighted, first_weights, started, start, timed, solve}
use Rattle.refinement.specs.Shown.{shown_as}
use Rattle.refinement.specs.AtNode.{AtNode, started_at}
use Rattle.refinement.proofs.Alive.{Alive}
use Rattle.refinement.proofs.Replies.{takes-answer, derivative-stands}
use Rattle.refinement.proofs.Step.{ended-stands, goes, solve-stands}

module _ (g : Given) (some : 1 ≤ g.s.n) where
  solved-stands : (k : ℕ) (x : State) → Alive g.s.n (solve k g x) → AtNode g (solve k g x) (goes g x)
  unfolding go_on_of
  solved-stands k x a = solve-stands g some k (is_going g.s x.c) (leb g.s.maxsteps x.c.nst) x a

  first-answered-stands : (x : State) (a : Answer) (f : List Float) (t : Float)
      → Alive g.s.n (first_answered g x a f t)
      → AtNode g (first_answered g x a f t) (Machine.after_first_report_of g.s x a f t)
  unfolding first_answered Machine.after_first_report_of asked_of resume_at Machine.first_modified_of
  first-answered-stands x Continue f t a = solved-stands g.s.maxsteps (timed t x) a
  first-answered-stands x Interrupt f t a = ended-stands g Status.Interrupted (timed t x)
  first-answered-stands x Modified f t a =
      derivative-stands g (first_modified g f t x) _ Phase.FirstModified (λ kind len n. refl)
      (λ d u h. solved-stands g.s.maxsteps (first_restarted g d (first_modified g f t x)) (a d h))

  sized-stands : (refuses : Bool) (h : Float) (x : State) → Alive g.s.n (sized g refuses h x)
      → AtNode g (sized g refuses h x) (sized_at g.s x h refuses)
  unfolding sized sized_at shown_as resume_at
  sized-stands true h x a =
      record { shows = refl; holds = record { same = refl; takes = λ r. refl } }
  sized-stands false h x a =
      let l = sized_at g.s x h false in (
        record { shows = refl; holds = record { same = refl; takes = λ r. refl } },
        λ b f t q. rw (takes-answer g l f t b (λ len. refl) q)
            (first-answered-stands (sized_state g h x) b f t (a b f t q)),
      )

  weighted-stands : (w : Result Unit NotPositive) (x : State) → Alive g.s.n (weighted g w x)
      → AtNode g (weighted g w x) (weighted_at g x w)
  unfolding weighted weighted_at sized_of shown_as
  weighted-stands (Err e) x a =
      record { shows = refl; holds = record { same = refl; takes = λ r. refl } }
  weighted-stands (Ok u) x a = sized-stands (refused (first_step g x) g.s.direction) (first_step g x) x a

  started-stands : (f : List Float) (x : State) → Alive g.s.n (started g f x)
      → AtNode g (started g f x) (first_derivative_of g x f)
  unfolding started first_derivative_of
  started-stands f x a =
      let w = first_weights g f x in
      weighted-stands (weights_outcome (invert_of (ewt g.s.n w))) (put_w (inverted g.s.n w) x) a

  -- the machine's state after an accepted start stands at the tree of its run
  pub begins : (a : Start) → Alive g.s.n (start g a) → AtNode g (start g a) (started_at g a)
  unfolding start beginning initial_of resume_at
  begins a alive =
      derivative-stands g (beginning g a) _ Phase.FirstDerivative (λ kind len n. refl)
      (λ f t h. started-stands f (beginning g a) (alive f h))
