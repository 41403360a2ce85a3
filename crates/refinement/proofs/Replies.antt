-- A reply of the kind and length asked is taken by its phase; any other leaves the machine as it was.
--     takes, takes-derivative, takes-jacobian, takes-answer     what a reply that is taken leads to
--     refuses                                   a reply that is not taken leaves all, and is answered 14
--     derivative-stands, jacobian-stands        the machine at a question, from what its phase does with a reply
-- Assumes nothing.
use mathlib.Core.Bool.{true, false}
use mathlib.Core.List.{List}
use mathlib.Core.Path.{◌≡◌, refl}
use Prim.Native.Nat.{ℕ, ◌*◌}
use lib.Dec.{eqb}
use lib.ListN.{length}
use lib.Ieee.{Float}
use borrow.Author.Tests.{eq-eqb}
use Rattle.common.specs.Layout.{y}
use Rattle.common.specs.State.{Given, State}
use Rattle.between_steps.specs.declared.Answer.{Answer}
use Rattle.between_steps.specs.declared.Kind.{Kind}
use Rattle.between_steps.specs.Replies.{is_derivative}
use Rattle.questions.specs.declared.Question.TheVariants as Machine
use Rattle.questions.specs.declared.Phase.{Phase}
use Rattle.questions.specs.Turns.{RunState}
use Rattle.machine.specs.Resume.{is_asked, unasked, resume_at, resume_of}
use Rattle.rules.specs.Play.{derivative_at, jacobian_at, Play, ask}
use Rattle.rules.specs.Replies.{Reply}
use Rattle.refinement.specs.Shown.{wanted_at, shown_as, resumed, is_taken}
use Rattle.refinement.specs.AtNode.{derivative, jacobian, answer, AtNode}

-- what the phase does with a reply
abbrev pub resumed_at : Given → RunState → Reply → RunState
resumed_at g l r = resume_at g l.phase l.st r.kind r.numbers r.time

module _ (g : Given) (l : RunState) where
  pub takes : (r : Reply) → is_taken g l r ≡ true → resumed g l r ≡ resumed_at g l r
  unfolding resume_of
  takes r e = rw e

  pub refuses : (r : Reply) → is_taken g l r ≡ false → resumed g l r ≡ unasked l.phase l.st
  unfolding resume_of
  refuses r e = rw e

  module _ (f : List Float) (t : Float) where
    pub takes-derivative : ((k : ℕ) → is_asked l.phase Kind.Derivative k g.s.n ≡ eqb k g.s.n)
        → length f ≡ g.s.n → resumed g l (derivative f t) ≡ resumed_at g l (derivative f t)
    takes-derivative e h = takes (derivative f t) (rw (e (length f)) (eq-eqb (length f) g.s.n h))

    pub takes-jacobian : l.phase ≡ Phase.JacobianAsked → length f ≡ g.s.n * g.s.n
        → resumed g l (jacobian f t) ≡ resumed_at g l (jacobian f t)
    takes-jacobian e h = takes (jacobian f t) (rw e (eq-eqb (length f) (g.s.n * g.s.n) h))

    pub takes-answer : (a : Answer)
        → ((k : ℕ) → is_asked l.phase (Kind.Report a) k g.s.n ≡ eqb k g.s.n)
        → length f ≡ g.s.n → resumed g l (answer a f t) ≡ resumed_at g l (answer a f t)
    takes-answer a e h = takes (answer a f t) (rw (e (length f)) (eq-eqb (length f) g.s.n h))

-- ---- the machine at a question, from what its phase does with a reply

-- a derivative or a Jacobian is wanted, in a phase
abbrev pub waiting : Phase → State → RunState
waiting phase x = record { question = Machine.Derivative (record { time = x.c.tn }); phase = phase; st = x }

abbrev pub waiting_jacobian : State → RunState
waiting_jacobian x = record {
  question = Machine.Jacobian (record { time = x.c.tn });
  phase = Phase.JacobianAsked;
  st = x;
}

module _ (g : Given) (x : State) (k : List Float → Play) where
  pub derivative-stands : (phase : Phase)
      → ((kind : Kind) (len n : ℕ) → is_asked phase kind len n ≡ is_derivative kind len n)
      → ((f : List Float) (t : Float) → length f ≡ g.s.n
      → AtNode g (k f) (resumed_at g (waiting phase x) (derivative f t)))
      → AtNode g (ask (derivative_at x.c.tn (wanted_at g.s.n phase x.w)) x k) (waiting phase x)
  unfolding shown_as
  derivative-stands phase e h = (
    record { shows = refl; holds = record { same = refl; takes = λ r. e r.kind (length r.numbers) g.s.n } },
    λ f t q. rw (takes-derivative g (waiting phase x) f t (λ len. e Kind.Derivative len g.s.n) q) (h f t q),
  )

  pub jacobian-stands :
      ((f : List Float) (t : Float) → length f ≡ g.s.n * g.s.n
      → AtNode g (k f) (resumed_at g (waiting_jacobian x) (jacobian f t)))
      → AtNode g (ask (jacobian_at x.c.tn (y g.s.n x.w)) x k) (waiting_jacobian x)
  unfolding shown_as
  jacobian-stands h = (
    record { shows = refl; holds = record { same = refl; takes = λ r. refl } },
    λ f t q. rw (takes-jacobian g (waiting_jacobian x) f t refl q) (h f t q),
  )
