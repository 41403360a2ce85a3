-- What it takes for something to be kept by every reply, whatever the floats: one law for each change that the machine
-- makes to the record, the work and the pivots.
--     Held, Holds        what is kept, by phase: between steps, in a step, when the run is over
--     After              what holds after a pass that was not accepted
--     Keeps              the laws; proofs/Walk.antt has that a reply then keeps it
-- The work alone is another where a part of it is written; its length stays if it was long enough, and nothing else is
-- known of it here.
use mathlib.Core.Bool.{false}
use mathlib.Core.List.{List}
use mathlib.Core.Path.{◌≡◌, refl}
use Prim.Native.Nat.{ℕ, ◌≤◌, ◌<◌}
use lib.Dec.{leb}
use lib.ListN.{length}
use lib.Ieee.{Float}
use Rattle.numbers.specs.Float.{◌⊕◌}
use Rattle.common.specs.State.{Given, State, state, put_c, put_w}
use Rattle.common.specs.Layout.{matrix_at}
use Rattle.common.specs.Record.{with_tn, with_h, with_nfe, with_count, with_total, with_column}
use Rattle.jacobian.specs.Jacobian.{begin_of, finish_jacobian_of}
use Rattle.corrector.specs.Verdict.{verdict_of}
use Rattle.corrector.specs.Iterate.{open_of, correct_of}
use Rattle.attempt.specs.declared.Next.{Next}
use Rattle.attempt.specs.Attempt.{no_convergence_of, failed_of, restep_of}
use Rattle.acceptance.specs.Accept.{accept_of}
use Rattle.between_steps.specs.Begin.{first_prediction_of}
use Rattle.between_steps.specs.Start.{first_step_of, first_size_of, restart_of}
use Rattle.questions.specs.declared.Phase.{Phase}
use Rattle.questions.specs.Turns.{RunState}

-- what may hold of the record, the work and the pivots
abbrev pub Invariant : Type 1
Invariant = State → Type 0

-- ---- by phase: B between steps, S in a step, O when the run is over

abbrev pub Held : Phase → Type 0 → Type 0 → Type 0 → Type 0
Held Phase.FirstDerivative B S O = B
Held Phase.FirstReport B S O = B
Held Phase.FirstModified B S O = B
Held Phase.Opened B S O = S
Held Phase.JacobianAsked B S O = S
Held Phase.DifferenceColumn B S O = S
Held Phase.FurtherDerivative B S O = S
Held Phase.Restep B S O = S
Held Phase.Report B S O = B
Held Phase.Modified B S O = B
Held Phase.Finished B S O = O

abbrev pub Holds : Invariant → Invariant → Invariant → Phase → State → Type 0
Holds B S O phase x = Held phase (B x) (S x) (O x)

abbrev pub HoldsIn : Invariant → Invariant → Invariant → RunState → Type 0
HoldsIn B S O l = Holds B S O l.phase l.st

module _ {B S O X : Type 0} where
  -- what follows in each phase
  pub each : (phase : Phase) → (B → X) → (S → X) → (O → X) → Held phase B S O → X
  each Phase.FirstDerivative b s o h = b h
  each Phase.FirstReport b s o h = b h
  each Phase.FirstModified b s o h = b h
  each Phase.Opened b s o h = s h
  each Phase.JacobianAsked b s o h = s h
  each Phase.DifferenceColumn b s o h = s h
  each Phase.FurtherDerivative b s o h = s h
  each Phase.Restep b s o h = s h
  each Phase.Report b s o h = b h
  each Phase.Modified b s o h = b h
  each Phase.Finished b s o h = o h

pub any : {B S O : Type 0} (phase : Phase) → B → S → O → Held phase B S O
any Phase.FirstDerivative b s o = b
any Phase.FirstReport b s o = b
any Phase.FirstModified b s o = b
any Phase.Opened b s o = s
any Phase.JacobianAsked b s o = s
any Phase.DifferenceColumn b s o = s
any Phase.FurtherDerivative b s o = s
any Phase.Restep b s o = s
any Phase.Report b s o = b
any Phase.Modified b s o = b
any Phase.Finished b s o = o

-- ---- after a pass that was not accepted: S while the step goes on, O where the run ends

abbrev pub After : Next → Type 0 → Type 0 → Type 0
After Next.Pass S O = S
After Next.Restep S O = S
After Next.TooSmall S O = O
After Next.Poor S O = O

pub after-pass : {S O : Type 0} (v : Next) → (v ≡ Next.Pass → S) → (v ≡ Next.Restep → S) → O → After v S O
after-pass Next.Pass p r o = p refl
after-pass Next.Restep p r o = r refl
after-pass Next.TooSmall p r o = o
after-pass Next.Poor p r o = o

-- ---- the laws

-- between-work, step-work: a part of the work is written; over: the run ends between steps
pub record Keeps (g : Given) (time : Float) (B S O : Invariant) : Type 0 where
  pub between-work : (x : State) → B x → (w : List Float)
      → (matrix_at g.s.n ≤ length x.w → length w ≡ length x.w) → B (put_w w x)
  pub step-work : (x : State) → S x → (w : List Float)
      → (matrix_at g.s.n ≤ length x.w → length w ≡ length x.w) → S (put_w w x)
  pub over : (x : State) → B x → O x
  -- between steps: a derivative asked for, a time, the first step, a restart, the total
  pub asked : (x : State) → B x → (k : ℕ) → B (put_c (with_nfe k x.c) x)
  pub timed : (x : State) → B x → B (put_c (with_tn time x.c) x)
  pub retimed : (x : State) → B x → B (put_c (with_tn (x.c.told ⊕ x.c.hu) x.c) x)
  pub first_step : (x : State) → B x → (w : List Float)
      → B (put_c (with_h (first_step_of g.s x.c g.rtol g.atol w) x.c) x)
  pub first-size : (x : State) → B x → (w : List Float)
      → B (put_c (with_h (first_size_of g.s x.c (first_step_of g.s x.c g.rtol g.atol w)) x.c) x)
  pub restarted : (x : State) → B x → B (put_c (restart_of x.c) x)
  pub totalled : (x : State) → B x → (k : ℕ) → B (put_c (with_total k x.c) x)
  -- a step begins, and is accepted
  pub begun : (x : State) → B x → leb g.s.maxsteps x.c.nst ≡ false
      → S (put_c (first_prediction_of g.s x.c x.w).common x)
  pub accepted : (x : State) → S x → (dsm : Float) (w : List Float)
      → B (put_c (accept_of g.s x.c dsm w).common x)
  -- in a step: a derivative asked for, the iterations and their verdict, the Jacobian
  pub asked-in-step : (x : State) → S x → (k j : ℕ) → S (put_c (with_nfe k (with_count j x.c)) x)
  pub opened : (x : State) → S x → S (put_c (open_of x.c) x)
  pub judged : (x : State) → S x → S (put_c (verdict_of g.s x.c (correct_of g.s x.c x.p x.w)).common x)
  pub jacobian-begun : (x : State) → S x → S (put_c (begin_of x.c) x)
  pub column : (x : State) → S x → (j : ℕ) → (1 ≤ g.s.n → j < g.s.n) → S (put_c (with_column j x.c) x)
  pub factored : (x : State) → S x
      → let f = finish_jacobian_of g.s x.c x.w x.p in S (state f.common f.work f.ipiv)
  -- after a pass that was not accepted
  pub unconverged : (x : State) → S x → (w : List Float)
      → let a = no_convergence_of g.s x.c w in After a.next (S (put_c a.common x)) (O (put_c a.common x))
  pub failed : (x : State) → S x → (dsm : Float) (w : List Float)
      → let a = failed_of g.s x.c dsm w in After a.next (S (put_c a.common x)) (O (put_c a.common x))
  pub restepped : (x : State) → S x → (w : List Float) → S (put_c (restep_of g.s x.c w).common x)
