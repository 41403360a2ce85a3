-- A reply keeps the length of the work and of the pivots, and every pivot below n (`resume-lent`), whatever the floats:
-- nothing is asked of the record.
-- Assumes nothing.
use mathlib.Core.List.{List}
use Prim.Native.Nat.{◌≤◌}
use native.Mathlib.Omega.{arith}
use lib.Ieee.{Float}
use lib.ListN.{length}
use Rattle.common.specs.State.{Given, State}
use Rattle.common.specs.Layout.{matrix_at}
use Rattle.attempt.specs.Attempt.{no_convergence_of, failed_of}
use Rattle.between_steps.specs.declared.Kind.{Kind}
use Rattle.common.specs.Ranges.{Lent}
use Rattle.between_steps.proofs.Inside.{lent_length}
use Rattle.passes.proofs.PassInside.{lent-factored}
use Rattle.questions.specs.declared.Phase.{Phase}
use Rattle.machine.specs.Resume.{resume_of}
use Rattle.invariants.proofs.Keeps.{Invariant, each, any, after-pass, Keeps}
use Rattle.invariants.proofs.Walk.{resume-keeps}

module _ (g : Given) where
  abbrev pub Long : Invariant
  Long x = Lent g.s.n x.w x.p

  room : (x : State) → Long x → matrix_at g.s.n ≤ length x.w
  room x h = omega (arith, h.sized)

  pub lent-keeps : (time : Float) → Keeps g time Long Long Long
  lent-keeps time = record {
    between-work = λ x h w e. lent_length w (e (room x h)) h;
    step-work = λ x h w e. lent_length w (e (room x h)) h;
    over = λ x h. h;
    asked = λ x h k. h;
    timed = λ x h. h;
    retimed = λ x h. h;
    first_step = λ x h w. h;
    first-size = λ x h w. h;
    restarted = λ x h. h;
    totalled = λ x h k. h;
    begun = λ x h e. h;
    accepted = λ x h dsm w. h;
    asked-in-step = λ x h k j. h;
    opened = λ x h. h;
    judged = λ x h. h;
    jacobian-begun = λ x h. h;
    column = λ x h j e. h;
    factored = λ x h. lent-factored g.s x.c x.w x.p h;
    unconverged = λ x h w. after-pass (no_convergence_of g.s x.c w).next (λ e. h) (λ e. h) h;
    failed = λ x h dsm w. after-pass (failed_of g.s x.c dsm w).next (λ e. h) (λ e. h) h;
    restepped = λ x h w. h;
  }

-- whether it was asked for or not
pub resume-lent : (g : Given) (phase : Phase) (x : State) (reply : List Float) (time : Float)
    → Lent g.s.n x.w x.p → (kind : Kind)
    → let l = resume_of g phase x kind reply time in Lent g.s.n l.st.w l.st.p
resume-lent g phase x reply time p kind =
    each (resume_of g phase x kind reply time).phase (λ h. h) (λ h. h) (λ h. h)
    (resume-keeps g phase x kind reply time (lent-keeps g time) (any phase p p p))
