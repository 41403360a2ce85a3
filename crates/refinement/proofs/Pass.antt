-- Inside a corrector pass the machine stands at the tree: its Jacobian, its columns, its iterations.
--     Outcomes                  what follows each outcome of a pass is followed
--     turns-stand, iterations-stand, matrix-stands, pass-stands
-- Assumes nothing.
use mathlib.Core.Bool.{Bool, true, false}
use mathlib.Core.Path.{◌≡◌, refl}
use Prim.Native.Nat.{ℕ, zero, suc, ◌+◌, ◌-◌, ◌≤◌}
use native.Mathlib.Omega.{arith}
use lib.Dec.{ltb}
use lib.Ieee.{Float}
use borrow.Author.Tests.{lt-ltb, le-ltb}
use Rattle.common.specs.State.{Given, State}
use Rattle.jacobian.specs.Jacobian.{is_supplied}
use Rattle.corrector.specs.declared.Pass.{Pass}
use Rattle.corrector.specs.declared.Pass.TheVariants.{Converged, Retry, NoConvergence, Further}
use Rattle.questions.specs.declared.Phase.TheVariants as Phase
use Rattle.questions.specs.Turns.{RunState, asked_in_step_of}
use Rattle.questions.specs.Begin.{open_pass_of}
use Rattle.passes.specs.Pass.{concluded_at, iterate_of, iterations_of, error_test_of, pass_failed_of, further_reply_of}
use Rattle.passes.specs.Pass.{matrix_done_of, ask_column_of, ask_jacobian_at, ask_jacobian_of}
use Rattle.passes.specs.Pass.{opened_reply_at, opened_reply_of, jacobian_reply_of, column_reply_at, column_reply_of}
use Rattle.passes.specs.Pass as Machine
use Rattle.machine.specs.Resume.{resume_at}
use Rattle.rules.specs.Play.{Play}
use Rattle.rules.specs.Pass.{Outcome, converged, to_retry, unconverged, iterated, further, turns, iterations}
use Rattle.rules.specs.Pass.{stored, factored, factored_state, factored_in, after_matrix, column_asked, ask_columns}
use Rattle.rules.specs.Pass.{unperturbed, matrix_given, ask_matrix, begun, pass_at, opened, pass}
use Rattle.refinement.specs.AtNode.{AtNode}
use Rattle.refinement.proofs.Alive.{Alive}
use Rattle.refinement.proofs.Replies.{derivative-stands, jacobian-stands}

module _ (g : Given) where
  -- what the machine does at the end of a pass
  abbrev pub concluded : Outcome → RunState
  concluded (converged del x) = error_test_of g x del
  concluded (to_retry x) = open_pass_of g.s.n x
  concluded (unconverged x) = pass_failed_of g.s x

  abbrev pub Outcomes : (Outcome → Play) → Type 0
  Outcomes on = (o : Outcome) → Alive g.s.n (on o) → AtNode g (on o) (concluded o)

  module _ (on : Outcome → Play) (after : Outcomes on) where
    pub turns-stand : (k : ℕ) (v : Pass) (del : Float) (x : State) → Alive g.s.n (turns k g on v del x)
        → AtNode g (turns k g on v del x) (concluded_at g x v del)
    unfolding turns concluded_at asked_in_step_of resume_at further_reply_of iterate_of iterated
    turns-stand zero Converged del x a = after (converged del x) a
    turns-stand zero Retry del x a = after (to_retry x) a
    turns-stand zero NoConvergence del x a = after (unconverged x) a
    turns-stand zero Further del x a = absurd a
    turns-stand (suc k) Converged del x a = after (converged del x) a
    turns-stand (suc k) Retry del x a = after (to_retry x) a
    turns-stand (suc k) NoConvergence del x a = after (unconverged x) a
    turns-stand (suc k) Further del x a =
        derivative-stands g (further x) _ Phase.FurtherDerivative (λ kind len n. refl)
        (λ f t h. turns-stand k _ _ _ (a f h))

    pub iterations-stand : (x : State) → Alive g.s.n (iterations g on x)
        → AtNode g (iterations g on x) (iterations_of g x)
    unfolding iterations iterations_of iterate_of iterated
    iterations-stand x a = turns-stand (g.s.maxcor - 1) _ _ _ a

    -- ---- the Jacobian

    factored-stands : (done : Bool) (x : State) → Alive g.s.n (factored_in g on done x)
        → AtNode g (factored_in g on done x) (Machine.matrix_done_at g x done)
    unfolding factored_in Machine.matrix_done_at
    factored-stands true x a = iterations-stand x a
    factored-stands false x a = after (unconverged x) a

    after-matrix-stands : (x : State) → Alive g.s.n (after_matrix g on x)
        → AtNode g (after_matrix g on x) (matrix_done_of g x)
    unfolding after_matrix matrix_done_of
    after-matrix-stands x a = factored-stands (factored g x).done (factored_state (factored g x)) a

    -- column j, and k more
    columns-stand : (k j : ℕ) (x : State) → k + j + 1 ≡ g.s.n → Alive g.s.n (ask_columns (suc k) j g on x)
        → AtNode g (ask_columns (suc k) j g on x) (ask_column_of g.s x j)
    unfolding ask_columns ask_column_of asked_in_step_of resume_at column_reply_of column_reply_at
    columns-stand zero j x e a =
        derivative-stands g (column_asked g j x) _ Phase.DifferenceColumn (λ kind len n. refl)
        (λ f t h. let q : ltb (j + 1) g.s.n ≡ false = le-ltb (j + 1) g.s.n (omega arith) in
        rw q (after-matrix-stands _ (a f h)))
    columns-stand (suc k) j x e a =
        derivative-stands g (column_asked g j x) _ Phase.DifferenceColumn (λ kind len n. refl)
        (λ f t h. let q : ltb (j + 1) g.s.n ≡ true = lt-ltb (j + 1) g.s.n (omega arith) in
        rw q (columns-stand k (j + 1) _ (omega arith) (a f h)))

    module _ (some : 1 ≤ g.s.n) where
      all-columns-stand : (k : ℕ) (x : State) → k ≡ g.s.n → Alive g.s.n (ask_columns k 0 g on x)
          → AtNode g (ask_columns k 0 g on x) (ask_column_of g.s x 0)
      all-columns-stand zero x e a = absurd (omega arith)
      all-columns-stand (suc k) x e a = columns-stand k 0 x (omega arith) a

      matrix-stands : (supplied : Bool) (x : State) → Alive g.s.n (ask_matrix g on supplied x)
          → AtNode g (ask_matrix g on supplied x) (ask_jacobian_at g.s x supplied)
      unfolding ask_matrix ask_jacobian_at resume_at jacobian_reply_of
      matrix-stands true x a = jacobian-stands g x _ (λ f t h. after-matrix-stands (matrix_given g f x) (a f h))
      matrix-stands false x a = all-columns-stand g.s.n (unperturbed g x) refl a

      -- ---- a pass

      reply-stands : (due : Bool) (x : State) → Alive g.s.n (pass_at g on due x)
          → AtNode g (pass_at g on due x) (opened_reply_at g x due)
      unfolding pass_at opened_reply_at ask_jacobian_of
      reply-stands true x a = matrix-stands (is_supplied g.s x.c) (begun x) a
      reply-stands false x a = iterations-stand x a

      pub pass-stands : (x : State) → Alive g.s.n (pass g on x)
          → AtNode g (pass g on x) (open_pass_of g.s.n x)
      unfolding pass open_pass_of asked_in_step_of resume_at opened_reply_of
      pass-stands x a =
          derivative-stands g (opened g x) _ Phase.Opened (λ kind len n. refl)
          (λ f t h. reply-stands (opened g x).c.due (stored g f (opened g x)) (a f h))
