-- A corrector pass: one derivative, a Jacobian if one is due, which by differences is one derivative a column, and then
-- at most maxcor - 1 further derivatives. The matrix, the iteration and its verdict are those of crates jacobian
-- and corrector.
-- `on` is what comes after. A bound of a recursion is its first argument: further derivatives, columns.
use Rattle.std.specs.Prelude.{Bool, true, false, List, ℕ, zero, suc, ◌+◌, ◌-◌, Float}
use Rattle.numbers.specs.Float.{zero_f}
use Rattle.common.specs.declared.Settings.{Settings}
use Rattle.common.specs.declared.Common.{Common}
use Rattle.common.specs.Layout.{ftem_at, acor_at, y_at, yfd_at, y, yfd}
use Rattle.common.specs.Record.{with_nfe, with_count, with_column}
use Rattle.common.specs.State.{Given, State, made, put_c, put_w}
use Rattle.history.specs.Columns.{copy_of, fill_of}
use Rattle.history.specs.Parts.{stored_of}
use Rattle.jacobian.specs.Jacobian.{is_supplied}
use Rattle.jacobian.specs.Jacobian.{begin_of, perturb_of, restore_of, supplied_of, Factored}
use Rattle.jacobian.specs.Jacobian.{finish_jacobian_of as factors_of}
use Rattle.corrector.specs.declared.Pass.{Pass}
use Rattle.corrector.specs.declared.Pass.TheVariants.{Converged, Retry, NoConvergence, Further}
use Rattle.corrector.specs.Verdict.{verdict_of}
use Rattle.corrector.specs.Iterate.{open_of, correct_of}
use Rattle.between_steps.specs.Start.{with_derivative}
use Rattle.rules.specs.Play.{Question, derivative_at, jacobian_at, Source, by_differences, supplied, opens, jacobian}
use Rattle.rules.specs.Play.{retries, exhausted, Play, ret, ask, say}

-- ---- states

-- a derivative is asked for, in no step and in the step under way: the counts rise with the question
abbrev pub asked : Common → Common
asked c = with_nfe (c.nfe + 1) c

abbrev pub asked_in_step : Common → Common
asked_in_step c = with_nfe (c.nfe + 1) (with_count (c.count + 1) c)

-- the derivative at the time and the state y
abbrev pub wanted : Given → State → Question
wanted g x = derivative_at x.c.tn (y g.s.n x.w)

-- the reply becomes savf
abbrev pub stored : Given → List Float → State → State
stored g f x = put_w (with_derivative g.s.n f x.w) x

-- ---- the iterations of a corrector pass

-- how a pass ends: converged, with the size of the last correction; to be retried; not converged
pub data Outcome : Type 0 where
  converged : Float → State → Outcome
  to_retry unconverged : State → Outcome

-- an iteration: its verdict, the size of its correction, and the state then
pub record Iterated : Type 0 where
  pub pass : Pass
  pub del : Float
  pub st : State

unfoldable pub iterated : Given → State → Iterated
iterated g x =
    let r = correct_of g.s x.c x.p x.w in
    let v = verdict_of g.s x.c r in
    record { pass = v.pass; del = r.del; st = made x v.common r.work }

-- a further derivative is asked for
abbrev pub further : State → State
further x = put_c (asked_in_step x.c) x

-- the verdict on an iteration; k further derivatives may be asked for
unfoldable pub turns : ℕ → Given → (Outcome → Play) → Pass → Float → State → Play
turns zero g on Converged del x = on (converged del x)
turns zero g on Retry del x = say retries (on (to_retry x))
turns zero g on NoConvergence del x = on (unconverged x)
turns zero g on Further del x = ret (exhausted x)
turns (suc k) g on Converged del x = on (converged del x)
turns (suc k) g on Retry del x = say retries (on (to_retry x))
turns (suc k) g on NoConvergence del x = on (unconverged x)
turns (suc k) g on Further del x =
    ask (wanted g (further x)) (further x)
    (λ f. let r = iterated g (stored g f (further x)) in turns k g on r.pass r.del r.st)

-- the iterations begin, with no correction yet
abbrev pub fresh : Given → State → State
fresh g x = made x (open_of x.c) (fill_of g.s.n (acor_at g.s.n) zero_f x.w)

-- further derivatives of a pass
abbrev pub further_allowed : Settings → ℕ
further_allowed s = s.maxcor - 1

unfoldable pub iterations : Given → (Outcome → Play) → State → Play
iterations g on x =
    let r = iterated g (fresh g x) in turns (further_allowed g.s) g on r.pass r.del r.st

-- ---- the Jacobian

-- the matrix is in work: its norm, the identity, the factors; the factoring went through or not
abbrev pub factored : Given → State → Factored
factored g x = factors_of g.s x.c x.w x.p

abbrev pub factored_state : Factored → State
factored_state f = record { c = f.common; w = f.work; p = f.ipiv }

-- a singular matrix gives no convergence
unfoldable pub factored_in : Given → (Outcome → Play) → Bool → State → Play
factored_in g on true x = iterations g on x
factored_in g on false x = on (unconverged x)

unfoldable pub after_matrix : Given → (Outcome → Play) → State → Play
after_matrix g on x = factored_in g on (factored g x).done (factored_state (factored g x))

-- column j is asked for
abbrev pub column_asked : Given → ℕ → State → State
column_asked g j x = made x (asked_in_step (with_column j x.c)) (perturb_of g.s x.c j x.w)

-- and its reply stored
abbrev pub column_stored : Given → List Float → State → State
column_stored g f x =
    put_w (restore_of g.s x.c x.c.column (stored_of (ftem_at g.s.n) f x.w)) x

abbrev pub wanted_column : Given → State → Question
wanted_column g x = derivative_at x.c.tn (yfd g.s.n x.w)

-- k columns are still to come, j the next
unfoldable pub ask_columns : ℕ → ℕ → Given → (Outcome → Play) → State → Play
ask_columns zero j g on x = after_matrix g on (put_c (with_column 0 x.c) x)
ask_columns (suc k) j g on x =
    ask (wanted_column g (column_asked g j x)) (column_asked g j x)
    (λ f. ask_columns k (j + 1) g on (column_stored g f (column_asked g j x)))

-- the perturbed state begins as y
abbrev pub unperturbed : Given → State → State
unperturbed g x = put_w (copy_of g.s.n (yfd_at g.s.n) (y_at g.s.n) x.w) x

abbrev pub matrix_given : Given → List Float → State → State
matrix_given g f x = put_w (supplied_of g.s x.c f x.w) x

-- derivatives of one difference Jacobian
abbrev pub columns_of : Settings → ℕ
columns_of s = s.n

-- by the host, or by differences
unfoldable pub ask_matrix : Given → (Outcome → Play) → Bool → State → Play
ask_matrix g on true x =
    ask (jacobian_at x.c.tn (y g.s.n x.w)) x (λ f. after_matrix g on (matrix_given g f x))
ask_matrix g on false x = ask_columns (columns_of g.s) 0 g on (unperturbed g x)

abbrev pub source_of : Bool → Source
source_of true = supplied
source_of false = by_differences

abbrev pub begun : State → State
begun x = put_c (begin_of x.c) x

-- ---- a corrector pass

-- a Jacobian is due, or not
unfoldable pub pass_at : Given → (Outcome → Play) → Bool → State → Play
pass_at g on true x =
    say (jacobian (source_of (is_supplied g.s x.c))) (ask_matrix g on (is_supplied g.s x.c) (begun x))
pass_at g on false x = iterations g on x

-- y is the prediction, column 0
abbrev pub opened : Given → State → State
opened g x = made x (asked_in_step x.c) (copy_of g.s.n (y_at g.s.n) 0 x.w)

unfoldable pub pass : Given → (Outcome → Play) → State → Play
pass g on x =
    say opens
    (ask (wanted g (opened g x)) (opened g x) (λ f. pass_at g on (opened g x).c.due (stored g f (opened g x))))
