-- What a reply that is taken leads to, whatever the floats and the record: the question that is asked means what the
-- specs say of it, and it is the one of the phase that waits for its reply. What a reply keeps of the record is in
-- crates/invariants: this walk is over the questions.
--     resume-means, resume-agrees   of a reply of the kind and length asked
--     resume-same                   any other leaves all as it was
-- Assumes nothing.
use mathlib.Core.Bool.{Bool, true, false}
use mathlib.Core.List.{List}
use mathlib.Core.Logic.{◌⊎◌, inl, inr}
use mathlib.Core.Path.{◌≡◌, refl}
use Prim.Native.Nat.{ℕ, ◌+◌}
use lib.Dec.{eqb, ltb, leb}
use lib.Ieee as Ieee
use lib.Ieee.{Float}
use lib.ListN.{length}
use borrow.Author.Tests.{eqb-true, leb-true}
use Rattle.loops.proofs.Test.{differs}
use Rattle.numbers.specs.Float.{one_f}
use Rattle.numbers.specs.Sign.{refused}
use Rattle.std.specs.Prelude.{Result, Ok, Err}
use Rattle.std.proofs.lemmas.Bool.{or_cases}
use Rattle.vectors.specs.declared.NotPositive.{NotPositive}
use Rattle.common.specs.declared.Settings.{Settings}
use Rattle.common.specs.declared.Common.{Common}
use Rattle.common.specs.Limits.{mxncf_of}
use Rattle.common.specs.Rules.{tiny_of}
use Rattle.common.specs.State.{Given, State, put_c}
use Rattle.jacobian.specs.Jacobian.{is_supplied, begin_of, finish_jacobian_of as factors_of}
use Rattle.corrector.specs.declared.Pass.{Pass}
use Rattle.attempt.specs.Attempt.{poor_of, no_convergence_at, no_convergence_of, error_of, missed_at, missed_of}
use Rattle.attempt.specs.Attempt.{overshot_of}
use Rattle.attempt.specs.Attempt.{failed_of, retracted_work}
use Rattle.attempt.specs.Attempt as Attempt
use Rattle.acceptance.specs.declared.Branch.{Branch}
use Rattle.between_steps.specs.declared.Answer.{Answer}
use Rattle.between_steps.specs.declared.Answer.TheVariants.{Continue, Interrupt, Modified}
use Rattle.between_steps.specs.declared.Kind.{Kind}
use Rattle.questions.specs.declared.Phase.{Phase}
use Rattle.between_steps.specs.declared.Status.TheVariants as Status
use Rattle.questions.specs.Turns.{RunState, asked_of, asked_in_step_of, finished_of}
use Rattle.between_steps.specs.Start.{first_step_of}
use Rattle.questions.specs.Begin.{open_pass_of, began_of, go_on_at, go_on_of}
use Rattle.between_steps.specs.Begin.{is_going}
use Rattle.passes.specs.Pass.{attempted_at, attempted_of, reported_of, closed_at, end_step_of, accepted_at, accepted_of}
use Rattle.passes.specs.Pass.{error_test_at, error_test_of, pass_failed_of, concluded_at, iterate_of, iterations_of}
use Rattle.passes.specs.Pass.{matrix_done_at, matrix_done_of, ask_column_of, ask_jacobian_at, ask_jacobian_of}
use Rattle.passes.specs.Pass.{opened_reply_at}
use Rattle.passes.specs.Pass.{opened_reply_of, jacobian_reply_of, column_reply_at, column_reply_of, further_reply_of}
use Rattle.passes.specs.Pass.{restep_reply_of}
use Rattle.reports.specs.Reports.{sized_at, sized_of, weighted_at, first_derivative_of, after_first_report_of}
use Rattle.reports.specs.Reports.{first_modified_of, after_report_of, modified_of}
use Rattle.machine.specs.Resume.{is_asked, unasked, resume_at, resume_of}
use Rattle.calls.specs.ReplyMeans.{HeldAtEnd, Meant}
use Rattle.calls.proofs.Agrees.{Agrees}
use Rattle.calls.proofs.ReplyGap.{gap-held}

-- ---- a turn: `before` and `kind` are the phase that waited and what the reply was

module _ (s : Settings) (before : Phase) (kind : Kind) where
  record Good (l : RunState) : Type 0 where
    agrees : Agrees l.question l.phase l.st.c
    means : Meant s before kind l.question l.phase l.st.c

  -- ---- between steps

  open-pass : (n : ℕ) (x : State) → Good (open_pass_of n x)
  unfolding open_pass_of asked_in_step_of
  open-pass n x = record { agrees = refl; means = (refl, refl) }

  go-on-at : (going enough : Bool) (x : State) → is_going s x.c ≡ going → leb s.maxsteps x.c.nst ≡ enough
      → Good (go_on_at s x going enough)
  unfolding go_on_at finished_of began_of
  go-on-at false enough x e g = record { agrees = refl; means = (refl, refl, e) }
  go-on-at true true x e g = record { agrees = refl; means = (refl, refl, (e, leb-true _ _ g)) }
  go-on-at true false x e g = open-pass s.n _

  go_on : (x : State) → Good (go_on_of s x)
  unfolding go_on_of
  go_on x = go-on-at (is_going s x.c) (leb s.maxsteps x.c.nst) x refl refl

  -- ---- a pass that was not accepted

  poor-at : (poor : Bool) (c : Common) (work : List Float) (x : State) → poor_of s c ≡ poor
      → Good (attempted_of s.n x (no_convergence_at s poor c work))
  unfolding no_convergence_at attempted_at finished_of
  poor-at true c work x e = record { agrees = refl; means = (refl, refl, why (or_cases _ _ e)) }
    where
      why : (tiny_of c ≡ true) ⊎ (eqb c.ncf (mxncf_of s) ≡ true) → (tiny_of c ≡ true) ⊎ (c.ncf ≡ mxncf_of s)
      why (inl t) = inl t
      why (inr t) = inr (eqb-true _ _ t)
  poor-at false c work x e = open-pass s.n _

  unconverged : (x : State) → Good (pass_failed_of s x)
  unfolding pass_failed_of no_convergence_of
  unconverged x =
      let d = Attempt.unconverged_of x.c in poor-at (poor_of s d) d (retracted_work s x.c x.w) x refl

  missed-at : (tiny early last : Bool) (c : Common) (dsm : Float) (work : List Float) (x : State) → tiny_of c ≡ tiny
      → eqb c.kflag 10 ≡ last → Good (attempted_of s.n x (missed_at s dsm tiny early last c work))
  unfolding missed_at attempted_at finished_of asked_in_step_of
  missed-at true early last c dsm work x e g = record { agrees = refl; means = (refl, refl, inl e) }
  missed-at false true last c dsm work x e g = open-pass s.n _
  missed-at false false true c dsm work x e g =
      record { agrees = refl; means = (refl, refl, inr (eqb-true _ _ g)) }
  missed-at false false false c dsm work x e g = record { agrees = refl; means = (refl, refl) }

  failed : (x : State) (dsm : Float) → Good (attempted_of s.n x (failed_of s x.c dsm x.w))
  unfolding failed_of missed_of
  failed x dsm =
      let d = overshot_of x.c in
      missed-at (tiny_of d) (ltb d.kflag 3) (eqb d.kflag 10) d dsm (retracted_work s x.c x.w) x refl refl

-- ---- acceptance

module _ (g : Given) (before : Phase) (kind : Kind) where
  abbrev Fine : RunState → Type 0
  Fine l = Good g.s before kind l

  closed : (x : State) (v : Result Unit NotPositive) → Fine (closed_at g.s.n x v)
  unfolding closed_at reported_of
  closed x (Err e) = record { agrees = refl; means = refl }
  closed x (Ok u) = record { agrees = (refl, refl, refl); means = (refl, refl) }

  close : (order : ℕ) (x : State) → Fine (end_step_of g x order)
  unfolding end_step_of
  close order x = closed _ _

  accepted-at : (order : ℕ) (branch : Branch) (x : State)
      → (branch ≡ Branch.CoefficientGap → HeldAtEnd g.s before kind Status.CoefficientGap x.c)
      → Fine (accepted_at g x order branch)
  unfolding accepted_at finished_of
  accepted-at order Branch.CoefficientGap x h = record { agrees = refl; means = (refl, refl, h refl) }
  accepted-at order Branch.Unchanged x h = close order x
  accepted-at order Branch.SmallGain x h = close order x
  accepted-at order Branch.Lowered x h = close order x
  accepted-at order Branch.Kept x h = close order x
  accepted-at order Branch.Raised x h = close order x
  accepted-at order Branch.HeldBySm1 x h = close order x
  accepted-at order Branch.FamilyChanged x h = close order x

  converged-at : (dsm : Float) (above : Bool) (x : State) → Fine (error_test_at g x dsm above)
  unfolding error_test_at accepted_of
  converged-at dsm true x = failed g.s before kind x dsm
  converged-at dsm false x = accepted-at x.c.nq _ _ (gap-held g.s x.c dsm x.w)

  -- ---- iterations and the Jacobian

  concluded-at : (pass : Pass) (del : Float) (x : State) → Fine (concluded_at g x pass del)
  unfolding concluded_at error_test_of asked_in_step_of
  concluded-at Pass.Converged del x =
      let dsm = error_of g.s x.c del x.w in converged-at dsm (Ieee.lt one_f dsm) x
  concluded-at Pass.Retry del x = open-pass g.s before kind g.s.n x
  concluded-at Pass.NoConvergence del x = unconverged g.s before kind x
  concluded-at Pass.Further del x = record { agrees = refl; means = (refl, refl) }

  iterate : (x : State) → Fine (iterate_of g x)
  unfolding iterate_of
  iterate x = concluded-at _ _ _

  iterations : (x : State) → Fine (iterations_of g x)
  unfolding iterations_of
  iterations x = iterate _

  factored-at : (done : Bool) (x : State) → Fine (matrix_done_at g x done)
  unfolding matrix_done_at
  factored-at true x = iterations x
  factored-at false x = unconverged g.s before kind x

  factored : (x : State) → Fine (matrix_done_of g x)
  unfolding matrix_done_of
  factored x = factored-at (factors_of g.s x.c x.w x.p).done _

  ask-column : (x : State) (j : ℕ) → Fine (ask_column_of g.s x j)
  unfolding ask_column_of asked_in_step_of
  ask-column x j = record { agrees = refl; means = (refl, refl) }

  begin-at : (supplied : Bool) (x : State) → is_supplied g.s x.c ≡ supplied
      → Fine (ask_jacobian_at g.s (put_c (begin_of x.c) x) supplied)
  unfolding ask_jacobian_at begin_of
  begin-at true x e = record { agrees = refl; means = (refl, refl, e) }
  begin-at false x e = ask-column _ 0

  opened-at : (due : Bool) (x : State) → Fine (opened_reply_at g x due)
  unfolding opened_reply_at ask_jacobian_of
  opened-at true x = begin-at (is_supplied g.s x.c) x refl
  opened-at false x = iterations x

  column-at : (another : Bool) (x : State) → Fine (column_reply_at g x another)
  unfolding column_reply_at
  column-at true x = ask-column x (x.c.column + 1)
  column-at false x = factored _

-- ---- any reply

module _ (g : Given) (x : State) (reply : List Float) (time : Float) where
  abbrev s : Settings
  s = g.s

  abbrev Taken : Phase → Kind → Type 0
  Taken phase kind = Good s phase kind (resume_at g phase x kind reply time)

  abbrev Asked : Phase → Kind → Type 0
  Asked phase kind = is_asked phase kind (length reply) s.n ≡ true

  sized-at : (kind : Kind) (no : Bool) (z : State) (h : Float) → refused h s.direction ≡ no
      → Good s Phase.FirstDerivative kind (sized_at s z h no)
  unfolding sized_at
  sized-at kind true z h e = record { agrees = refl; means = (refl, refl, e) }
  sized-at kind false z h e = record { agrees = (refl, refl); means = (refl, refl, refl) }

  weighted-at : (kind : Kind) (v : Result Unit NotPositive) (z : State)
      → Good s Phase.FirstDerivative kind (weighted_at g z v)
  unfolding weighted_at sized_of
  weighted-at kind (Err e) z = record { agrees = refl; means = refl }
  weighted-at kind (Ok u) z =
      let h = first_step_of s z.c g.rtol g.atol z.w in sized-at kind (refused h s.direction) z h refl

  first-report : (a : Answer) → Taken Phase.FirstReport (Kind.Report a)
  unfolding resume_at after_first_report_of asked_of finished_of
  first-report Continue = go_on s Phase.FirstReport (Kind.Report Continue) _
  first-report Interrupt = record { agrees = refl; means = (refl, refl, (inl refl, refl)) }
  first-report Modified = record { agrees = refl; means = (refl, refl) }

  after-report : (a : Answer) → Taken Phase.Report (Kind.Report a)
  unfolding resume_at after_report_of asked_of finished_of
  after-report Continue = go_on s Phase.Report (Kind.Report Continue) _
  after-report Interrupt = record { agrees = refl; means = (refl, refl, (inr refl, refl)) }
  after-report Modified = record { agrees = refl; means = (refl, refl) }

  taken : (phase : Phase) (kind : Kind) → Asked phase kind → Taken phase kind
  unfolding resume_at first_derivative_of first_modified_of opened_reply_of jacobian_reply_of column_reply_of
      further_reply_of
      restep_reply_of modified_of
  taken Phase.FirstDerivative kind e = weighted-at kind _ _
  taken Phase.FirstReport (Kind.Report a) e = first-report a
  taken Phase.FirstReport Kind.Derivative e = differs e
  taken Phase.FirstReport Kind.Jacobian e = differs e
  taken Phase.FirstModified kind e = go_on s Phase.FirstModified kind _
  taken Phase.Opened kind e = opened-at g Phase.Opened kind x.c.due _
  taken Phase.JacobianAsked kind e = factored g Phase.JacobianAsked kind _
  taken Phase.DifferenceColumn kind e = column-at g Phase.DifferenceColumn kind (ltb (x.c.column + 1) s.n) _
  taken Phase.FurtherDerivative kind e = iterate g Phase.FurtherDerivative kind _
  taken Phase.Restep kind e = open-pass s Phase.Restep kind s.n _
  taken Phase.Report (Kind.Report a) e = after-report a
  taken Phase.Report Kind.Derivative e = differs e
  taken Phase.Report Kind.Jacobian e = differs e
  taken Phase.Modified kind e = go_on s Phase.Modified kind _
  taken Phase.Finished kind e = differs e

module _ (g : Given) (phase : Phase) (x : State) (kind : Kind) (reply : List Float) (time : Float) where
  abbrev asked : Bool
  asked = is_asked phase kind (length reply) g.s.n

  abbrev next : RunState
  next = resume_of g phase x kind reply time

  good : asked ≡ true → Good g.s phase kind next
  unfolding resume_of
  good e = rw e (taken g x reply time phase kind e)

  pub resume-agrees : asked ≡ true → Agrees next.question next.phase next.st.c
  resume-agrees e = (good e).agrees

  pub resume-means : asked ≡ true → Meant g.s phase kind next.question next.phase next.st.c
  resume-means e = (good e).means

  pub resume-same : asked ≡ false → resume_of g phase x kind reply time ≡ unasked phase x
  unfolding resume_of
  resume-same e = rw e
