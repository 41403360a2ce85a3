-- What obeys the laws of `Keeps` is kept by every reply: the machine's definitions, one lemma for each.
--     resume-keeps       every reply, refused ones included
-- Assumes nothing.
use mathlib.Core.Bool.{Bool, true, false, cond, true≢false}
use mathlib.Core.List.{List}
use mathlib.Core.Path.{◌≡◌, refl, sym, ◌∙◌}
use Prim.Native.Nat.{ℕ, ◌+◌, ◌≤◌, ◌<◌}
use native.Mathlib.Omega.{arith}
use lib.Dec.{leb, ltb}
use lib.Ieee as Ieee
use lib.Ieee.{Float}
use lib.ListN.{length}
use borrow.Author.Tests.{eqb-true, ltb-true}
use Rattle.numbers.specs.Float.{zero_f, one_f}
use Rattle.numbers.specs.Sign.{refused}
use Rattle.std.specs.Prelude.{Result, Ok, Err}
use Rattle.vectors.specs.declared.NotPositive.{NotPositive}
use Rattle.vectors.specs.Weights.{ewset_of, ewset_like_of}
use Rattle.vectors.proofs.Laws.{length-ewset, length-ewset-like}
use Rattle.common.specs.declared.Settings.{Settings}
use Rattle.common.specs.Layout.{ewt_at, savf_at, ftem_at, acor_at, y_at, yfd_at, matrix_at}
use Rattle.common.specs.State.{Given, State}
use Rattle.history.specs.Columns.{copy_of, slope_of}
use Rattle.history.specs.Parts.{stored_of}
use Rattle.history.proofs.Laws.{length-copy, length-slope, length-fill}
use Rattle.jacobian.specs.Jacobian.{is_supplied}
use Rattle.jacobian.proofs.Laws.{length-perturb, length-restore, length-supplied}
use Rattle.corrector.specs.declared.Pass.{Pass}
use Rattle.corrector.proofs.Iterated.{length-iteration}
use Rattle.attempt.specs.declared.Next.{Next}
use Rattle.attempt.specs.Attempt.{error_of}
use Rattle.attempt.proofs.Laws as Attempt
use Rattle.acceptance.specs.declared.Branch.{Branch}
use Rattle.acceptance.proofs.Laws.{length-accept, length-closed}
use Rattle.between_steps.specs.declared.Answer.{Answer}
use Rattle.between_steps.specs.declared.Answer.TheVariants.{Continue, Interrupt, Modified}
use Rattle.between_steps.specs.declared.Kind.{Kind}
use Rattle.between_steps.specs.Begin.{is_going}
use Rattle.between_steps.specs.Start.{with_derivative, first_step_of, taken_of as state_of}
use Rattle.between_steps.proofs.Lengths.{length-first, length-stored, length_taken, length-inverted}
use Rattle.questions.specs.declared.Phase.{Phase}
use Rattle.questions.specs.Turns.{RunState, asked_of, asked_in_step_of, finished_of}
use Rattle.questions.specs.Begin.{open_pass_of, began_of, go_on_at, go_on_of}
use Rattle.passes.specs.Pass.{attempted_at, reported_of, closed_at, end_step_of, accepted_at, accepted_of}
use Rattle.passes.specs.Pass.{error_test_at}
use Rattle.passes.specs.Pass.{error_test_of, pass_failed_of, concluded_at, iterate_of, iterations_of, matrix_done_at}
use Rattle.passes.specs.Pass.{matrix_done_of, ask_column_of, ask_jacobian_at, ask_jacobian_of, opened_reply_at}
use Rattle.passes.specs.Pass.{opened_reply_of}
use Rattle.passes.specs.Pass.{jacobian_reply_of, column_reply_at, column_reply_of, further_reply_of, restep_reply_of}
use Rattle.reports.specs.Reports.{sized_at, sized_of, weighted_at, first_derivative_of, after_first_report_of}
use Rattle.reports.specs.Reports.{first_modified_of}
use Rattle.reports.specs.Reports.{after_report_of, modified_of}
use Rattle.machine.specs.Resume.{is_asked, unasked, resume_at, resume_of}
use Rattle.machine.proofs.Replies.{derivative-length}
use Rattle.invariants.proofs.Keeps.{Invariant, Holds, HoldsIn, After, Keeps}

module _ {g : Given} {time : Float} {B S O : Invariant} (k : Keeps g time B S O) where
  abbrev s : Settings
  s = g.s

  abbrev n : ℕ
  n = g.s.n

  abbrev Stays : RunState → Type 0
  Stays l = HoldsIn B S O l

  -- ---- between steps

  opens : (x : State) → S x → Stays (open_pass_of n x)
  unfolding open_pass_of asked_in_step_of
  opens x h = k.asked-in-step _ (k.step-work _ h _ (λ r. length-copy n (y_at n) 0 x.w)) _ _

  began : (x : State) → leb s.maxsteps x.c.nst ≡ false → B x → Stays (began_of s x)
  unfolding began_of
  began x e h = opens _ (k.step-work _ (k.begun _ h e) _ (λ r. length-first s x.c x.w))

  go-on-at : (going enough : Bool) (x : State) → leb s.maxsteps x.c.nst ≡ enough → B x
      → Stays (go_on_at s x going enough)
  unfolding go_on_at finished_of
  go-on-at false enough x e h = k.over _ h
  go-on-at true true x e h = k.over _ h
  go-on-at true false x e h = began x e h

  goes_on : (x : State) → B x → Stays (go_on_of s x)
  unfolding go_on_of
  goes_on x h = go-on-at (is_going s x.c) (leb s.maxsteps x.c.nst) x refl h

  -- ---- a pass's end

  attempted : (v : Next) (x : State) → After v (S x) (O x) → Stays (attempted_at n x v)
  unfolding attempted_at asked_in_step_of finished_of
  attempted Next.Pass x h = opens x h
  attempted Next.Restep x h = k.asked-in-step _ h _ _
  attempted Next.TooSmall x h = h
  attempted Next.Poor x h = h

  unconverges : (x : State) → S x → Stays (pass_failed_of s x)
  unfolding pass_failed_of
  unconverges x h =
      attempted _ _
      (k.unconverged _ (k.step-work _ h _ (λ r. (Attempt.unconverged s x.c x.w).sized)) x.w)

  closed_at_lem : (v : Result Unit NotPositive) (x : State) → B x → Stays (closed_at n x v)
  unfolding closed_at reported_of
  closed_at_lem (Err e) x h = k.over _ h
  closed_at_lem (Ok u) x h = k.totalled _ (k.between-work _ h _ (λ r. length-copy n (y_at n) 0 x.w)) _

  closes : (order : ℕ) (x : State) → B x → Stays (end_step_of g x order)
  unfolding end_step_of
  closes order x h =
      closed_at_lem _ _ (k.between-work _ h _
      (λ r. length-closed s x.c order g.rtol g.atol x.w (omega (arith, r))))

  accepted-at : (order : ℕ) (b : Branch) (x : State) → B x → Stays (accepted_at g x order b)
  unfolding accepted_at finished_of
  accepted-at order Branch.CoefficientGap x h = k.over _ h
  accepted-at order Branch.Unchanged x h = closes order x h
  accepted-at order Branch.SmallGain x h = closes order x h
  accepted-at order Branch.Lowered x h = closes order x h
  accepted-at order Branch.Kept x h = closes order x h
  accepted-at order Branch.Raised x h = closes order x h
  accepted-at order Branch.HeldBySm1 x h = closes order x h
  accepted-at order Branch.FamilyChanged x h = closes order x h

  converged-at : (dsm : Float) (above : Bool) (x : State) → S x → Stays (error_test_at g x dsm above)
  unfolding error_test_at accepted_of
  converged-at dsm true x h =
      attempted _ _
      (k.failed _ (k.step-work _ h _ (λ r. (Attempt.failed s x.c dsm x.w).sized)) dsm x.w)
  converged-at dsm false x h =
      accepted-at x.c.nq _ _
      (k.between-work _ (k.accepted _ h dsm x.w) _ (λ r. length-accept s x.c dsm x.w))

  -- ---- iterations

  concluded-at : (v : Pass) (del : Float) (x : State) → S x → Stays (concluded_at g x v del)
  unfolding concluded_at error_test_of asked_in_step_of
  concluded-at Pass.Converged del x h =
      let dsm = error_of s x.c del x.w in converged-at dsm (Ieee.lt one_f dsm) x h
  concluded-at Pass.Retry del x h = opens x h
  concluded-at Pass.NoConvergence del x h = unconverges x h
  concluded-at Pass.Further del x h = k.asked-in-step _ h _ _

  iterates : (x : State) → S x → Stays (iterate_of g x)
  unfolding iterate_of
  iterates x h =
      concluded-at _ _ _ (k.step-work _ (k.judged _ h) _ (λ r. length-iteration s x.c x.w x.p))

  iterations : (x : State) → S x → Stays (iterations_of g x)
  unfolding iterations_of
  iterations x h =
      iterates _ (k.opened _ (k.step-work _ h _ (λ r. length-fill n (acor_at n) zero_f x.w (omega (arith, r)))))

  -- ---- the Jacobian

  factored-at : (done : Bool) (x : State) → S x → Stays (matrix_done_at g x done)
  unfolding matrix_done_at
  factored-at true x h = iterations x h
  factored-at false x h = unconverges x h

  factors : (x : State) → S x → Stays (matrix_done_of g x)
  unfolding matrix_done_of
  factors x h = factored-at _ _ (k.factored _ h)

  asks-column : (j : ℕ) (x : State) → (1 ≤ n → j < n) → S x → Stays (ask_column_of s x j)
  unfolding ask_column_of asked_in_step_of
  asks-column j x e h =
      k.asked-in-step _ (k.column _ (k.step-work _ h _ (λ r. length-perturb s x.c x.w j)) j e) _ _

  begin-at : (supplied : Bool) (x : State) → S x → Stays (ask_jacobian_at s x supplied)
  unfolding ask_jacobian_at
  begin-at true x h = h
  begin-at false x h =
      asks-column 0 _ (λ q. q) (k.step-work _ h _ (λ r. length-copy n (yfd_at n) (y_at n) x.w))

  -- ---- replies

  opened-at : (due : Bool) (x : State) → S x → Stays (opened_reply_at g x due)
  unfolding opened_reply_at ask_jacobian_of
  opened-at true x h = begin-at (is_supplied s x.c) _ (k.jacobian-begun _ h)
  opened-at false x h = iterations x h

  sized-at : (no : Bool) (x : State) → B x
      → Stays (sized_at s x (first_step_of s x.c g.rtol g.atol x.w) no)
  unfolding sized_at
  sized-at true x h = k.over _ (k.first_step _ h x.w)
  sized-at false x h = k.first-size _ (k.between-work _ h _ (λ r. length-slope n _ x.w)) x.w

  weighted-at : (v : Result Unit NotPositive) (x : State) → B x → Stays (weighted_at g x v)
  unfolding weighted_at sized_of
  weighted-at (Err e) x h = k.over _ h
  weighted-at (Ok u) x h =
      sized-at (refused (first_step_of s x.c g.rtol g.atol x.w) s.direction) x h

  jacobian : (f : List Float) (x : State) → S x → Stays (jacobian_reply_of g x f)
  unfolding jacobian_reply_of
  jacobian f x h = factors _ (k.step-work _ h _ (λ r. length-supplied s x.c x.w f))

  column-at : (more : Bool) (x : State) → ltb (x.c.column + 1) n ≡ more → S x → Stays (column_reply_at g x more)
  unfolding column_reply_at
  column-at true x e h = asks-column (x.c.column + 1) x (λ q. ltb-true (x.c.column + 1) n e) h
  column-at false x e h = factors _ (k.column _ h 0 (λ q. q))

  module _ (f : List Float) (l : length f ≡ n) (x : State) where
    abbrev w : List Float
    w = x.w

    -- as long as before, where a reply of n numbers is stored
    stored : (from : ℕ) → from + n ≤ matrix_at n → matrix_at n ≤ length w → length (stored_of from f w) ≡ length w
    stored from fits r = length-stored from f w (omega (arith, l))

    derivative : matrix_at n ≤ length w → length (with_derivative n f w) ≡ length w
    derivative = stored (savf_at n) (omega arith)

    taken : matrix_at n ≤ length w → length (state_of n f w) ≡ length w
    taken r = length_taken n w r f l

    opened : S x → Stays (opened_reply_of g x f)
    unfolding opened_reply_of
    opened h = opened-at x.c.due _ (k.step-work _ h _ derivative)

    column : S x → Stays (column_reply_of g x f)
    unfolding column_reply_of
    column h =
        column-at (ltb (x.c.column + 1) n) _ refl
        (k.step-work _ h _ (λ r. length-restore s x.c x.c.column _ ∙ stored (ftem_at n) (omega arith) r))

    further : S x → Stays (further_reply_of g x f)
    unfolding further_reply_of
    further h = iterates _ (k.step-work _ h _ derivative)

    resteps : S x → Stays (restep_reply_of s x f)
    unfolding restep_reply_of
    resteps h =
        let v = with_derivative n f w in
        opens _ (k.restepped _ (k.step-work _ h _ (λ r. (Attempt.restepped s x.c v).sized ∙ derivative r)) v)

    first-derivative : B x → Stays (first_derivative_of g x f)
    unfolding first_derivative_of
    first-derivative h =
        let y = copy_of n 0 (y_at n) (with_derivative n f w) in
        let v = ewset_of g.rtol g.atol n (ewt_at n) y in
        let e : matrix_at n ≤ length w → length v ≡ length w =
        λ r. length-ewset g.rtol g.atol n (ewt_at n) y ∙ length-copy n 0 (y_at n) _ ∙ derivative r
        in
        weighted-at _ _ (k.between-work _ h _ (λ r. length-inverted n v (omega (arith, e r)) ∙ e r))

    first-report : (a : Answer) → B x → Stays (after_first_report_of s x a f time)
    unfolding after_first_report_of finished_of asked_of
    first-report Continue h = goes_on _ (k.timed _ h)
    first-report Interrupt h = k.over _ (k.timed _ h)
    first-report Modified h = k.asked _ (k.timed _ (k.between-work _ h _ taken)) _

    first_modified_run : B x → Stays (first_modified_of s x f)
    unfolding first_modified_of
    first_modified_run h = goes_on _ (k.between-work _ h _ (λ r. length-slope n x.c.h _ ∙ derivative r))

    after-report : (a : Answer) → B x → Stays (after_report_of s x a f time)
    unfolding after_report_of finished_of asked_of
    after-report Continue h = goes_on _ (k.timed _ (k.between-work _ h _ taken))
    after-report Interrupt h = k.over _ (k.timed _ (k.between-work _ h _ taken))
    after-report Modified h = k.asked _ (k.retimed _ (k.between-work _ h _ taken)) _

    modified : B x → Stays (modified_of s x f)
    unfolding modified_of
    modified h =
        let y = slope_of n x.c.h (with_derivative n f w) in
        let v = ewset_like_of n (ewt_at n) y in
        let e : matrix_at n ≤ length w → length v ≡ length w =
        λ r. length-ewset-like n (ewt_at n) y ∙ length-slope n x.c.h _ ∙ derivative r
        in
        goes_on _ (k.restarted _ (k.between-work _ h _ (λ r. length-inverted n v (omega (arith, e r)) ∙ e r)))

-- ---- any reply

module _ (g : Given) (phase : Phase) (x : State) (kind : Kind) (f : List Float) (time : Float) {B S O : Invariant}
    (k : Keeps g time B S O) where
  taken-keeps : (ph : Phase) (kd : Kind) → is_asked ph kd (length f) g.s.n ≡ true → Holds B S O ph x
      → HoldsIn B S O (resume_at g ph x kd f time)
  unfolding resume_at
  taken-keeps Phase.FirstDerivative kd e h = first-derivative k f (derivative-length _ _ kd e) x h
  taken-keeps Phase.FirstReport (Kind.Report a) e h =
      first-report k f (eqb-true (length f) g.s.n e) x a h
  taken-keeps Phase.FirstReport Kind.Derivative e h = absurd (true≢false (sym e))
  taken-keeps Phase.FirstReport Kind.Jacobian e h = absurd (true≢false (sym e))
  taken-keeps Phase.FirstModified kd e h = first_modified_run k f (derivative-length _ _ kd e) x h
  taken-keeps Phase.Opened kd e h = opened k f (derivative-length _ _ kd e) x h
  taken-keeps Phase.JacobianAsked kd e h = jacobian k f x h
  taken-keeps Phase.DifferenceColumn kd e h = column k f (derivative-length _ _ kd e) x h
  taken-keeps Phase.FurtherDerivative kd e h = further k f (derivative-length _ _ kd e) x h
  taken-keeps Phase.Restep kd e h = resteps k f (derivative-length _ _ kd e) x h
  taken-keeps Phase.Report (Kind.Report a) e h =
      after-report k f (eqb-true (length f) g.s.n e) x a h
  taken-keeps Phase.Report Kind.Derivative e h = absurd (true≢false (sym e))
  taken-keeps Phase.Report Kind.Jacobian e h = absurd (true≢false (sym e))
  taken-keeps Phase.Modified kd e h = modified k f (derivative-length _ _ kd e) x h
  taken-keeps Phase.Finished kd e h = absurd (true≢false (sym e))

  resumed : (asked : Bool) → is_asked phase kind (length f) g.s.n ≡ asked → Holds B S O phase x
      → HoldsIn B S O (cond asked (resume_at g phase x kind f time) (unasked phase x))
  resumed true e h = taken-keeps phase kind e h
  resumed false e h = h

  -- every reply, refused ones included
  pub resume-keeps : Holds B S O phase x → HoldsIn B S O (resume_of g phase x kind f time)
  unfolding resume_of
  resume-keeps h = resumed (is_asked phase kind (length f) g.s.n) refl h
