-- The table of sums. (1) to (7) are proved where their definitions stand; (8) to (12) by computation of the machine's
-- definitions, and from there through the calls.
--     sums
-- Assumes nothing.
use mathlib.Core.Bool.{Bool, true, false, true≢false}
use mathlib.Core.List.{List, [], ◌∷◌}
use mathlib.Core.Path.{◌≡◌, refl, sym, ap, ◌∙◌}
use Prim.Native.Nat.{ℕ, zero, suc}
use native.Mathlib.Nat.{not-suc-le-zero, le_of_suc-le-suc}
use lib.Ieee.{Float, add, sub, mul, div, neg, lt, eq, le, ne, of_int, of_bits}
use borrow.Author.Tests.{eq-eqb}
use Rattle.loops.specs.For.{times}
use Rattle.numbers.specs.Float.{zero_f}
use Rattle.numbers.specs.Order.{max_of, min_of}
use Rattle.numbers.specs.Sign.{abs_of, negative, signum_of, refused}
use Rattle.root.specs.Root.{root_of}
use Rattle.root.proofs.Examples.{root-3-of-8, root-13-of-1}
use Rattle.coefficients.specs.Cfode.{cfode_of}
use Rattle.coefficients.specs.Table.{elco_of, tesco_of, sm1_of}
use Rattle.coefficients.proofs.Examples.{sum-1, sum-2}
use Rattle.vectors.specs.Norm.{vmnorm_of}
use Rattle.vectors.specs.Tolerance.{tolerance_of}
use Rattle.vectors.specs.Weights.{ewset_of, invert_of}
use Rattle.vectors.proofs.Examples.{sum-3}
use Rattle.dense.proofs.Examples.{sum-4-factored, sum-4-solved, sum-5-zero, sum-5-nan}
use Rattle.common.specs.Initial as Initial
use Rattle.common.specs.SessionWords.{session_length}
use Rattle.common.specs.Layout.{column}
use Rattle.common.specs.Rules.{first_call_init_of, reset_of}
use Rattle.history.specs.Columns.{predict_columns_of, retract_columns_of, rescale_columns_of, add_scaled_of}
use Rattle.history.specs.Columns.{correct_columns_of}
use Rattle.history.specs.Columns.{copy_of, slope_of, fill_of, scale_part_of}
use Rattle.history.specs.Steps.{limited_of, adjust_of, stale_of, predicted_of}
use Rattle.interpolation.proofs.Examples.{sum-7}
use Rattle.corrector.specs.Verdict.{judge_of, rated_of, dcon_of, estimated_of, judged_converged, give_up_of}
use Rattle.corrector.specs.Verdict.{judged_further}
use Rattle.corrector.specs.Verdict.{judged_tested}
use Rattle.corrector.specs.Iterate.{open_of, adams_residual_of, adams_update_of, adams_of, correct_of}
use Rattle.attempt.specs.Attempt as Attempt
use Rattle.acceptance.specs.Accept as Accept
use Rattle.questions.specs.Turns.{asked_in_step_of, finished_of, RunState}
use Rattle.between_steps.specs.Begin as Begin
use Rattle.between_steps.specs.Start as Start
use Rattle.questions.specs.Begin as Turns
use Rattle.passes.specs.Pass as Pass
use Rattle.reports.specs.Reports as Reports
use Rattle.machine.specs.Resume.{resume_at, resume_of}
use Rattle.refusals.specs.declared.Lengths.{Lengths}
use Rattle.refusals.specs.Refusal.{also_of, in_order, or_else}
use Rattle.refusals.specs.Start as Refusals
use Rattle.refusals.specs.Start.{start_refusal_of, accepted_settings, given_step_of}
use Rattle.session.proofs.Fits.{Fit, ListFits}
use Rattle.common.specs.State.{Given}
use Rattle.rules.specs.Rules.{Start, beginning}
use Rattle.refinement.specs.Shown.{Shown, wants_derivative, wants_jacobian, reports, ends, refuses_step, refuses_weight}
use Rattle.refinement.specs.Shown.{refuses, stuck, shown_as, shown_by}
use Rattle.refinement.specs.AtNode.{started_at}
use Rattle.refinement.specs.Follows.{state_at}
use Rattle.invariants.proofs.Floats.{literal}
use Rattle.invariants.proofs.Host.{fits-is-f64}
use Rattle.answers.specs.declared.Reply.{Reply}
use Rattle.answers.specs.Called.{Buffers, Called}
use Rattle.raimsklo.specs.Starts.{accepted_start_of}
use Rattle.raimsklo.specs.Calls.{Problem, lengths_of, start_at, start_of}
use Rattle.calls.specs.Run.{FloatsGiven, Begins}
use Rattle.calls.specs.Follow.{Said, said_of, given_of, from_of, tree_of}
use Rattle.calls.specs.Sums.{Single, options_of, problem_of, problem8, problem10, problem11, problem12, LentOne}
use Rattle.calls.specs.Sums.{hosted_by, SumRow, result_of, row8, row9, row10, row11, row12, Sums}
use Rattle.calls.proofs.Keeps.{Runs}
use Rattle.calls.proofs.WellFormed.{well-formed}
use Rattle.calls.proofs.Start.{begun-run, begun-is}
use Rattle.calls.proofs.Walk.{begun-at, begun-says}
use Rattle.calls.proofs.Host.{hosted, allowed, Host, said-shown, hosts}

-- ---- a row that is accepted

abbrev pub sizes : Lengths
sizes = record { n = 1; rtol = 1; atol = 1; work = 20; pivots = 1; session = session_length; question = 20 }

one-fits : (v : Float) → Fit v → ListFits (v ∷ [])
one-fits v f zero h = f
one-fits v f (suc i) h = absurd (not-suc-le-zero (le_of_suc-le-suc h))

-- what a start makes of a row
abbrev set_of : SumRow → Given
set_of r = record {
  s = accepted_settings zero_f r.problem.xend (options_of r.problem) sizes;
  rtol = r.problem.rtol ∷ [];
  atol = r.problem.atol ∷ [];
}

abbrev begun_of : SumRow → RunState
begun_of r = started_at (set_of r) (from_of (problem_of r.problem))

-- what the machine leaves after the row's acts
abbrev left_of : SumRow → RunState
left_of r = hosted (set_of r) (begun_of r) r.acts

abbrev is_ended : Shown → Bool
is_ended (ends e) = true
is_ended (wants_derivative t v) = false
is_ended (wants_jacobian t v) = false
is_ended (reports r) = false
is_ended (refuses_step h) = false
is_ended (refuses_weight i) = false
is_ended refuses = false
is_ended stuck = false

-- what a call says at an end does not depend on what it was lent
abbrev said_alone : Shown → Reply
said_alone v = (said_of 1 0 v []).reply

ended-said : (n order : ℕ) (q : List Float) (v : Shown) → is_ended v ≡ true → (said_of n order v q).reply ≡ said_alone v
ended-said n order q (ends e) h = refl
ended-said n order q (wants_derivative t v) h = absurd (true≢false (sym h))
ended-said n order q (wants_jacobian t v) h = absurd (true≢false (sym h))
ended-said n order q (reports r) h = absurd (true≢false (sym h))
ended-said n order q (refuses_step v) h = absurd (true≢false (sym h))
ended-said n order q (refuses_weight i) h = absurd (true≢false (sym h))
ended-said n order q refuses h = absurd (true≢false (sym h))
ended-said n order q stuck h = absurd (true≢false (sym h))

-- what is computed of a row: it is accepted, each of its replies is asked for, and how it ends
abbrev pub SingleAccepted : Single → Type 0
SingleAccepted c =
    (start_refusal_of zero_f c.xend (options_of c) sizes (c.rtol ∷ []) (c.atol ∷ [])).number ≡ 0

record Ends (r : SumRow) : Type 0 where
  asked : allowed (set_of r) (begun_of r) r.acts ≡ true
  over : is_ended (shown_by 1 (left_of r)) ≡ true
  reply : said_alone (shown_by 1 (left_of r)) ≡ r.result.reply
  y : column 1 0 (left_of r).st.w ≡ r.result.y

pub begins-single : (c : Single) → SingleAccepted c → FloatsGiven (problem_of c) → (b : Buffers)
    → lengths_of (problem_of c) b ≡ sizes → Begins (problem_of c) b
unfolding start_of start_at accepted_start_of
begins-single c accepted floats b lengths =
    let e = eq-eqb _ 0 accepted in
    record { formed = (well-formed (problem_of c) b).1 (rw (lengths, e)); floats = floats }

module _ (r : SumRow) (accepted : SingleAccepted r.problem) (floats : FloatsGiven (problem_of r.problem))
    (x : Ends r) (b : Buffers) (q : ℕ → List Float) (l : LentOne b q) where
  abbrev p : Problem
  p = problem_of r.problem

  lengths : lengths_of p b ≡ sizes
  lengths = rw (l.work, l.pivots, l.session, l.question)

  begins : Begins p b
  begins = begins-single r.problem accepted floats b lengths

  same-given : given_of p b ≡ set_of r
  same-given = rw lengths

  -- ---- the run

  abbrev g : Given
  g = given_of p b

  abbrev a : Start
  a = from_of p

  abbrev run : Runs g a
  run = begun-run p b begins

  one : g.s.n ≡ 1
  unfolding accepted_settings
  one = refl

  begun : Host g a run one (started_at g a) (start_of p b)
  begun = record {
    node = tree_of p b;
    at = begun-at p b begins;
    question = b.question;
    said = begun-says p b begins;
    answer = ap (λ (y : Called). y.reply) (begun-is p b begins.formed);
    agrees = refl;
  }

  asked_is : allowed g (started_at g a) r.acts ≡ true
  asked_is = rw same-given x.asked

  abbrev finally : Called
  finally = hosted_by (start_of p b) 0 q r.acts

  last : Host g a run one (hosted g (started_at g a) r.acts) finally
  last = hosts g a run one q l.replies r.acts 0 (started_at g a) (start_of p b) begun asked_is

  same_left : hosted g (started_at g a) r.acts ≡ left_of r
  same_left = rw same-given

  shown-is : shown_by g.s.n (hosted g (started_at g a) r.acts) ≡ shown_by 1 (left_of r)
  shown-is = ap (λ (n : ℕ). shown_by n (hosted g (started_at g a) r.acts)) one ∙ ap (shown_by 1) same_left

  -- the last call says how the machine ended
  said-last : finally.reply ≡ r.result.reply
  said-last =
      let order = (state_at last.node).c.nq in
      ap (λ (z : Said). z.reply)
      (said-shown g a run one (hosted g (started_at g a) r.acts) finally last
      ∙ ap (λ (v : Shown). said_of g.s.n order v last.question) shown-is)
      ∙ ended-said g.s.n order last.question (shown_by 1 (left_of r)) x.over ∙ x.reply

  state-is : column 1 0 finally.lent.work ≡ r.result.y
  state-is = ap (column 1 0) last.at.work ∙ ap (λ (m : RunState). column 1 0 m.st.w) same_left ∙ x.y

  result-is : result_of b q r ≡ r.result
  unfolding result_of
  result-is = rw (said-last, state-is)

-- ---- the rows

abbrev floats_of : Single → Type 0
floats_of c = Fit c.xend × Fit c.hmin × Fit c.first × Fit c.rtol × Fit c.atol

pub given-floats : (c : Single) → floats_of c → FloatsGiven (problem_of c)
given-floats c f = record {
  x0 = fits-is-f64 _ (literal 0);
  xend = fits-is-f64 _ f.0;
  smallest = fits-is-f64 _ f.1;
  first = fits-is-f64 _ f.2;
  rtol = λ i h. fits-is-f64 _ (one-fits c.rtol f.3 i h);
  atol = λ i h. fits-is-f64 _ (one-fits c.atol f.4 i h);
}

pub floats-8 : FloatsGiven (problem_of problem8)
floats-8 = given-floats problem8 (literal _, literal _, literal _, literal _, literal _)

pub floats-10 : FloatsGiven (problem_of problem10)
floats-10 = given-floats problem10 (literal _, literal _, literal _, literal _, literal _)

floats-11 : FloatsGiven (problem_of problem11)
floats-11 = given-floats problem11 (literal _, literal _, literal _, literal _, literal _)

floats-12 : FloatsGiven (problem_of problem12)
floats-12 = given-floats problem12 (literal _, literal _, literal _, literal _, literal _)

pub accepted : SingleAccepted problem8 × SingleAccepted problem10 × SingleAccepted problem11 × SingleAccepted problem12
unfolding start_refusal_of or_else also_of in_order Refusals.size_refusal Refusals.length_refusal Refusals.large_refusal
    Refusals.limit_refusal
    Refusals.tolerance_refusal Refusals.step_refusal times refused signum_of negative sub lt eq ne of_bits
accepted = (refl, refl, refl, refl)

computed : Ends row8 × Ends row9 × Ends row10 × Ends row11 × Ends row12
unfolding allowed hosted shown_as accepted_settings given_step_of Refusals.smallest_of Refusals.largest_of
    Refusals.inverse_of
    Refusals.inverse_largest_of beginning resume_at resume_of asked_in_step_of finished_of
    Begin.setup_of Begin.prepared_at Begin.prepared_of Begin.predicted_at Begin.first_prediction_of Turns.open_pass_of
    Turns.began_of Turns.go_on_at Turns.go_on_of Pass.attempted_at Pass.reported_of Pass.closed_at Pass.end_step_of
    Pass.accepted_at
    Pass.accepted_of Pass.error_test_at Pass.error_test_of Pass.pass_failed_of Pass.concluded_at Pass.iterate_of
    Pass.iterations_of Pass.opened_reply_at Pass.opened_reply_of Pass.further_reply_of Initial.initial_of
    Start.first_size_of
    Reports.sized_at Reports.sized_of Reports.weighted_at Reports.first_derivative_of Reports.after_first_report_of
    Reports.after_report_of Attempt.retracted_of Attempt.repredict_of Attempt.error_of Attempt.shrunk_of
    Attempt.missed_at
    Attempt.missed_of Attempt.overshot_of Attempt.failed_of Attempt.unconverged_of Attempt.quartered_of
    Attempt.no_convergence_at Attempt.no_convergence_of Accept.corrected_of Accept.keep_family_of Accept.test_family_of
    Accept.accept_of Accept.closed_of judge_of rated_of dcon_of estimated_of judged_converged give_up_of judged_further
    judged_tested open_of adams_residual_of adams_update_of adams_of correct_of limited_of adjust_of stale_of
    predicted_of
    predict_columns_of retract_columns_of rescale_columns_of add_scaled_of correct_columns_of copy_of slope_of fill_of
    scale_part_of first_call_init_of reset_of ewset_of invert_of tolerance_of vmnorm_of elco_of tesco_of sm1_of
    cfode_of root_of abs_of
    negative signum_of refused max_of min_of times add sub mul div neg lt eq le ne of_int of_bits
computed = (
  record { asked = refl; over = refl; reply = refl; y = refl },
  record { asked = refl; over = refl; reply = refl; y = refl },
  record { asked = refl; over = refl; reply = refl; y = refl },
  record { asked = refl; over = refl; reply = refl; y = refl },
  record { asked = refl; over = refl; reply = refl; y = refl },
)

-- ---- the table

pub sums : Sums
sums = record {
  one = sum-1;
  two = sum-2;
  three = sum-3;
  four = (sum-4-factored, sum-4-solved);
  five = (sum-5-zero, sum-5-nan);
  six = (root-3-of-8, root-13-of-1);
  seven = sum-7;
  eight = result-is row8 accepted.0 floats-8 computed.0;
  nine = result-is row9 accepted.0 floats-8 computed.1;
  ten = result-is row10 accepted.1 floats-10 computed.2;
  eleven = result-is row11 accepted.2 floats-11 computed.3;
  twelve = result-is row12 accepted.3 floats-12 computed.4;
}
