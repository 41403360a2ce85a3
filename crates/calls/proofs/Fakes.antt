-- Demand 2 rules out the six fake solvers: five by runs of the tree that are computed (sum (8), sum (10), a run of two
-- steps), the sixth by the caps.
--     ours-meets                our calls meet demand 2
--     fakes-fail                a solver that meets demand 2 is none of the six
-- Assumes nothing.
use mathlib.Core.Bool.{true, false, true≢false}
use mathlib.Core.List.{List, [], ◌∷◌, map}
use mathlib.Core.Logic.{◌⊎◌, inl, inr}
use mathlib.Core.Path.{◌≡◌, refl, sym, ap, ◌∙◌}
use Prim.Native.Nat.{ℕ}
use native.Mathlib.Omega.{arith}
use lib.Dec.{lit≤}
use lib.ListN.{length, replicate}
use lib.Ieee as Ieee
use lib.Ieee.{Float, add, sub, mul, div, neg, lt, eq, le, ne, of_int, of_bits}
use Rattle.loops.specs.For.{times}
use Rattle.numbers.specs.Float.{lit, zero_f, one_f, d0_5, d2}
use Rattle.numbers.specs.Order.{max_of, min_of}
use Rattle.numbers.specs.Sign.{abs_of, negative, signum_of, refused}
use Rattle.root.specs.Root.{root_of}
use Rattle.coefficients.specs.Cfode.{cfode_of}
use Rattle.coefficients.specs.Table.{elco_of, tesco_of, sm1_of}
use Rattle.vectors.specs.Norm.{vmnorm_of}
use Rattle.vectors.specs.Tolerance.{tolerance_of}
use Rattle.vectors.specs.Weights.{ewset_of, invert_of}
use Rattle.common.specs.Initial as Initial
use Rattle.common.specs.SessionWords.{session_length}
use Rattle.common.specs.Rules.{first_call_init_of, reset_of}
use Rattle.history.specs.Columns.{predict_columns_of, retract_columns_of, rescale_columns_of, add_scaled_of}
use Rattle.history.specs.Columns.{correct_columns_of}
use Rattle.history.specs.Columns.{copy_of, slope_of, fill_of, scale_part_of}
use Rattle.history.specs.Steps.{limited_of, adjust_of, stale_of, predicted_of}
use Rattle.corrector.specs.Verdict.{judge_of, rated_of, dcon_of, estimated_of, judged_converged, give_up_of}
use Rattle.corrector.specs.Verdict.{judged_further}
use Rattle.corrector.specs.Verdict.{judged_tested}
use Rattle.corrector.specs.Iterate.{open_of, adams_residual_of, adams_update_of, adams_of, correct_of}
use Rattle.attempt.specs.Attempt as Attempt
use Rattle.acceptance.specs.Size.{size_of}
use Rattle.acceptance.specs.Order as Order
use Rattle.acceptance.specs.Accept as Accept
use Rattle.questions.specs.declared.Phase.{Phase}
use Rattle.between_steps.specs.Begin as Begin
use Rattle.between_steps.specs.Start as Start
use Rattle.refusals.specs.Refusal.{also_of, in_order, or_else}
use Rattle.refusals.specs.Start as Refusals
use Rattle.refusals.specs.Start.{start_refusal_of, accepted_settings, given_step_of}
use Rattle.session.specs.Session.{decode_of}
use Rattle.rules.specs.Play.{Play}
use Rattle.rules.specs.Steps.{Step}
use Rattle.rules.specs.Pass.{iterated, turns, iterations, pass_at, pass}
use Rattle.rules.specs.Rules as Rules
use Rattle.refinement.specs.Shown.{tree_next}
use Rattle.invariants.specs.Host.{IsF64}
use Rattle.invariants.proofs.Floats.{literal}
use Rattle.invariants.proofs.Host.{fits-is-f64}
use Rattle.answers.specs.declared.Reply.{Reply}
use Rattle.answers.specs.Called.{Buffers, Called}
use Rattle.replies.specs.Replies.{kind_of}
use Rattle.raimsklo.specs.Calls.{Problem, start_of}
use Rattle.calls.specs.Run.{Begins, ReplyCall, TimesF64, Solver, answered_by, calls_by, last_by, ours}
use Rattle.calls.specs.Follow.{Said, said_by, said_at, fed_as, told_by, stands_at, tree_of, TakesDerivative, PhaseAt}
use Rattle.calls.specs.Follow.{Demand2}
use Rattle.calls.specs.Demands.{marks, counted_by, steps_by, steps_seen, steps_in}
use Rattle.calls.specs.Sums.{Single, problem_of, problem8, problem10}
use Rattle.calls.specs.Fakes.{Meets, last_after, InventsCount, NoFake}
use Rattle.calls.proofs.Follow.{calls-follow}
use Rattle.calls.proofs.Capped.{calls-capped}
use Rattle.calls.proofs.Sums.{SingleAccepted, begins-single, given-floats, floats-8, floats-10, accepted}

pub ours-meets : Meets ours
ours-meets p b begins = (calls-follow p b begins).demand

-- ---- the last answer of a run

-- the last of a list, d where it is empty
abbrev last_in : List Said → Said → Said
last_in [] d = d
last_in (s ∷ l) d = last_in l s

last-said : (f : Solver) (rs : List ReplyCall) (x : Called)
    → said_by (last_by f x rs) ≡ last_in (map said_by (calls_by f x rs)) (said_by x)
unfolding calls_by last_by
last-said f [] x = refl
last-said f (r ∷ rs) x = last-said f rs (answered_by f x r)

-- what the tree says last
abbrev said_after : Problem → Buffers → List ReplyCall → Said
said_after p b rs =
    last_in (told_by (length p.y0) (tree_of p b) rs) (said_at (length p.y0) (tree_of p b) b.question)

says_last : (f : Solver) (p : Problem) (b : Buffers) → Demand2 f p b → (rs : List ReplyCall) → TimesF64 rs
    → said_by (last_after f p b rs) ≡ said_after p b rs
says_last f p b d rs t = last-said f rs (f.start p b) ∙ rw (d.answers rs t, d.first)

-- ---- the runs, on slices of zeros

abbrev slices : Buffers
slices = record {
  work = replicate 20 zero_f;
  pivots = replicate 1 0;
  session = replicate session_length 0;
  question = replicate 20 zero_f;
}

-- (8) with end 2
abbrev two_steps : Single
two_steps = record {
  y0 = d2;
  rtol = d0_5;
  atol = zero_f;
  xend = d2;
  first = one_f;
  smallest = 0;
  hmin = zero_f;
  maxsteps = 100000;
  maxcor = 3;
  mxncf = 10;
}

accepted-two : SingleAccepted two_steps
unfolding start_refusal_of or_else also_of in_order Refusals.size_refusal Refusals.length_refusal Refusals.large_refusal
    Refusals.limit_refusal
    Refusals.tolerance_refusal Refusals.step_refusal times refused signum_of negative sub lt eq ne of_bits
accepted-two = refl

begins-8 : Begins (problem_of problem8) slices
begins-8 = begins-single problem8 accepted.0 floats-8 slices refl

begins-10 : Begins (problem_of problem10) slices
begins-10 = begins-single problem10 accepted.1 floats-10 slices refl

begins-two : Begins (problem_of two_steps) slices
begins-two =
    begins-single two_steps accepted-two
    (given-floats two_steps (literal _, literal _, literal _, literal _, literal _))
    slices refl

abbrev gives : ReplyCall
gives = record { kind = 1; numbers = zero_f ∷ []; time = zero_f; question = replicate 20 zero_f }

abbrev continues : Float → ReplyCall
continues t = record { kind = 3; numbers = d2 ∷ []; time = t; question = replicate 20 zero_f }

abbrev to_report : List ReplyCall
to_report = gives ∷ continues zero_f ∷ gives ∷ []

abbrev more : List ReplyCall
more = continues one_f ∷ gives ∷ []

abbrev one_step : List ReplyCall
one_step = gives ∷ continues zero_f ∷ gives ∷ continues one_f ∷ []

abbrev another_step : List ReplyCall
another_step = gives ∷ continues zero_f ∷ gives ∷ continues one_f ∷ gives ∷ []

is-f64 : (b : ℕ) → IsF64 (lit b)
is-f64 b = fits-is-f64 (lit b) (literal b)

times-fit : TimesF64 another_step × TimesF64 one_step × TimesF64 to_report × TimesF64 (gives ∷ continues zero_f ∷ [])
times-fit = (
  (is-f64 _, (is-f64 _, (is-f64 _, (is-f64 _, (is-f64 _, tt))))),
  (is-f64 _, (is-f64 _, (is-f64 _, (is-f64 _, tt)))),
  (is-f64 _, (is-f64 _, (is-f64 _, tt))),
  (is-f64 _, (is-f64 _, tt)),
)

abbrev told : Single → List ReplyCall → Reply
told c rs = (said_after (problem_of c) slices rs).reply

abbrev node : List ReplyCall → Play
node rs = stands_at 1 (tree_of (problem_of problem8) slices) rs

record Computed : Type 0 where
  starts : (told problem8 []).number ≡ 100
  first : (told problem8 (gives ∷ [])).number ≡ 102
  opens : (told problem8 (gives ∷ continues zero_f ∷ [])).number ≡ 100
  succeeds : (told problem8 one_step).number ≡ 110
  needs : (told problem10 one_step).number ≡ 112
  early : (told two_steps to_report).number ≡ 103
  late : (told two_steps another_step).number ≡ 103
  early-time : Ieee.lt one_f (told two_steps to_report).time ≡ false
  late-time : Ieee.lt one_f (told two_steps another_step).time ≡ true
  waits : (phase : Phase) → PhaseAt 1 (node []) phase → TakesDerivative phase
  reports : (phase : Phase) → PhaseAt 1 (node (gives ∷ [])) phase → phase ≡ Phase.FirstReport

computed : Computed
unfolding told_by stands_at kind_of accepted_settings given_step_of Refusals.smallest_of Refusals.largest_of
    Refusals.inverse_of
    Refusals.inverse_largest_of
    Rules.start Rules.beginning Rules.started Rules.weighted Rules.sized Rules.first_answered Rules.solve_at Rules.step
    Rules.attempts Rules.decide Rules.tested Rules.stepped Rules.after_acceptance Rules.closed Rules.after_report
    Rules.follow
    Rules.attempted iterated turns iterations pass_at pass
    Begin.setup_of Begin.prepared_at Begin.prepared_of Begin.predicted_at Initial.initial_of Start.first_size_of
    Attempt.retracted_of Attempt.repredict_of Attempt.error_of Attempt.shrunk_of Attempt.missed_at
    Attempt.missed_of Attempt.overshot_of Attempt.failed_of Attempt.unconverged_of Attempt.quartered_of
    Attempt.no_convergence_at Attempt.no_convergence_of Accept.corrected_of Accept.keep_family_of Accept.test_family_of
    Accept.accept_of Accept.closed_of judge_of rated_of dcon_of estimated_of judged_converged give_up_of judged_further
    judged_tested open_of adams_residual_of adams_update_of adams_of correct_of limited_of adjust_of stale_of
    predicted_of
    predict_columns_of retract_columns_of rescale_columns_of add_scaled_of correct_columns_of copy_of slope_of fill_of
    scale_part_of first_call_init_of reset_of ewset_of invert_of tolerance_of vmnorm_of elco_of tesco_of sm1_of
    cfode_of root_of abs_of
    negative signum_of refused max_of min_of times add sub mul div neg lt eq le ne of_int of_bits
    Order.raised_work_of Order.raised_left_of Order.raised_size_of Order.lowered_size_of Order.limited_factors_of
    Order.settle_of
    Order.raise_column_of Order.raise_of Order.lower_of Order.choose_of Order.choose_order_of size_of
computed =
    record {
      starts = refl;
      first = refl;
      opens = refl;
      succeeds = refl;
      needs = refl;
      early = refl;
      late = refl;
      early-time = refl;
      late-time = refl;
      waits = λ phase h. h.0;
      reports = λ phase h. h;
    }

-- ---- the requests that a host sees

abbrev head_in : List Said → Said → Said
head_in [] d = d
head_in (s ∷ l) d = s

abbrev tail_in : List Said → List Said
tail_in [] = []
tail_in (s ∷ l) = l

-- solvers that say the same make the same steps
steps-same : (f : Solver) (rs : List ReplyCall) (t : Play) (xs : List Step) (x y : Called)
    → map said_by (calls_by f x rs) ≡ map said_by (calls_by ours y rs) → steps_by f t xs x rs ≡ steps_by ours t xs y rs
unfolding calls_by steps_by
steps-same f [] t xs x y e = refl
steps-same f (r ∷ rs) t xs x y e =
    let u = answered_by f x r in
    let v = answered_by ours y r in
    let same : u.reply ≡ v.reply = ap (λ (l : List Said). (head_in l (said_by x)).reply) e in
    let rest : map said_by (calls_by f u rs) ≡ map said_by (calls_by ours v rs) = ap tail_in e in
    let on = tree_next t (fed_as r) in
    rw (
      same,
      steps-same f rs t xs u v rest,
      steps-same f rs on (counted_by v.reply (marks on xs)) u v rest,
    )

module _ (f : Solver) (meets : Meets f) where
  says : {c : Single} → Begins (problem_of c) slices → (rs : List ReplyCall) → TimesF64 rs
      → (last_after f (problem_of c) slices rs).reply ≡ told c rs
  says begins rs t =
      ap (λ (s : Said). s.reply) (says_last f _ slices (meets _ slices begins) rs t)

  number : {c : Single} {k : ℕ} → Begins (problem_of c) slices → (rs : List ReplyCall) → TimesF64 rs
      → (told c rs).number ≡ k → (last_after f (problem_of c) slices rs).reply.number ≡ k
  number begins rs t e = ap (λ (a : Reply). a.number) (says begins rs t) ∙ e

  poor : ((last_after f (problem_of problem8) slices []).reply.number ≡ 114)
      ⊎ (((last_after f (problem_of problem8) slices (gives ∷ [])).reply.number ≡ 114)
      ⊎ ((last_after f (problem_of problem8) slices (gives ∷ continues zero_f ∷ [])).reply.number ≡ 114)) → ⊥
  poor (inl e) = let z = number begins-8 [] tt computed.starts in omega (arith, z, e)
  poor (inr (inl e)) =
      let z = number begins-8 (gives ∷ []) (is-f64 _, tt) computed.first in omega (arith, z, e)
  poor (inr (inr e)) =
      let z = number begins-8 (gives ∷ continues zero_f ∷ []) times-fit.3 computed.opens in omega (arith, z, e)

  -- the first derivative is taken, and the session then awaits the answer to a report
  touched : (x : Called) → x.lent.session ≡ (f.start (problem_of problem8) slices).lent.session
      → PhaseAt 1 (node (gives ∷ [])) (decode_of x.lent.session).phase → ⊥
  unfolding last_by
  touched x e h =
      let d = meets _ slices begins-8 in
      let was = computed.waits _ (d.session [] tt).phase in
      let now = computed.reports _ (rw e at h) in
      true≢false (sym (rw now at (was 0 0)))

  counts : InventsCount f → ⊥
  counts h =
      let p = h.p in
      let b = h.b in
      let d = meets p b h.begins in
      let own = ours-meets p b h.begins in
      let same : (last_after f p b h.rs).reply ≡ (last_after ours p b h.rs).reply =
      ap (λ (s : Said). s.reply)
      (says_last f p b d h.rs h.times ∙ sym (says_last ours p b own h.rs h.times)) in
      let begun : (f.start p b).reply ≡ (start_of p b).reply =
      ap (λ (s : Said). s.reply) (d.first ∙ sym own.first) in
      let steps : steps_seen f p b h.rs ≡ steps_in p b h.rs =
      ap (λ (a : Reply). steps_by f (tree_of p b) (counted_by a (marks (tree_of p b) [])) (f.start p b) h.rs) begun
      ∙ steps-same f h.rs (tree_of p b) (counted_by (start_of p b).reply (marks (tree_of p b) [])) (f.start p b)
      (start_of p b) (d.answers h.rs h.times ∙ sym (own.answers h.rs h.times)) in
      h.differs
      (rw (steps, same) ((calls-capped p b h.begins h.rs h.times).count (rw same at h.reported)))

  pub fakes-fail : NoFake f
  unfolding last_by kind_of
  fakes-fail =
      record {
        poor = λ h. poor
            (h _ slices begins-8 gives (continues zero_f) times-fit.3 refl refl refl refl refl);
        refusing = λ h. h _ slices begins-8 (number begins-8 [] tt computed.starts);
        status = λ h.
            let e = number begins-8 one_step times-fit.1 computed.succeeds in
            let u = number begins-10 one_step times-fit.1 computed.needs in
            let i = h.1 _ slices begins-8 one_step times-fit.1 (rw e (lit≤ tt)) in
            let j = h.1 _ slices begins-10 one_step times-fit.1 (rw u (lit≤ tt)) in
            let z : ◌≡◌ {A = ℕ} 110 112 = sym e ∙ i ∙ sym j ∙ u in
            omega arith;
        untouched = λ h.
            let e = number begins-8 (gives ∷ []) (is-f64 _, tt) computed.first in
            let d = meets _ slices begins-8 in
            touched (last_after f (problem_of problem8) slices (gives ∷ []))
            (h _ slices begins-8 [] gives tt (is-f64 _) (rw e refl))
            (d.session (gives ∷ []) (is-f64 _, tt)).phase;
        repeating = λ h.
            let e = says begins-two to_report times-fit.2 in
            let u = says begins-two another_step times-fit.0 in
            let same = h _ slices begins-two to_report more times-fit.0
            (number begins-two to_report times-fit.2 computed.early)
            (number begins-two another_step times-fit.0 computed.late) in
            true≢false
            (sym computed.late-time ∙ ap (λ (a : Reply). Ieee.lt one_f a.time) (sym u ∙ same ∙ e)
            ∙ computed.early-time);
        inventing = counts;
      }
