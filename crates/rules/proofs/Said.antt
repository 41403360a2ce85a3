-- What the scope says of a step in words holds of the definitions that the rules use (`step-said`).
-- Assumes nothing.
use mathlib.Core.Bool.{Bool, true, false, cond, not, ◌&&◌, ◌||◌}
use mathlib.Core.List.{List}
use mathlib.Core.Logic.{◌⊎◌, ◌↔◌, inl, inr, ⊎_elim}
use mathlib.Core.Path.{◌≡◌, refl, sym, ap, ◌∙◌}
use Prim.Native.Nat.{ℕ, zero, suc, ◌+◌, ◌-◌, ◌≤◌, ◌<◌}
use native.Mathlib.Omega.{arith}
use borrow.Author.Tests.{ltb-true, ltb-false, eqb-true, eqb-false, le-leb, lt-leb}
use lib.Dec.{eqb, leb, ltb}
use lib.Ieee as Ieee
use lib.Ieee.{Float}
use Rattle.loops.proofs.Test.{chosen, differs}
use Rattle.numbers.specs.Float.{◌⊕◌, ◌⊗◌, one_f, uround, d0_25, d1_1, d2, d100}
use Rattle.numbers.specs.Order.{max_of}
use Rattle.common.specs.declared.MethodFamily.{MethodFamily}
use Rattle.common.specs.declared.MethodFamily.TheVariants.{Adams, Bdf}
use Rattle.common.specs.declared.Settings.{Settings}
use Rattle.common.specs.declared.Common.{Common}
use Rattle.common.specs.Record.{is_bdf, with_rmax}
use Rattle.common.specs.Limits.{mxncf_of}
use Rattle.common.specs.Rules.{first_call_init_of, reset_of, tiny_of}
use Rattle.common.specs.State.{Given, State}
use Rattle.history.specs.Columns.{retract_columns_of}
use Rattle.history.specs.Steps.{limited_of, adjust_of, predicted_of}
use Rattle.corrector.specs.declared.Pass.TheVariants as Pass
use Rattle.corrector.specs.declared.Verdict.{Verdict}
use Rattle.corrector.specs.Iterate.{Correction}
use Rattle.corrector.specs.Verdict.{rated_of, dcon_of, estimated_of, judged_converged, old_jacobian, give_up_of, strays}
use Rattle.corrector.specs.Verdict.{judged_further, judged_tested, rated_verdict, judge_of}
use Rattle.corrector.proofs.Judged.{Ways, converges, retries, fails, goes_on, judge-ways}
use Rattle.attempt.specs.declared.Next.TheVariants.{Pass, TooSmall, Poor}
use Rattle.attempt.specs.Attempt.{Attempt, retracted_of, retracted_work, repredict_of, unconverged_of, quartered_of}
use Rattle.attempt.specs.Attempt.{no_convergence_at, no_convergence_of, tenth_of, missed_at, missed_of, overshot_of}
use Rattle.attempt.specs.Attempt.{failed_of}
use Rattle.attempt.specs.Attempt.{lowered_of, restep_of}
use Rattle.attempt.proofs.Laws.{unconverged, restepped}
use Rattle.acceptance.specs.declared.family.Change.TheVariants.{Gap}
use Rattle.acceptance.specs.Family.{move_if, to_bdf_of, to_adams_at, to_adams_of, adams_proposal_of, change_in}
use Rattle.acceptance.specs.Family.{change_of}
use Rattle.acceptance.specs.declared.family.Proposal.{Proposal}
use Rattle.acceptance.specs.declared.Branch.{Branch}
use Rattle.acceptance.specs.declared.Branch.TheVariants.{CoefficientGap, Lowered, Kept, Raised}
use Rattle.acceptance.specs.declared.order.Factors.{Factors}
use Rattle.acceptance.specs.Order.{Settled, held_of, settle_of, raise_of, lower_of, same_largest, choose_of}
use Rattle.acceptance.specs.Order.{choose_order_of}
use Rattle.acceptance.specs.Accept.{corrected_of, keep_family_of, tested_of as tested_family, test_family_of, accept_of}
use Rattle.acceptance.proofs.Laws.{accept-keeps}
use Rattle.between_steps.specs.declared.Status.TheVariants as Status
use Rattle.between_steps.specs.Begin.{is_going, is_cut, cut_of, setup_of, prepared_at, prepared_of, predicted_at}
use Rattle.rules.specs.Play.{finished, ret}
use Rattle.rules.specs.Rules.{step, solve_at, solve, predicted}
use Rattle.rules.specs.Said.{Tiny, floor_of, Old, NoConvergenceSaid, ErrorSaid, SingleSaid, GapSaid, BetweenSaid}
use Rattle.rules.specs.Said.{OpenedSaid, StepSaid}

never : (t : Bool) → t ≡ false → t ≡ true → ⊥
never t e f = differs (sym e ∙ f)

-- ---- retry

-- no pass is given up with an old Jacobian
abbrev Stays : Common → Verdict → Type 0
Stays c v = v.pass ≡ Pass.NoConvergence → Old c → ⊥

old-is : (m : MethodFamily) (current : Bool) → m ≡ Bdf → current ≡ false → (is_bdf m && not current) ≡ true
old-is m current e f = cc

give-up-stays : (c : Common) → Stays c (give_up_of c)
unfolding give_up_of
give-up-stays c = go (old_jacobian c) refl
  where
    go : (t : Bool) → old_jacobian c ≡ t → cond t Pass.Retry Pass.NoConvergence ≡ Pass.NoConvergence → Old c → ⊥
    go true e p q = differs (cc)
    go false e p q = never (old_jacobian c) e (old-is c.meth c.jcur q.0 q.1)

further-stays : (s : Settings) (c : Common) (del : Float) → Stays c (judged_further s c del)
unfolding judged_further
further-stays s c del = chosen (Stays c) (strays s c del) (give-up-stays c) (λ p q. differs (cc))

converged-stays : (c d : Common) → Stays c (judged_converged d)
unfolding judged_converged
converged-stays c d p q = differs (cc)

tested_stays : (s : Settings) (c : Common) (del : Float) → Stays c (judged_tested s c del)
unfolding judged_tested
tested_stays s c del =
    chosen (Stays c) (Ieee.le (dcon_of c del) one_f) (converged-stays c (estimated_of s c)) (further-stays s c del)

far-stays : (s : Settings) (c : Common) (del : Float) (first second : Bool)
    → Stays c (rated_verdict s c del first second)
unfolding rated_of
far-stays s c del true true = tested_stays s c del
far-stays s c del true false = further-stays s c del
far-stays s c del false second = tested_stays s (rated_of c del) del

judge-stays : (s : Settings) (c : Common) (x : Correction) (pnorm : Float) → Stays c (judge_of s c x pnorm)
unfolding judge_of
judge-stays s c x pnorm =
    let far = far-stays s c x.del (eqb c.m 0) (is_bdf c.meth) in
    let solved = chosen (Stays c) (Ieee.le x.del (d100 ⊗ pnorm ⊗ uround)) (converged-stays c c) far in
    chosen (Stays c) x.solved solved (give-up-stays c)

retried : {s : Settings} {c : Common} {v : Verdict} → Ways s c v → v.pass ≡ Pass.Retry
    → Old c × (v.common.due ≡ true)
retried (converges d m u) p = differs (cc)
retried (retries d m j b o u) p = ((b, o), u)
retried (fails d m j u) p = differs (cc)
retried (goes_on d m l j u) p = differs (cc)

-- ---- no convergence

-- what is said beside the fields of `Unconverged`
pub record Ends (s : Settings) (c : Common) (work : List Float) (a : Attempt) : Type 0 where
  pub poor : (a.next ≡ Poor) ↔ (Tiny c ⊎ (c.ncf + 1 ≡ mxncf_of s))
  pub again : (a.next ≡ Pass) ↔ ((Tiny c → ⊥) × (c.ncf + 1 ≡ mxncf_of s → ⊥))
  pub time : a.next ≡ Poor → a.common.tn ≡ c.told
  pub retracted : a.next ≡ Poor → a.work ≡ retract_columns_of s.n c.nq c.nqnyh work
  pub quarter : a.next ≡ Pass → a.common.h ≡ c.h ⊗ limited_of (with_rmax d2 c) (max_of d0_25 (floor_of c))
  pub predicted : a.next ≡ Pass → a.common.tn ≡ c.told ⊕ a.common.h

module _ (s : Settings) (c : Common) (work : List Float) where
  ends_at : (tiny last : Bool) → tiny_of c ≡ tiny → eqb (c.ncf + 1) (mxncf_of s) ≡ last
      → Ends s c work (no_convergence_at s (tiny || last) (unconverged_of c) (retracted_work s c work))
  unfolding no_convergence_at unconverged_of retracted_of quartered_of repredict_of adjust_of predicted_of limited_of
  ends_at true last e l =
      record {
        poor = ((λ p. inl e), (λ p. refl));
        again = ((λ p. differs (cc)), (λ p. absurd (p.0 e)));
        time = λ p. refl;
        retracted = λ p. refl;
        quarter = λ p. differs (cc);
        predicted = λ p. differs (cc);
      }
  ends_at false true e l =
      record {
        poor = ((λ p. inr (eqb-true (c.ncf + 1) (mxncf_of s) l)), (λ p. refl));
        again = ((λ p. differs (cc)), (λ p. absurd (p.1 (eqb-true (c.ncf + 1) (mxncf_of s) l))));
        time = λ p. refl;
        retracted = λ p. refl;
        quarter = λ p. differs (cc);
        predicted = λ p. differs (cc);
      }
  ends_at false false e l =
      let large : Tiny c → ⊥ = never (tiny_of c) e in
      let fewer : c.ncf + 1 ≡ mxncf_of s → ⊥ = eqb-false (c.ncf + 1) (mxncf_of s) l in
      record {
        poor = ((λ p. differs (cc)), (λ p. absurd (⊎_elim large fewer p)));
        again = ((λ p. (large, fewer)), (λ p. refl));
        time = λ p. differs (cc);
        retracted = λ p. differs (cc);
        quarter = λ p. refl;
        predicted = λ p. refl;
      }

  ends : Ends s c work (no_convergence_of s c work)
  unfolding no_convergence_of unconverged_of retracted_of
  ends = ends_at (tiny_of c) (eqb (c.ncf + 1) (mxncf_of s)) refl refl

  no_convergence : NoConvergenceSaid s c work (no_convergence_of s c work)
  no_convergence =
      let u = unconverged s c work in
      record {
        poor = ends.poor;
        again = ends.again;
        count = u.ncf;
        time = ends.time;
        retracted = ends.retracted;
        quarter = ends.quarter;
        predicted = ends.predicted;
        due = u.due;
        rejected = u.rejected-pass;
        last = u.rejected-poor;
      }

-- ---- the error is above 1

module _ (s : Settings) (c : Common) (dsm : Float) (work : List Float) (few : c.kflag ≤ 9) where
  stopped : Tiny c ⊎ (c.kflag + 1 ≡ 10)
      → ErrorSaid s c work (record { next = TooSmall; common = overshot_of c; work = retracted_work s c work })
  unfolding overshot_of retracted_of
  stopped why =
      record {
        small = ((λ p. why), (λ p. refl));
        single = ((λ p. differs (cc)), (λ p. absurd (⊎_elim p.0 (λ t. omega (arith, p.2)) why)));
        again = ((λ p. differs (cc)), (λ p. absurd (⊎_elim p.0 (λ t. omega (arith, p.1)) why)));
        count = refl;
        rejected = refl;
        order = refl;
        time = λ p. refl;
        retracted = λ p. refl;
        tenth = λ p. differs (cc);
        predicted = λ p. differs (cc);
      }

  error-at : (tiny early last : Bool) → tiny_of c ≡ tiny → ltb (c.kflag + 1) 3 ≡ early → eqb (c.kflag + 1) 10 ≡ last
      → ErrorSaid s c work (missed_at s dsm tiny early last (overshot_of c) (retracted_work s c work))
  unfolding missed_at overshot_of retracted_of repredict_of adjust_of predicted_of tenth_of
  error-at true early last e b l = stopped (inl e)
  error-at false true last e b l =
      let large : Tiny c → ⊥ = never (tiny_of c) e in
      let early = ltb-true (c.kflag + 1) 3 b in
      record {
        small = ((λ p. differs (cc)), (λ p. absurd (⊎_elim large (λ t. omega arith) p)));
        single = ((λ p. differs (cc)), (λ p. absurd (omega (arith, p.1))));
        again = ((λ p. (large, early)), (λ p. refl));
        count = refl;
        rejected = refl;
        order = refl;
        time = λ p. absurd (p refl);
        retracted = λ p. differs (cc);
        tenth = λ p. differs (cc);
        predicted = λ p. refl;
      }
  error-at false false true e b l = stopped (inr (eqb-true (c.kflag + 1) 10 l))
  error-at false false false e b l =
      let large : Tiny c → ⊥ = never (tiny_of c) e in
      let third = ltb-false (c.kflag + 1) 3 b in
      let other = eqb-false (c.kflag + 1) 10 l in
      record {
        small = ((λ p. differs (cc)), (λ p. absurd (⊎_elim large other p)));
        single = ((λ p. (large, omega arith, omega (arith, other))), (λ p. refl));
        again = ((λ p. differs (cc)), (λ p. absurd (omega (arith, p.1))));
        count = refl;
        rejected = refl;
        order = refl;
        time = λ p. refl;
        retracted = λ p. differs (cc);
        tenth = λ p. refl;
        predicted = λ p. differs (cc);
      }

  error : ErrorSaid s c work (failed_of s c dsm work)
  unfolding failed_of missed_of overshot_of retracted_of
  error = error-at (tiny_of c) (ltb (c.kflag + 1) 3) (eqb (c.kflag + 1) 10) refl refl refl

-- ---- after the single derivative

lowered-same : (s : Settings) (one : Bool) (c : Common)
    → ((lowered_of s one c).h ≡ c.h) × ((lowered_of s one c).tn ≡ c.tn)
unfolding reset_of
lowered-same s true c = (refl, refl)
lowered-same s false c = (refl, refl)

single : (s : Settings) (c : Common) (work : List Float) → SingleSaid c (restep_of s c work)
unfolding restep_of predicted_of reset_of
single s c work =
    let r = restepped s c work in
    record {
      order = r.nq;
      due = r.due;
      size = (lowered-same s (eqb c.nq 1) _).0;
      time = rw ((lowered-same s (eqb c.nq 1) _).0, (lowered-same s (eqb c.nq 1) _).1);
    }

-- ---- the coefficient gap

abbrev NoGap : Settled → Type 0
NoGap r = r.branch ≡ CoefficientGap → ⊥

module _ (s : Settings) where
  settled-other : (c : Common) (p : Proposal) (branch : Branch) (work : List Float) → (branch ≡ CoefficientGap → ⊥)
      → NoGap (settle_of s c p branch work)
  unfolding settle_of
  settled-other c p branch work other =
      chosen NoGap (held_of c p) (λ e. differs (cc)) (chosen NoGap (Ieee.lt p.rh d1_1) (λ e. differs (cc)) other)

  raise-other : (c : Common) (up : Float) (work : List Float) → NoGap (raise_of s c up work)
  unfolding raise_of
  raise-other c up work =
      chosen NoGap (eqb (c.nq + 1) c.lmax || Ieee.lt up d1_1) (λ e. differs (cc))
      (settled-other c _ Raised _ (λ e. differs (cc)))

  lower-other : (c : Common) (down : Float) (work : List Float) → NoGap (lower_of s c down work)
  unfolding lower_of
  lower-other c down work =
      chosen NoGap (eqb c.nq 1) (λ e. differs (cc)) (settled-other c _ Lowered work (λ e. differs (cc)))

  choose-other : (c : Common) (f : Factors) (work : List Float) → NoGap (choose_of s c f work)
  unfolding choose_of
  choose-other c f work =
      chosen NoGap (same_largest f) (settled-other c _ Kept work (λ e. differs (cc)))
      (chosen NoGap (Ieee.lt f.down f.up) (raise-other c f.up work) (lower-other c f.down work))

  keep-other : (c : Common) (dsm : Float) (work : List Float) → NoGap (keep_family_of s c dsm work)
  unfolding keep_family_of choose_order_of
  keep-other c dsm work =
      chosen NoGap (eqb (c.ialth - 1) 0) (choose-other _ _ _) (λ e. differs (cc))

  move-other : (c : Common) (dsm : Float) (work : List Float) (t : Bool) (d : Common) (rh : Float) (order : ℕ)
      → NoGap (tested_family s c dsm work (move_if t d rh order))
  unfolding move_if tested_family
  move-other c dsm work true d rh order e = differs (cc)
  move-other c dsm work false d rh order e = keep-other c dsm work e

  gap-many : (c : Common) (dsm : Float) (work : List Float) (many : Bool) → ltb 5 c.nq ≡ many
      → ((tested_family s c dsm work (cond many Gap (to_adams_at c dsm (adams_proposal_of s c dsm work)))).branch
      ≡ CoefficientGap) ↔ (6 ≤ c.nq)
  unfolding tested_family
  gap-many c dsm work true e = ((λ p. omega (arith, ltb-true 5 c.nq e)), (λ p. refl))
  gap-many c dsm work false e =
      ((λ p. absurd (move-other c dsm work _ _ _ _ p)), (λ p. absurd (omega (arith, ltb-false 5 c.nq e))))

  gap-in : (c : Common) (dsm : Float) (work : List Float) (m : MethodFamily)
      → ((tested_family s c dsm work (change_in m s c dsm work)).branch ≡ CoefficientGap)
      ↔ ((m ≡ Bdf) × (6 ≤ c.nq))
  unfolding to_bdf_of to_adams_of
  gap-in c dsm work Adams = ((λ p. absurd (move-other c dsm work _ _ _ _ p)), (λ p. differs (cc)))
  gap-in c dsm work Bdf =
      let g = gap-many c dsm work (ltb 5 c.nq) refl in
      ((λ p. (refl, g.0 p)), (λ p. g.1 p.1))

  gap_below : (c : Common) (dsm : Float) (work : List Float) (below : Bool) → ltb c.icount 1000000 ≡ below
      → ((cond below (tested_family s c dsm work (change_of s c dsm work)) (keep_family_of s c dsm work)).branch
      ≡ CoefficientGap) ↔ ((c.meth ≡ Bdf) × (6 ≤ c.nq) × (c.icount < 1000000))
  unfolding change_of
  gap_below c dsm work true e =
      let g = gap-in c dsm work c.meth in
      ((λ p. let q = g.0 p in (q.0, q.1, ltb-true c.icount 1000000 e)), (λ p. g.1 (p.0, p.1)))
  gap_below c dsm work false e =
      ((λ p. absurd (keep-other c dsm work p)), (λ p. absurd (omega (arith, ltb-false c.icount 1000000 e, p.2))))

  gap : (c : Common) (dsm : Float) (work : List Float) → GapSaid c (accept_of s c dsm work)
  unfolding accept_of test_family_of corrected_of
  gap c dsm work =
      let k = accept-keeps s c dsm work in
      record {
        gap = gap_below (corrected_of c) dsm _ (ltb (c.icount - 1) 1000000) refl;
        accepted = k.nst;
        total = k.total;
      }

-- ---- between steps

module _ (g : Given) (x : State) where
  done_at : (k : ℕ) (enough : Bool) → solve_at k g false enough x ≡ ret (finished Status.Success x)
  unfolding solve_at
  done_at zero enough = refl
  done_at (suc k) enough = refl

  more-at : (k : ℕ) → solve_at k g true true x ≡ ret (finished Status.NeedsMoreSteps x)
  unfolding solve_at
  more-at zero = refl
  more-at (suc k) = refl

  step-at : (k : ℕ) → solve_at (suc k) g true false x ≡ step g (solve k g) x
  unfolding solve_at
  step-at k = refl

  not_going : (t : Bool) → (t ≡ true → ⊥) → t ≡ false
  not_going true p = absurd (p refl)
  not_going false p = refl

  between : BetweenSaid g x
  between =
      let going = is_going g.s x.c in
      let enough = leb g.s.maxsteps x.c.nst in
      record {
        success = λ p k.
            ap (λ (t : Bool). solve_at k g t enough x) (not_going going p) ∙ done_at k enough;
        more = λ p h k.
            ap (λ (t : Bool). solve_at k g t enough x) p
            ∙ (ap (λ (t : Bool). solve_at k g true t x) (le-leb g.s.maxsteps x.c.nst h) ∙ more-at k);
        goes_on = λ p h k.
            ap (λ (t : Bool). solve_at (suc k) g t enough x) p
            ∙ (ap (λ (t : Bool). solve_at (suc k) g true t x) (lt-leb g.s.maxsteps x.c.nst h) ∙ step-at k);
      }

-- ---- a step opens

prepared-time : (s : Settings) (cut due : Bool) (c : Common) (work : List Float)
    → (prepared_at s cut due c work).common.tn ≡ c.tn
unfolding prepared_at cut_of setup_of adjust_of reset_of first_call_init_of
prepared-time s true due c work = refl
prepared-time s false true c work = refl
prepared-time s false false c work = refl

opened : (g : Given) (x : State) → OpenedSaid x (predicted g x)
unfolding predicted_at predicted_of prepared_of
opened g x =
    let same = prepared-time g.s (is_cut g.s x.c) x.c.setup x.c x.w in
    record {
      began = refl;
      time = ap (λ t. t ⊕ (predicted g x).c.h) same;
      none = (refl, refl, refl, refl);
    }

pub step-said : StepSaid
step-said =
    record {
      retry = λ s c x pnorm.
          record { retry = retried (judge-ways s c x pnorm); given_up = judge-stays s c x pnorm };
      no_convergence = no_convergence;
      error = error;
      single = single;
      gap = gap;
      between = between;
      opened = opened;
      report = λ g x. record { previous = refl; time = refl; count = refl; total = refl };
      modified_run = λ g y f x.
          record { time = refl; asked = refl; in_no_step = refl; restarts = (refl, refl, refl) };
    }
