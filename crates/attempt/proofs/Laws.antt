-- What callers need of `no_convergence_of`, `failed_of` and `restep_of`, whatever the floats.
--     Kept             the fields that all three leave alone
--     Unconverged      no convergence: a pass again below mxncf failures, or poor
--     Failed           an error failure: a pass again before the third, a derivative from the third to the ninth
--     Restepped        the derivative is there: order 1
-- Each says too that the work keeps its length, that orders and columns stay in range, and what a step's functions ask.
-- Assumes nothing.
use mathlib.Core.Bool.{Bool, true, false, cond}
use mathlib.Core.List.{List}
use mathlib.Core.Logic.{◌⊎◌, inl, inr}
use mathlib.Core.Path.{◌≡◌, refl, ◌∙◌}
use Prim.Native.Nat.{◌+◌, ◌≤◌, ◌<◌}
use native.Mathlib.Omega.{arith}
use borrow.Author.Tests.{ltb-true, ltb-false, eqb-true, eqb-false}
use Rattle.std.proofs.lemmas.Bool.{or_parts}
use lib.Dec.{eqb, ltb}
use lib.Ieee.{Float}
use lib.ListN.{length}
use Rattle.numbers.specs.Float.{d0_25}
use Rattle.numbers.specs.Order.{max_of}
use Rattle.common.specs.declared.Settings.{Settings}
use Rattle.common.specs.declared.Common.{Common}
use Rattle.common.specs.Record.{is_bdf, with_tn, with_h, with_rc, with_el0, with_conit, with_rmax, with_nq, with_nqnyh}
use Rattle.common.specs.Record.{with_ialth, with_rejected, with_kflag, with_ncf, with_due}
use Rattle.common.specs.Limits.{mxncf_of}
use Rattle.common.specs.Rules.{reset_of, tiny_of}
use Rattle.common.specs.State.{Moved}
use Rattle.common.specs.Ranges.{shape_of, Orders, StepInRange}
use Rattle.common.proofs.Ranges.{reset-orders}
use Rattle.history.specs.Columns.{slope_of}
use Rattle.history.specs.Steps.{adjust_of, predicted_of, stale_of, least_of}
use Rattle.history.proofs.Laws.{length-predict, length-retract, length-rescale, length-copy, length-slope}
use Rattle.history.proofs.Laws.{same-range, in-range-predicted}
use Rattle.attempt.specs.declared.Next.TheVariants.{Pass, Restep, TooSmall, Poor}
use Rattle.attempt.specs.Attempt.{Attempt, retracted_of, retracted_work, predict_of, repredict_of, unconverged_of}
use Rattle.attempt.specs.Attempt.{poor_of, quartered_of, no_convergence_at, no_convergence_of, shrunk_of, tenth_of}
use Rattle.attempt.specs.Attempt.{missed_at, missed_of, overshot_of, failed_of, lowered_of, restep_of}
use Rattle.attempt.proofs.Ranges.{in-range-lowered}

-- d has these fields of c
pub record Kept (c d : Common) : Type 0 where
  pub meth : d.meth ≡ c.meth
  pub nst : d.nst ≡ c.nst
  pub nfe : d.nfe ≡ c.nfe
  pub nje : d.nje ≡ c.nje
  pub nlu : d.nlu ≡ c.nlu
  pub total : d.total ≡ c.total
  pub count : d.count ≡ c.count
  pub column : d.column ≡ c.column
  pub lmax : d.lmax ≡ c.lmax
  pub table : d.table ≡ c.table
  pub nslp : d.nslp ≡ c.nslp
  pub icount : d.icount ≡ c.icount
  pub jcur : d.jcur ≡ c.jcur
  pub setup : d.setup ≡ c.setup
  pub told : d.told ≡ c.told
  pub m : d.m ≡ c.m

-- c, with the fields of d that a failed attempt may change
abbrev attempted : Common → Common → Common
attempted d c =
    with_tn d.tn
    (with_h d.h
    (with_rc d.rc
    (with_el0 d.el0
    (with_conit d.conit
    (with_rmax d.rmax
    (with_nq d.nq
    (with_nqnyh d.nqnyh
    (with_ialth d.ialth
    (with_rejected d.rejected
    (with_kflag d.kflag
    (with_ncf d.ncf
    (with_due d.due c))))))))))))

kept : (c d : Common) → Kept c (attempted d c)
kept c d =
    record {
      meth = refl;
      nst = refl;
      nfe = refl;
      nje = refl;
      nlu = refl;
      total = refl;
      count = refl;
      column = refl;
      lmax = refl;
      table = refl;
      nslp = refl;
      icount = refl;
      jcur = refl;
      setup = refl;
      told = refl;
      m = refl;
    }

same-choice : {A : Type 0} (t : Bool) {x y : A} → y ≡ x → cond t x y ≡ x
same-choice true e = refl
same-choice false e = e

-- a prediction leaves due what it may make due
due-predicted : (s : Settings) (c : Common) → c.due ≡ is_bdf c.meth → (predicted_of s c).due ≡ is_bdf c.meth
unfolding predicted_of
due-predicted s c e = same-choice (stale_of s c) e

length-repredict : (s : Settings) (c : Common) (rh : Float) (work : List Float)
    → length (repredict_of s c rh work).work ≡ length work
unfolding repredict_of
length-repredict s c rh work = length-predict s.n _ _ _ ∙ length-rescale s.n _ _ work

-- ---- no convergence

pub record Unconverged (s : Settings) (c : Common) (work : List Float) (a : Attempt) : Type 0 where
  pub kept : Kept c a.common
  pub nq : a.common.nq ≡ c.nq
  pub nqnyh : a.common.nqnyh ≡ c.nqnyh
  pub kflag : a.common.kflag ≡ c.kflag
  pub ncf : a.common.ncf ≡ c.ncf + 1
  pub next : (a.next ≡ Pass) ⊎ (a.next ≡ Poor)
  pub rejected-pass : a.next ≡ Pass → a.common.rejected ≡ c.rejected + 1
  pub rejected-poor : a.next ≡ Poor → a.common.rejected ≡ c.rejected
  pub due : a.next ≡ Pass → a.common.due ≡ is_bdf c.meth
  pub below : c.ncf < mxncf_of s → a.next ≡ Pass → c.ncf + 1 < mxncf_of s
  pub ialth : (a.common.ialth ≡ c.ialth) ⊎ (a.common.ialth ≡ c.nq + 1)
  pub orders : Orders s (shape_of c) → Orders s (shape_of a.common)
  pub in-range : StepInRange s c → StepInRange s a.common
  pub sized : length a.work ≡ length work

module _ (s : Settings) (c : Common) (work : List Float) where
  unconverged-at : (poor : Bool) → poor_of s (unconverged_of c) ≡ poor
      → Unconverged s c work (no_convergence_at s poor (unconverged_of c) (retracted_work s c work))
  unfolding no_convergence_at unconverged_of retracted_of quartered_of repredict_of adjust_of predicted_of
  unconverged-at true e =
      record {
        kept = kept c (unconverged_of c);
        nq = refl;
        nqnyh = refl;
        kflag = refl;
        ncf = refl;
        next = inr refl;
        rejected-pass = λ q. cc;
        rejected-poor = λ q. refl;
        due = λ q. cc;
        below = λ few q. absurd (cc);
        ialth = inl refl;
        orders = λ p. p;
        in-range = λ p. same-range _ refl refl refl refl p;
        sized = length-retract s.n _ _ work;
      }
  unconverged-at false e =
      let d = with_due (is_bdf c.meth) (with_rejected (c.rejected + 1) (unconverged_of c)) in
      record {
        kept = kept c (quartered_of s (unconverged_of c) (retracted_work s c work)).common;
        nq = refl;
        nqnyh = refl;
        kflag = refl;
        ncf = refl;
        next = inl refl;
        rejected-pass = λ q. refl;
        rejected-poor = λ q. cc;
        due = λ q. due-predicted s (adjust_of d (max_of d0_25 (least_of d))) refl;
        below = λ few q.
            let other = eqb-false (c.ncf + 1) (mxncf_of s) (or_parts (tiny_of (unconverged_of c)) _ e).1 in
            omega (arith, other);
        ialth = inr refl;
        orders = λ p. p;
        in-range = λ p. same-range _ refl refl refl refl p;
        sized = length-repredict s _ _ _ ∙ length-retract s.n _ _ work;
      }

  pub unconverged : Unconverged s c work (no_convergence_of s c work)
  unfolding no_convergence_of
  unconverged = unconverged-at (poor_of s (unconverged_of c)) refl

-- ---- the error is above 1

pub record Failed (s : Settings) (c : Common) (work : List Float) (a : Attempt) : Type 0 where
  pub kept : Kept c a.common
  pub nq : a.common.nq ≡ c.nq
  pub nqnyh : a.common.nqnyh ≡ c.nqnyh
  pub kflag : a.common.kflag ≡ c.kflag + 1
  pub ncf : a.common.ncf ≡ c.ncf
  pub rejected : a.common.rejected ≡ c.rejected + 1
  pub next : (a.next ≡ Pass) ⊎ ((a.next ≡ Restep) ⊎ (a.next ≡ TooSmall))
  pub pass : a.next ≡ Pass → c.kflag + 1 < 3
  pub restep : c.kflag ≤ 9 → a.next ≡ Restep → (3 ≤ c.kflag + 1) × (c.kflag + 1 ≤ 9)
  pub ialth : (a.common.ialth ≡ c.ialth) ⊎ (a.common.ialth ≡ c.nq + 1)
  pub orders : Orders s (shape_of c) → Orders s (shape_of a.common)
  pub in-range : StepInRange s c → StepInRange s a.common
  pub sized : length a.work ≡ length work

module _ (s : Settings) (c : Common) (dsm : Float) (work : List Float) where
  stopped-at : Failed s c work (record { next = TooSmall; common = overshot_of c; work = retracted_work s c work })
  unfolding overshot_of retracted_of
  stopped-at =
      record {
        kept = kept c (overshot_of c);
        nq = refl;
        nqnyh = refl;
        kflag = refl;
        ncf = refl;
        rejected = refl;
        next = inr (inr refl);
        pass = λ q. absurd (cc);
        restep = λ few q. absurd (cc);
        ialth = inl refl;
        orders = λ p. p;
        in-range = λ p. same-range _ refl refl refl refl p;
        sized = length-retract s.n _ _ work;
      }

  failed-at : (tiny early last : Bool) → ltb (c.kflag + 1) 3 ≡ early → eqb (c.kflag + 1) 10 ≡ last
      → Failed s c work (missed_at s dsm tiny early last (overshot_of c) (retracted_work s c work))
  unfolding missed_at overshot_of retracted_of repredict_of adjust_of predicted_of tenth_of
  failed-at true early last e l = stopped-at
  failed-at false true last e l =
      record {
        kept = kept c (repredict_of s (overshot_of c) (shrunk_of (overshot_of c) dsm) (retracted_work s c work)).common;
        nq = refl;
        nqnyh = refl;
        kflag = refl;
        ncf = refl;
        rejected = refl;
        next = inl refl;
        pass = λ q. ltb-true (c.kflag + 1) 3 e;
        restep = λ few q. absurd (cc);
        ialth = inr refl;
        orders = λ p. p;
        in-range = λ p. same-range _ refl refl refl refl p;
        sized = length-repredict s _ _ _ ∙ length-retract s.n _ _ work;
      }
  failed-at false false true e l = stopped-at
  failed-at false false false e l =
      record {
        kept = kept c (tenth_of s (overshot_of c) (retracted_work s c work)).common;
        nq = refl;
        nqnyh = refl;
        kflag = refl;
        ncf = refl;
        rejected = refl;
        next = inr (inl refl);
        pass = λ q. absurd (cc);
        restep = λ few q.
            let third = ltb-false (c.kflag + 1) 3 e in
            let other = eqb-false (c.kflag + 1) 10 l in
            omega (arith, other);
        ialth = inl refl;
        orders = λ p. p;
        in-range = λ p. same-range _ refl refl refl refl p;
        sized = length-copy s.n _ _ _ ∙ length-retract s.n _ _ work;
      }

  pub failed : Failed s c work (failed_of s c dsm work)
  unfolding failed_of missed_of overshot_of retracted_of
  failed = failed-at _ (ltb (c.kflag + 1) 3) (eqb (c.kflag + 1) 10) refl refl

-- ---- order 1

pub record Restepped (s : Settings) (c : Common) (work : List Float) (a : Moved) : Type 0 where
  pub kept : Kept c a.common
  pub kflag : a.common.kflag ≡ c.kflag
  pub ncf : a.common.ncf ≡ c.ncf
  pub rejected : a.common.rejected ≡ c.rejected
  pub nq : a.common.nq ≡ 1
  pub nqnyh : ((c.nq ≡ 1) × (a.common.nqnyh ≡ c.nqnyh)) ⊎ ((c.nq ≡ 1 → ⊥) × (a.common.nqnyh ≡ s.n))
  pub due : a.common.due ≡ is_bdf c.meth
  pub ialth : a.common.ialth ≡ 5
  pub orders : Orders s (shape_of c) → Orders s (shape_of a.common)
  pub in-range : StepInRange s c → StepInRange s a.common
  pub sized : length a.work ≡ length work

module _ (s : Settings) (c : Common) (work : List Float) where
  abbrev entered : Common
  entered = with_due (is_bdf c.meth) (with_ialth 5 c)

  restepped-at : (one : Bool) → eqb c.nq 1 ≡ one
      → Restepped s c work (predict_of s (lowered_of s one entered) (slope_of s.n c.h work))
  unfolding predicted_of reset_of
  restepped-at true e =
      record {
        kept = kept c (predicted_of s entered);
        kflag = refl;
        ncf = refl;
        rejected = refl;
        nq = eqb-true c.nq 1 e;
        nqnyh = inl (eqb-true c.nq 1 e, refl);
        due = due-predicted s entered refl;
        ialth = refl;
        orders = λ p. p;
        in-range = λ p. same-range _ refl refl refl refl p;
        sized = length-predict s.n _ _ _ ∙ length-slope s.n _ work;
      }
  restepped-at false e =
      record {
        kept = kept c (predicted_of s (lowered_of s false entered));
        kflag = refl;
        ncf = refl;
        rejected = refl;
        nq = refl;
        nqnyh = inr (eqb-false c.nq 1 e, omega arith);
        due = due-predicted s (lowered_of s false entered) refl;
        ialth = refl;
        orders = λ p. reset-orders 1 p (omega arith, p.lmax.0);
        in-range = λ p. in-range-predicted s (lowered_of s false entered) (in-range-lowered s c p _);
        sized = length-predict s.n _ _ _ ∙ length-slope s.n _ work;
      }

  pub restepped : Restepped s c work (restep_of s c work)
  unfolding restep_of
  restepped = restepped-at (eqb c.nq 1) refl
