-- What a corrector pass, an attempt that failed and an accepted step keep of the ranges of a run (`Within` of
-- between_steps), whatever the floats.
--     within-open, within-judged, within-factored              a pass
--     within-unconverged, within-failed, within-restep         an attempt that failed; kept-ialth, failed-pass,
--                                                              failed-restep: what it leaves of ialth and kflag
--     within-accept                                            an accepted step
-- Assumes nothing.
use mathlib.Core.List.{List}
use mathlib.Core.Logic.{◌⊎◌, inl, inr}
use mathlib.Core.Path.{◌≡◌}
use Prim.Native.Nat.{ℕ, ◌+◌, ◌-◌, ◌^◌, ◌≤◌, ◌<◌, max}
use native.Mathlib.Omega.{arith}
use lib.Ieee.{Float}
use Rattle.common.specs.declared.Settings.{Settings}
use Rattle.common.specs.declared.Common.{Common}
use Rattle.common.specs.Limits.{mxncf_of}
use Rattle.common.specs.Rules.{icount20}
use Rattle.common.specs.Ranges.{Accepted, shape_of, Orders}
use Rattle.jacobian.specs.Jacobian.{finish_jacobian_of}
use Rattle.jacobian.proofs.Laws.{SameStep}
use Rattle.corrector.specs.Iterate.{Correction}
use Rattle.corrector.specs.Verdict.{judge_of}
use Rattle.corrector.proofs.Judged.{same-judge, judged}
use Rattle.corrector.specs.Iterate.{open_of}
use Rattle.corrector.proofs.Iterated.{same-open, open-flags}
use Rattle.attempt.specs.declared.Next.TheVariants.{Pass, Restep}
use Rattle.attempt.specs.Attempt.{no_convergence_of, failed_of, restep_of}
use Rattle.attempt.proofs.Laws.{Kept, unconverged, failed, restepped}
use Rattle.acceptance.specs.Accept.{accept_of}
use Rattle.acceptance.proofs.Laws.{accept-keeps}
use Rattle.between_steps.proofs.Within.{core_of, Within}

module _ {s : Settings} (acc : Accepted s) {base most more under : ℕ} (c : Common)
    (p : Within s base most more under (core_of c)) where
  -- ---- a corrector pass

  same-within : (d : Common) → SameStep c d → d.m < s.maxcor → Within s base most more under (core_of d)
  same-within d q m = record {
    orders = rw (q.nq, q.lmax, q.nqnyh, q.table) p.orders;
    counters = record {
      ialth = rw q.ialth p.counters.ialth;
      icount = rw (q.icount, q.nst) p.counters.icount;
      kflag = rw q.kflag p.counters.kflag;
      ncf = rw q.ncf p.counters.ncf;
      m = m;
      column = rw q.column p.counters.column;
    };
    ialth = rw q.ialth p.ialth;
    nslp = rw q.nslp p.nslp;
    steps = rw q.nst p.steps;
  }

  pub within-open : Within s base most more under (core_of (open_of c))
  within-open = same-within _ (same-open c) (rw (open-flags c).2 (omega (arith, acc.maxcor)))

  pub within-judged : (x : Correction) (pnorm : Float)
      → Within s base most more under (core_of (judge_of s c x pnorm).common)
  within-judged x pnorm = same-within _ (same-judge s c x pnorm) (judged s c x pnorm p.counters.m).below

  -- nslp becomes nst
  pub within-factored : c.nst < 2 ^ 62 → (work : List Float) (ipiv : List ℕ)
      → Within s base most more under (core_of (finish_jacobian_of s c work ipiv).common)
  unfolding finish_jacobian_of
  within-factored few work ipiv =
      record { orders = p.orders; counters = p.counters; ialth = p.ialth; nslp = few; steps = p.steps }

  -- ---- after a pass that was not accepted

  -- ialth stays, or is that of the order
  pub kept-ialth : {i : ℕ} → (i ≡ c.ialth) ⊎ (i ≡ c.nq + 1) → (1 ≤ i) × (i ≤ 13 + more)
  kept-ialth (inl e) = rw e (p.counters.ialth, p.ialth)
  kept-ialth (inr e) = (omega arith, omega (arith, p.orders.nq))

  attempt-within : (d : Common) → Kept c d → Orders s (shape_of d) → (1 ≤ d.ialth) × (d.ialth ≤ 13 + more)
      → d.kflag ≤ 9 → d.ncf < mxncf_of s → Within s base most more under (core_of d)
  attempt-within d k orders ialth kflag ncf = record {
    orders = orders;
    counters = record {
      ialth = ialth.0;
      icount = rw (k.icount, k.nst) p.counters.icount;
      kflag = kflag;
      ncf = ncf;
      m = rw k.m p.counters.m;
      column = rw k.column p.counters.column;
    };
    ialth = ialth.1;
    nslp = rw k.nslp p.nslp;
    steps = rw k.nst p.steps;
  }

  module _ (work : List Float) where
    pub within-unconverged : (no_convergence_of s c work).next ≡ Pass
        → Within s base most more under (core_of (no_convergence_of s c work).common)
    within-unconverged e =
        let u = unconverged s c work in
        let k = p.counters in
        attempt-within _ u.kept (u.orders p.orders) (kept-ialth u.ialth) (rw u.kflag k.kflag)
        (rw u.ncf (u.below k.ncf e))

    module _ (dsm : Float) where
      pub within-failed : (failed_of s c dsm work).common.kflag ≤ 9
          → Within s base most more under (core_of (failed_of s c dsm work).common)
      within-failed few =
          let u = failed s c dsm work in
          attempt-within _ u.kept (u.orders p.orders) (kept-ialth u.ialth) few
          (rw u.ncf p.counters.ncf)

      pub failed-pass : (failed_of s c dsm work).next ≡ Pass → (failed_of s c dsm work).common.kflag ≤ 9
      failed-pass e = let u = failed s c dsm work in omega (arith, u.kflag, u.pass e)

      pub failed-restep : (failed_of s c dsm work).next ≡ Restep → (failed_of s c dsm work).common.kflag ≤ 9
      failed-restep e = let u = failed s c dsm work in omega (arith, u.kflag, u.restep p.counters.kflag e)

    pub within-restep : Within s base most more under (core_of (restep_of s c work).common)
    within-restep =
        let u = restepped s c work in
        attempt-within _ u.kept (u.orders p.orders) (rw u.ialth (omega arith, omega arith))
        (rw u.kflag p.counters.kflag) (rw u.ncf p.counters.ncf)

-- ---- an accepted step

pub within-accept : {s : Settings} → Accepted s → {base most more : ℕ} (c : Common)
    → Within s base most more 1 (core_of c)
    → (dsm : Float) (work : List Float) → Within s base most more 0 (core_of (accept_of s c dsm work).common)
within-accept {s} acc {base} {most} {more} c p dsm work =
    let u = accept-keeps s c dsm work in
    let o = u.orders 1 (acc.mxordn.0, acc.mxords.0) p.orders in
    record {
      orders = o;
      counters = record {
        ialth = u.ialth p.counters.ialth;
        icount = icount-accepted _ _ u.icount u.nst;
        kflag = rw u.kflag (omega arith);
        ncf = rw u.ncf p.counters.ncf;
        m = rw u.m (omega (arith, acc.maxcor));
        column = rw u.column p.counters.column;
      };
      ialth = ialth-accepted _ _ u.ialth-most o.nq.1;
      nslp = rw u.nslp p.nslp;
      steps = rw u.nst (omega (arith, p.steps));
    }
  where
    -- icount falls by 1, or is 20 again
    icount-accepted : (i n : ℕ) → (i ≡ c.icount - 1) ⊎ (i ≡ icount20) → n ≡ c.nst + 1
        → (base - n ≤ i) × (i ≤ icount20)
    icount-accepted i n (inl e) q = omega (arith, p.counters.icount)
    icount-accepted i n (inr e) q = omega (arith, p.counters.icount)

    ialth-accepted : (i q : ℕ) → (i ≤ max c.ialth 3) ⊎ (i ≡ q + 1) → q ≤ 12 → i ≤ 13 + more
    ialth-accepted i q (inl h) few = omega (arith, p.ialth)
    ialth-accepted i q (inr e) few = omega arith
