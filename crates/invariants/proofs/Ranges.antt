-- The orders, columns and counters of a run stay in range, whatever the floats; where a run ends, the last failure may
-- have reached its limit (`Closing`).
--     ranges-keep        `Within` is kept by every reply, from any bounds on the steps
--     order-after        the order after any reply to a session in range is at most 12, whether or not the reply ends
--                        the run; nothing is asked of icount beyond its range, so the session need not be of a run
--     within-initial     the record at the start
-- Assumes nothing.
use mathlib.Core.List.{List}
use mathlib.Core.Logic.{◌⊎◌, inl, inr}
use mathlib.Core.Path.{◌≡◌}
use Prim.Native.Nat.{ℕ, ◌+◌, ◌^◌, ◌≤◌, ◌<◌}
use native.Mathlib.Nat.{mod_self}
use native.Mathlib.Omega.{arith}
use lib.Ieee.{Float}
use borrow.Author.Tests.{leb-false}
use Rattle.common.specs.declared.Settings.{Settings}
use Rattle.common.specs.declared.Common.{Common}
use Rattle.common.specs.Limits.{mxncf_of}
use Rattle.common.specs.State.{Given, State, given}
use Rattle.common.specs.Rules.{icount20}
use Rattle.common.specs.Ranges.{Accepted, Ranges, shape_of, Orders, EndedCounters}
use Rattle.common.proofs.Ranges.{wider}
use Rattle.jacobian.specs.Jacobian.{begin_of}
use Rattle.attempt.specs.declared.Next.{Next}
use Rattle.attempt.specs.Attempt.{no_convergence_of, failed_of}
use Rattle.attempt.proofs.Laws.{Kept, unconverged, failed}
use Rattle.between_steps.specs.declared.Kind.{Kind}
use Rattle.between_steps.proofs.Within.{Core, core_of, Within, within-column, within-restart, within_first}
use Rattle.between_steps.proofs.Within.{within-another}
use Rattle.passes.proofs.PassWithin.{within-open, within-judged, within-factored, kept-ialth, within-unconverged}
use Rattle.passes.proofs.PassWithin.{within-failed, failed-pass, failed-restep, within-restep, within-accept}
use Rattle.questions.specs.declared.Phase.{Phase}
use Rattle.common.specs.Initial.{initial_of}
use Rattle.machine.specs.Resume.{resume_of}
use Rattle.invariants.proofs.Keeps.{Invariant, each, any, after-pass, Keeps}
use Rattle.invariants.proofs.Walk.{resume-keeps}

-- ---- where a run ends

pub record Closing (s : Settings) (more : ℕ) (k : Core) : Type 0 where
  pub orders : Orders s k.shape
  pub counters : EndedCounters s k.step
  pub ialth : k.step.ialth ≤ 13 + more

pub closing-of : {s : Settings} {base most more under : ℕ} {k : Core} → Within s base most more under k
    → Closing s more k
closing-of p = record {
  orders = p.orders;
  counters = wider (omega arith) (omega arith) (omega arith) p.counters;
  ialth = p.ialth;
}

module _ {s : Settings} (acc : Accepted s) {base most more under : ℕ} (c : Common)
    (p : Within s base most more under (core_of c)) (work : List Float) where
  attempt-closing : (d : Common) → Kept c d → Orders s (shape_of d) → (1 ≤ d.ialth) × (d.ialth ≤ 13 + more)
      → d.kflag ≤ 10 → d.ncf < mxncf_of s + 1 → Closing s more (core_of d)
  attempt-closing d k orders ialth kflag ncf = record {
    orders = orders;
    counters = record {
      ialth = ialth.0;
      icount = rw k.icount (omega arith, p.counters.icount.1);
      kflag = kflag;
      ncf = ncf;
      m = rw k.m p.counters.m;
      column = rw k.column p.counters.column;
    };
    ialth = ialth.1;
  }

  closing-unconverged : Closing s more (core_of (no_convergence_of s c work).common)
  closing-unconverged =
      let u = unconverged s c work in
      attempt-closing _ u.kept (u.orders p.orders) (kept-ialth acc c p u.ialth)
      (omega (arith, u.kflag, p.counters.kflag)) (omega (arith, u.ncf, p.counters.ncf))

  closing-failed : (dsm : Float) → Closing s more (core_of (failed_of s c dsm work).common)
  closing-failed dsm =
      let u = failed s c dsm work in
      attempt-closing _ u.kept (u.orders p.orders) (kept-ialth acc c p u.ialth)
      (omega (arith, u.kflag, p.counters.kflag)) (omega (arith, u.ncf, p.counters.ncf))

-- ---- every reply

never : {v : Next} {X : Type 0} → (v ≡ Next.Pass) ⊎ (v ≡ Next.Poor) → v ≡ Next.Restep → X
never (inl h) e = absurd (let z : ◌≡◌ {A = ℕ} 0 1 = cc in omega arith)
never (inr h) e = absurd (let z : ◌≡◌ {A = ℕ} 0 1 = cc in omega arith)

module _ (s : Settings) (base most more : ℕ) where
  -- with so many steps under way
  abbrev pub Ranged : ℕ → Invariant
  Ranged under x = Within s base most more under (core_of x.c)

  abbrev pub ClosingAt : Invariant
  ClosingAt x = Closing s more (core_of x.c)

  module _ (acc : Accepted s) (enough : s.maxsteps ≤ most) (few : most ≤ 2 ^ 62) where
    pub ranges-keep : (rtol atol : List Float) (time : Float)
        → Keeps (given s rtol atol) time (Ranged 0) (Ranged 1) ClosingAt
    unfolding begin_of
    ranges-keep rtol atol time = record {
      between-work = λ x h w e. h;
      step-work = λ x h w e. h;
      over = λ x h. closing-of h;
      asked = λ x h k. h;
      timed = λ x h. h;
      retimed = λ x h. h;
      first_step = λ x h w. h;
      first-size = λ x h w. h;
      restarted = λ x h. within-restart acc x.c h;
      totalled = λ x h k. h;
      begun = λ x h e.
          within_first acc x.c
          (within-another acc x.c h (omega (arith, leb-false s.maxsteps x.c.nst e))) x.w;
      accepted = λ x h dsm w. within-accept acc x.c h dsm w;
      asked-in-step = λ x h k j. h;
      opened = λ x h. within-open acc x.c h;
      judged = λ x h. within-judged acc x.c h _ _;
      jacobian-begun = λ x h. h;
      column = λ x h j e. within-column acc x.c h j (e acc.n.0);
      factored = λ x h. within-factored acc x.c h (omega (arith, h.steps)) x.w x.p;
      unconverged = λ x h w.
          after-pass (no_convergence_of s x.c w).next (within-unconverged acc x.c h w)
          (λ e. never (unconverged s x.c w).next e) (closing-unconverged acc x.c h w);
      failed = λ x h dsm w.
          after-pass (failed_of s x.c dsm w).next
          (λ e. within-failed acc x.c h w dsm (failed-pass acc x.c h w dsm e))
          (λ e. within-failed acc x.c h w dsm (failed-restep acc x.c h w dsm e))
          (closing-failed acc x.c h w dsm);
      restepped = λ x h w. within-restep acc x.c h w;
    }

-- ---- the order after any reply

within-ranges : (s : Settings) (c : Common) → Ranges s c → (under : ℕ) → under ≤ 1
    → Within s 0 (2 ^ 62) c.ialth under (core_of c)
within-ranges s c p under one = record {
  orders = p.orders;
  counters = wider (omega arith) (omega arith) (omega arith) p.counters;
  ialth = omega arith;
  nslp = omega (arith, p.counts.nslp);
  steps = omega (arith, p.counts.nst);
}

pub order-after : (g : Given) (phase : Phase) (x : State) (kind : Kind) (reply : List Float) (time : Float)
    → Ranges g.s x.c → (resume_of g phase x kind reply time).st.c.nq ≤ 12
order-after g phase x kind reply time p =
    let s = g.s in
    let between = within-ranges s x.c p 0 (omega arith) in
    let k = ranges-keep s 0 (2 ^ 62) x.c.ialth p.settings (omega (arith, p.settings.maxsteps)) (omega arith) in
    each (resume_of g phase x kind reply time).phase (λ h. h.orders.nq.1) (λ h. h.orders.nq.1)
    (λ h. h.orders.nq.1)
    (resume-keeps g phase x kind reply time (k g.rtol g.atol time)
    (any phase between (within-ranges s x.c p 1 (omega arith)) (closing-of between)))

-- ---- the start

pub within-initial : (s : Settings) → Accepted s → (x0 h hmin hmxi : Float)
    → Within s icount20 s.maxsteps 0 0 (core_of (initial_of s x0 h hmin hmxi))
unfolding initial_of
within-initial s acc x0 h hmin hmxi = record {
  orders = record {
    nq = omega arith;
    lmax = (omega (arith, acc.mxordn), omega arith, omega (arith, acc.mxordn));
    nqnyh = (mod_self s.n, omega arith, omega arith);
    table = omega arith;
  };
  counters = record {
    ialth = omega arith;
    icount = (omega arith, omega arith);
    kflag = omega arith;
    ncf = omega arith;
    m = omega (arith, acc.maxcor);
    column = omega (arith, acc.n);
  };
  ialth = omega arith;
  nslp = omega arith;
  steps = omega (arith, acc.maxsteps);
}
