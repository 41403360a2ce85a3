-- What the scope says of a step in words, sentence by sentence: when a pass is retried, when the step ends and how,
-- what becomes of h, the time, the order, the counts and the Jacobian; the coefficient gap; what comes between steps.
-- It is said of the definitions that the rules use, so other definitions do not meet it. kflag counts upwards here (the
-- scope's -3 is 3), and icount is kept with 1,000,000 added.
-- It does not fix the definitions whole: sizes, coefficients and columns are believed (docs/PROOFS.md).
use Rattle.std.specs.Prelude.{true, false, List, ◌⊎◌, ◌↔◌, ◌≡◌, ℕ, suc, ◌+◌, ◌-◌, ◌≤◌, ◌<◌, Float}
use Rattle.std.specs.Float.Ieee as Ieee
use Rattle.numbers.specs.Float.{◌⊕◌, ◌⊖◌, ◌⊗◌, ◌⊘◌, zero_f, d0_1, d0_25, d1_00001, d2}
use Rattle.numbers.specs.Sign.{abs_of}
use Rattle.numbers.specs.Order.{max_of}
use Rattle.common.specs.declared.MethodFamily.TheVariants.{Adams, Bdf}
use Rattle.common.specs.declared.Settings.{Settings}
use Rattle.common.specs.declared.Common.{Common}
use Rattle.common.specs.Record.{is_bdf, with_rmax}
use Rattle.common.specs.Limits.{mxncf_of}
use Rattle.common.specs.State.{Given, State, Moved}
use Rattle.history.specs.Columns.{retract_columns_of}
use Rattle.history.specs.Steps.{limited_of}
use Rattle.corrector.specs.declared.Pass.TheVariants as Pass
use Rattle.corrector.specs.declared.Verdict.{Verdict}
use Rattle.corrector.specs.Iterate.{Correction}
use Rattle.corrector.specs.Verdict.{judge_of}
use Rattle.attempt.specs.declared.Next.TheVariants.{Pass, Restep, TooSmall, Poor}
use Rattle.attempt.specs.Attempt.{Attempt, no_convergence_of, failed_of, restep_of}
use Rattle.acceptance.specs.declared.Branch.TheVariants.{CoefficientGap}
use Rattle.acceptance.specs.Order.{Settled}
use Rattle.acceptance.specs.Accept.{accept_of}
use Rattle.between_steps.specs.declared.Status.TheVariants as Status
use Rattle.rules.specs.Play.{Report, finished, ret}
use Rattle.rules.specs.Rules.{predicted, step, solve, reported_state, report_at, modified, restarted}

-- |h| ≤ hmin·1.00001
abbrev pub Tiny : Common → Type 0
Tiny c = Ieee.le (abs_of c.h) (c.hmin ⊗ d1_00001) ≡ true

-- hmin / |h|
abbrev pub floor_of : Common → Float
floor_of c = c.hmin ⊘ abs_of c.h

-- the second family, with a Jacobian that was not made in this pass
abbrev pub Old : Common → Type 0
Old c = (c.meth ≡ Bdf) × (c.jcur ≡ false)

-- 'Retry happens only in the second family with an old Jacobian, and makes one due', and no pass is given up there
pub record RetrySaid (c : Common) (v : Verdict) : Type 0 where
  pub retry : v.pass ≡ Pass.Retry → Old c × (v.common.due ≡ true)
  pub given_up : v.pass ≡ Pass.NoConvergence → Old c → ⊥

-- 'No convergence retracts, quarters h (not below hmin, within rescale's limits) and in the second family makes a
-- Jacobian due; it ends poor at the mxncf-th such pass or when |h| ≤ hmin·1.00001, and that last pass isn't counted
-- rejected'
pub record NoConvergenceSaid (s : Settings) (c : Common) (work : List Float) (a : Attempt) : Type 0 where
  pub poor : (a.next ≡ Poor) ↔ (Tiny c ⊎ (c.ncf + 1 ≡ mxncf_of s))
  pub again : (a.next ≡ Pass) ↔ ((Tiny c → ⊥) × (c.ncf + 1 ≡ mxncf_of s → ⊥))
  pub count : a.common.ncf ≡ c.ncf + 1
  pub time : a.next ≡ Poor → a.common.tn ≡ c.told
  pub retracted : a.next ≡ Poor → a.work ≡ retract_columns_of s.n c.nq c.nqnyh work
  pub quarter : a.next ≡ Pass → a.common.h ≡ c.h ⊗ limited_of (with_rmax d2 c) (max_of d0_25 (floor_of c))
  pub predicted : a.next ≡ Pass → a.common.tn ≡ c.told ⊕ a.common.h
  pub due : a.next ≡ Pass → a.common.due ≡ is_bdf c.meth
  pub rejected : a.next ≡ Pass → a.common.rejected ≡ c.rejected + 1
  pub last : a.next ≡ Poor → a.common.rejected ≡ c.rejected

-- 'Error above 1 retracts and lowers kflag; it ends too small at |h| ≤ hmin·1.00001 or -10. From -3 to -9 h falls to a
-- tenth (not below hmin), one derivative is requested'
pub record ErrorSaid (s : Settings) (c : Common) (work : List Float) (a : Attempt) : Type 0 where
  pub small : (a.next ≡ TooSmall) ↔ (Tiny c ⊎ (c.kflag + 1 ≡ 10))
  pub single : (a.next ≡ Restep) ↔ ((Tiny c → ⊥) × (3 ≤ c.kflag + 1) × (c.kflag + 1 ≤ 9))
  pub again : (a.next ≡ Pass) ↔ ((Tiny c → ⊥) × (c.kflag + 1 < 3))
  pub count : a.common.kflag ≡ c.kflag + 1
  pub rejected : a.common.rejected ≡ c.rejected + 1
  pub order : a.common.nq ≡ c.nq
  pub time : (a.next ≡ Pass → ⊥) → a.common.tn ≡ c.told
  pub retracted : a.next ≡ TooSmall → a.work ≡ retract_columns_of s.n c.nq c.nqnyh work
  pub tenth : a.next ≡ Restep → a.common.h ≡ c.h ⊗ max_of d0_1 (floor_of c)
  pub predicted : a.next ≡ Pass → a.common.tn ≡ c.told ⊕ a.common.h

-- '.. order is 1 and in the second family a Jacobian is due'
pub record SingleSaid (c : Common) (m : Moved) : Type 0 where
  pub order : m.common.nq ≡ 1
  pub due : m.common.due ≡ is_bdf c.meth
  pub size : m.common.h ≡ c.h
  pub time : m.common.tn ≡ c.tn ⊕ c.h

-- 'In family 2, accepted at order 6 or more with icount below 0 .. we end as coefficient gap, accepted count raised,
-- total as before'
pub record GapSaid (c : Common) (r : Settled) : Type 0 where
  pub gap : (r.branch ≡ CoefficientGap) ↔ ((c.meth ≡ Bdf) × (6 ≤ c.nq) × (c.icount - 1 < 1000000))
  pub accepted : r.common.nst ≡ c.nst + 1
  pub total : r.common.total ≡ c.total

-- (xend - tn)·direction > 0
abbrev pub Going : Given → State → Type 0
Going g x = Ieee.lt zero_f ((g.s.xend ⊖ x.c.tn) ⊗ g.s.direction) ≡ true

-- between steps, as `solve` has it: the interval first, then the number of steps, else a step
pub record BetweenSaid (g : Given) (x : State) : Type 0 where
  pub success : (Going g x → ⊥) → (k : ℕ) → solve k g x ≡ ret (finished Status.Success x)
  pub more : Going g x → g.s.maxsteps ≤ x.c.nst → (k : ℕ) → solve k g x ≡ ret (finished Status.NeedsMoreSteps x)
  pub goes_on : Going g x → x.c.nst < g.s.maxsteps → (k : ℕ) → solve (suc k) g x ≡ step g (solve k g) x

-- 'A step runs from its first prediction': from the time then, with no failure and no derivative yet
pub record OpenedSaid (x z : State) : Type 0 where
  pub began : z.c.told ≡ x.c.tn
  pub time : z.c.tn ≡ x.c.tn ⊕ z.c.h
  pub none : (z.c.kflag ≡ 0) × (z.c.ncf ≡ 0) × (z.c.count ≡ 0) × (z.c.jcur ≡ false)

-- 'Report: previous time, time, .. derivatives requested in this step'; 'total is refreshed only after acceptance'
pub record ReportSaid (x z : State) (r : Report) : Type 0 where
  pub previous : r.previous ≡ x.c.told
  pub time : r.time ≡ x.c.tn
  pub count : r.count ≡ x.c.count
  pub total : z.c.total ≡ x.c.nst + x.c.rejected

-- 'Modified recomputes time as previous time plus hu, requests one derivative, and restarts at order 1, Adams'
pub record ModifiedSaid (x z v : State) : Type 0 where
  pub time : z.c.tn ≡ x.c.told ⊕ x.c.hu
  pub asked : z.c.nfe ≡ x.c.nfe + 1
  pub in_no_step : z.c.count ≡ x.c.count
  pub restarts : (v.c.nq ≡ 1) × (v.c.meth ≡ Adams) × (v.c.setup ≡ true)

pub record StepSaid : Type 0 where
  pub retry : (s : Settings) (c : Common) (x : Correction) (pnorm : Float) → RetrySaid c (judge_of s c x pnorm)
  pub no_convergence : (s : Settings) (c : Common) (work : List Float)
      → NoConvergenceSaid s c work (no_convergence_of s c work)
  pub error : (s : Settings) (c : Common) (dsm : Float) (work : List Float) → c.kflag ≤ 9
      → ErrorSaid s c work (failed_of s c dsm work)
  pub single : (s : Settings) (c : Common) (work : List Float) → SingleSaid c (restep_of s c work)
  pub gap : (s : Settings) (c : Common) (dsm : Float) (work : List Float) → GapSaid c (accept_of s c dsm work)
  pub between : (g : Given) (x : State) → BetweenSaid g x
  pub opened : (g : Given) (x : State) → OpenedSaid x (predicted g x)
  pub report : (g : Given) (x : State) → ReportSaid x (reported_state g x) (report_at g (reported_state g x))
  pub modified_run : (g : Given) (y f : List Float) (x : State)
      → ModifiedSaid x (modified g y x) (restarted g f (modified g y x))
