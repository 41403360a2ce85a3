-- The record of a run against what its step has requested so far.
--     Between     the counts between steps, by the number of accepted steps
--     Base        what is known where a step begins
--     Tracks      the counts inside a step: those at its beginning and the step's tally
--     node        so a question in the step has what the demands say of it
-- Assumes nothing.
use mathlib.Core.Path.{◌≡◌, ◌∙◌}
use mathlib.Core.List.{List, ◌∷◌}
use mathlib.Core.Option.{none}
use Prim.Native.Nat.{ℕ, suc, ◌+◌, ◌*◌, ◌≤◌, ◌<◌}
use native.Mathlib.Nat.{suc-mul, mul-le-mul_right, mul-le-mul_left, mul-one}
use native.Mathlib.Omega.{arith}
use Rattle.common.specs.declared.MethodFamily.{MethodFamily}
use Rattle.common.specs.declared.MethodFamily.TheVariants.{Adams, Bdf}
use Rattle.common.specs.declared.Settings.{Settings}
use Rattle.common.specs.declared.Common.{Common}
use Rattle.common.specs.Rules.{icount20}
use Rattle.common.specs.State.{Given, State}
use Rattle.jacobian.proofs.Laws.{SameStep}
use Rattle.common.specs.Ranges.{Accepted}
use Rattle.rules.specs.Play.{Limits, Play}
use Rattle.rules.specs.Pass.{asked_in_step}
use Rattle.rules.specs.Rules.{limits_of}
use Rattle.rules.specs.Steps.{Tally, Step, one_derivative, is_ended, is_ended_keeping, number}
use Rattle.rules.specs.Caps.{passes_of, jacobians_of, Capped, Every}
use Rattle.rules.specs.Demands.{Throughout, CapsKept, Demand3At}
use Rattle.rules.specs.Counts.{step_most, Counted, CountedAt}

-- what both theorems say of a place of the tree, and of all of them
abbrev pub Both : Given → Play → List Step → Type 0
Both g p xs = Demand3At g p xs × CountedAt g p xs

abbrev pub Whole : Given → Play → List Step → Type 0
Whole g p xs = Throughout (Both g) p xs

-- ---- between steps

-- N steps are accepted
pub record Between (s : Settings) (N : ℕ) (c : Common) : Type 0 where
  pub nst : c.nst ≡ N
  pub nfe : c.nfe ≤ 2 + N * (step_most s + 1)
  pub nje : c.nje ≤ N * (step_most s + 1)
  pub nlu : c.nlu ≤ N * (step_most s + 1)
  pub rejected : c.rejected ≤ N * passes_of Bdf (limits_of s)
  pub total : c.total ≤ N * (step_most s + 1)
  pub count : c.count ≤ N * (step_most s + 1)
  pub nslp : c.nslp ≤ N
  pub icount : (icount20 ≤ c.icount + N) × (c.icount ≤ icount20)

pub passes-cost : (s : Settings) → Accepted s → passes_of Bdf (limits_of s) + 1 ≤ step_most s
passes-cost s acc =
    let k = passes_of Bdf (limits_of s) in
    omega (arith, mul-le-mul_left k acc.maxcor.0, mul-one k)

-- between steps every count is within its bound
pub between-counted : (s : Settings) (N : ℕ) (c : Common) → Accepted s → N ≤ s.maxsteps → Between s N c → Counted s c
between-counted s N c acc few p =
    let w = step_most s + 1 in
    let most : N * w ≤ s.maxsteps * w = mul-le-mul_right w few in
    let fewer : N * passes_of Bdf (limits_of s) ≤ N * w = mul-le-mul_left N (omega (arith, passes-cost s acc)) in
    let least : N * 1 ≤ N * w = mul-le-mul_left N (omega arith) in
    let own : N * 1 ≡ N = mul-one N in
    record {
      counts = record {
        nslp = omega (arith, p.nslp);
        nst = omega (arith, p.nst);
        nfe = omega (arith, p.nfe);
        nje = omega (arith, p.nje);
        nlu = omega (arith, p.nlu);
        rejected = omega (arith, p.rejected);
        total = omega (arith, p.total);
        count = omega (arith, p.count);
      };
      steps = omega (arith, p.nst);
      icount = (omega (arith, p.nst, p.icount.0), p.icount.1);
    }

-- ---- in a step

-- the step under way, after the steps xs
abbrev pub now : MethodFamily → Settings → Tally → Step
now f s t = record { family = f; limits = limits_of s; tally = t; ending = none }

-- b is the record at the step's first prediction
pub record Base (s : Settings) (b : Common) (xs : List Step) : Type 0 where
  pub settings : Accepted s
  pub capped : Every Capped xs
  pub balanced : b.nst + number is_ended_keeping xs ≡ number is_ended xs
  pub between : Between s b.nst b
  pub few : b.nst < s.maxsteps

pub record Tracks (s : Settings) (f : MethodFamily) (b : Common) (c : Common) (t : Tally) : Type 0 where
  pub meth : c.meth ≡ f
  pub nst : c.nst ≡ b.nst
  pub nfe : c.nfe ≡ b.nfe + t.derivatives
  pub count : c.count ≡ t.derivatives
  pub nje : c.nje ≡ b.nje + t.jacobians
  pub nlu : c.nlu ≤ b.nlu + t.jacobians
  pub total : c.total ≡ b.total
  pub nslp : c.nslp ≤ b.nst
  pub icount : c.icount ≡ b.icount
  pub paid : t.paid ≤ t.jacobians * s.n

pub same-tracks : {s : Settings} {f : MethodFamily} {b c : Common} {t : Tally} (d : Common)
    → SameStep c d → Tracks s f b c t → Tracks s f b d t
same-tracks d q p =
    record {
      meth = q.meth ∙ p.meth;
      nst = q.nst ∙ p.nst;
      nfe = q.nfe ∙ p.nfe;
      count = q.count ∙ p.count;
      nje = q.nje ∙ p.nje;
      nlu = rw q.nlu p.nlu;
      total = q.total ∙ p.total;
      nslp = rw q.nslp p.nslp;
      icount = q.icount ∙ p.icount;
      paid = p.paid;
    }

-- a derivative is asked for
pub asked-tracks : {s : Settings} {f : MethodFamily} {b : Common} (c : Common) (t : Tally) → Tracks s f b c t
    → Tracks s f b (asked_in_step c) (one_derivative t)
asked-tracks c t k =
    record {
      meth = k.meth;
      nst = k.nst;
      nfe = omega (arith, k.nfe);
      count = omega (arith, k.count);
      nje = k.nje;
      nlu = k.nlu;
      total = k.total;
      nslp = k.nslp;
      icount = k.icount;
      paid = k.paid;
    }

pub most-passes : (f : MethodFamily) (l : Limits) → passes_of f l ≤ passes_of Bdf l
most-passes Adams l = omega arith
most-passes Bdf l = omega arith

module _ (s : Settings) (f : MethodFamily) (b : Common) (xs : List Step) (base : Base s b xs) where
  -- the derivatives of a step, difference Jacobians included
  pub derivatives-most : (t : Tally) → t.paid ≤ t.jacobians * s.n → Capped (now f s t) → t.derivatives ≤ step_most s
  derivatives-most t paid q =
      let l = limits_of s in
      let own : passes_of f l * l.maxcor ≤ passes_of Bdf l * l.maxcor =
      mul-le-mul_right l.maxcor (most-passes f l)
      in
      let cost : t.jacobians * s.n ≤ jacobians_of l * s.n = mul-le-mul_right s.n q.jacobians in
      omega (arith, q.derivatives)

  -- the counts of a question in the step
  pub tracks-counted : (c : Common) (t : Tally) → Tracks s f b c t → c.rejected ≤ b.rejected + t.passes
      → Capped (now f s t) → Counted s c
  tracks-counted c t p few q =
      let l = limits_of s in
      let w = step_most s + 1 in
      let N = b.nst in
      let e = base.between in
      let k = passes_of Bdf l in
      let next : suc N * w ≡ N * w + w = suc-mul N w in
      let most : suc N * w ≤ s.maxsteps * w = mul-le-mul_right w base.few in
      let fewer : suc N * k ≤ suc N * w = mul-le-mul_left (suc N) (omega (arith, passes-cost s base.settings)) in
      let after : suc N * k ≡ N * k + k = suc-mul N k in
      let passed : t.passes ≤ k = omega (arith, q.passes, most-passes f l) in
      let own : N * 1 ≡ N = mul-one N in
      let least : N * 1 ≤ N * w = mul-le-mul_left N (omega arith) in
      let here : t.derivatives ≤ step_most s = derivatives-most t p.paid q in
      let made : t.jacobians ≤ step_most s = omega (arith, q.jacobians, passes-cost s base.settings) in
      record {
        counts = record {
          nslp = omega (arith, p.nslp);
          nst = omega (arith, p.nst);
          nfe = omega (arith, p.nfe, e.nfe);
          nje = omega (arith, p.nje, e.nje);
          nlu = omega (arith, p.nlu, e.nlu);
          rejected = omega (arith, few, e.rejected);
          total = omega (arith, p.total, e.total);
          count = omega (arith, p.count);
        };
        steps = omega (arith, p.nst, base.few);
        icount = rw (p.icount, p.nst) e.icount;
      }

  -- at a question in the step
  pub node : (x : State) (t : Tally) → Tracks s f b x.c t → x.c.rejected ≤ b.rejected + t.passes
      → Capped (now f s t) → CapsKept x (now f s t ∷ xs) × Counted s x.c
  node x t p few q =
      (record { capped = (q, base.capped); accepted = rw p.nst base.balanced }, tracks-counted x.c t p few q)
