-- The counts of a session along a run, each below a number known beforehand: with the largest settings it is below
-- 2^62, as 13 wants. icount, kept with 1,000,000 added, falls by at most 1 a step.
use Rattle.std.specs.Prelude.{List, ℕ, ◌+◌, ◌*◌, ◌≤◌}
use Rattle.common.specs.declared.Settings.{Settings}
use Rattle.common.specs.declared.Common.{Common}
use Rattle.common.specs.declared.MethodFamily.TheVariants.{Bdf}
use Rattle.common.specs.Rules.{icount20}
use Rattle.common.specs.State.{Given}
use Rattle.common.specs.Ranges.{Counts}
use Rattle.rules.specs.Play.{Play, ret, ask, tell, say}
use Rattle.rules.specs.Rules.{limits_of}
use Rattle.rules.specs.Steps.{Step}
use Rattle.rules.specs.Caps.{derivatives_of, jacobians_of}
use Rattle.rules.specs.Demands.{last_state}

-- the derivatives of one step, difference Jacobians included
abbrev pub step_most : Settings → ℕ
step_most s = derivatives_of Bdf (limits_of s) + jacobians_of (limits_of s) * s.n

-- two around the start, and one after each report
abbrev pub most_of : Settings → ℕ
most_of s = 2 + s.maxsteps * (step_most s + 1)

pub record Counted (s : Settings) (c : Common) : Type 0 where
  pub counts : Counts c (most_of s)
  pub steps : c.nst ≤ s.maxsteps
  pub icount : (icount20 ≤ c.icount + c.nst) × (c.icount ≤ icount20)

abbrev pub CountedAt : Given → Play → List Step → Type 0
CountedAt g (ret e) xs = Counted g.s (last_state e).c
CountedAt g (ask q x k) xs = Counted g.s x.c
CountedAt g (tell r x k) xs = Counted g.s x.c
CountedAt g (say e p) xs = ⊥
