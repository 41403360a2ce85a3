-- What the functions inside a reply ask of the record (`Inside`) holds after each change that a pass makes.
--     inside_judged, inside-factored     what each change keeps
--     lent-factored                      the work and the pivots after the factors
--     accepted-in-range                  what an accepted step leaves, for its end
-- Assumes nothing.
use mathlib.Core.Path.{◌∙◌}
use mathlib.Core.List.{List}
use Prim.Native.Nat.{ℕ}
use native.Mathlib.Omega.{arith}
use lib.Ieee.{Float}
use Rattle.common.specs.declared.Settings.{Settings}
use Rattle.common.specs.declared.Common.{Common}
use Rattle.common.specs.Ranges.{Inside, Lent, StepInRange}
use Rattle.common.proofs.Ranges.{step-in-range}
use Rattle.jacobian.specs.Jacobian.{finish_jacobian_of}
use Rattle.jacobian.proofs.Laws.{length-finished, length-finished-ipiv, finished-below}
use Rattle.corrector.specs.Iterate.{Correction}
use Rattle.corrector.specs.Verdict.{judge_of}
use Rattle.corrector.proofs.Judged.{same-judge}
use Rattle.acceptance.specs.Accept.{accept_of}
use Rattle.acceptance.proofs.Laws.{accept-keeps}
use Rattle.between_steps.proofs.Inside.{within_of, inside-by}
use Rattle.passes.proofs.PassWithin.{within-judged, within-factored}

module _ {s : Settings} {c : Common} (p : Inside s c) where
  pub inside_judged : (x : Correction) (pnorm : Float) → Inside s (judge_of s c x pnorm).common
  inside_judged x pnorm =
      let q = same-judge s c x pnorm in
      inside-by p _ (within-judged p.settings c (within_of p) x pnorm)
      (rw (q.nfe, q.count, q.rejected) p.counts)

  pub inside-factored : (work : List Float) (ipiv : List ℕ) → Inside s (finish_jacobian_of s c work ipiv).common
  unfolding finish_jacobian_of
  inside-factored work ipiv =
      inside-by p (finish_jacobian_of s c work ipiv).common
      (within-factored p.settings c (within_of p) p.steps.1 work ipiv) p.counts

  pub accepted-in-range : (dsm : Float) (work : List Float) → StepInRange s (accept_of s c dsm work).common
  accepted-in-range dsm work =
      let k = accept-keeps s c dsm work in
      step-in-range _ p.settings (k.orders 1 (p.settings.mxordn.0, p.settings.mxords.0) p.orders)
      (omega (arith, k.nslp, p.steps))

pub lent-factored : (s : Settings) (c : Common) (work : List Float) (ipiv : List ℕ) → Lent s.n work ipiv
    → Lent s.n (finish_jacobian_of s c work ipiv).work (finish_jacobian_of s c work ipiv).ipiv
lent-factored s c work ipiv p = record {
  sized = length-finished s c work ipiv ∙ p.sized;
  pivots = length-finished-ipiv s c work ipiv ∙ p.pivots;
  below = finished-below s c work ipiv p.below;
}

-- for an attribute at each
pub ruleset factored = (inside-factored, length-finished, length-finished-ipiv, finished-below)

pub ruleset accepted = (accepted-in-range, accept-keeps)
