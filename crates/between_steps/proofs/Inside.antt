-- What the functions inside a reply ask of the record (`Inside`) holds at each of their calls: it is `Within` with one
-- step under way, and bounds on the counts.
--     inside-ranges           a stored record that 13 passes is inside
--     prepared-range          what a step's first prediction asks
--     within_of, inside-by    of a change: to `Within`, and back from what it keeps
--     lent_length             the work and the pivots after a change of the work
-- Assumes nothing.
use mathlib.Core.Path.{◌≡◌, ◌∙◌}
use mathlib.Core.List.{List}
use Prim.Native.Nat.{ℕ, ◌+◌, ◌^◌, ◌<◌}
use native.Mathlib.Omega.{arith}
use lib.Ieee.{Float}
use lib.ListN.{length}
use Rattle.common.specs.declared.Settings.{Settings}
use Rattle.common.specs.declared.Common.{Common}
use Rattle.common.specs.Ranges.{Ranges, Inside, StepInRange, Lent}
use Rattle.common.proofs.Ranges.{wider}
use Rattle.between_steps.specs.Begin.{prepared_of}
use Rattle.between_steps.proofs.Within.{core_of, Within, counters-of, range-of}
use Rattle.between_steps.proofs.Within.{within-prepared}

pub inside-ranges : {s : Settings} {c : Common} → Ranges s c → Inside s c
inside-ranges p =
    let k = p.counts in
    record {
      settings = p.settings;
      orders = p.orders;
      counters = p.counters;
      steps = (omega (arith, k.nslp), omega (arith, k.nst));
      counts = (omega (arith, k.nfe), omega (arith, k.count), omega (arith, k.rejected));
    }

-- nst stays inside a reply until a step is accepted, so icount stays at least 20
module _ {s : Settings} {c : Common} (p : Inside s c) where
  abbrev pub WithinStep : Common → Type 0
  WithinStep d = Within s (20 + c.nst) (c.nst + 1) c.ialth 1 (core_of d)

  pub within_of : WithinStep c
  within_of = record {
    orders = p.orders;
    counters = wider (omega arith) (omega arith) (omega arith) p.counters;
    ialth = omega arith;
    nslp = p.steps.0;
    steps = omega arith;
  }

  pub inside-by : (d : Common) → WithinStep d → (d.nfe < 2 ^ 63) × (d.count < 2 ^ 63) × (d.rejected < 2 ^ 63)
      → Inside s d
  inside-by d q k = record {
    settings = p.settings;
    orders = q.orders;
    counters = counters-of p.settings d q (omega arith);
    steps = (q.nslp, omega (arith, q.steps, p.steps));
    counts = k;
  }

  pub prepared-range : (work : List Float) → StepInRange s (prepared_of s c work).common
  prepared-range work = range-of p.settings _ (within-prepared p.settings c within_of work)

-- ---- the work and the pivots

-- another work of the same length
pub lent_length : {n : ℕ} {work : List Float} {ipiv : List ℕ} (w : List Float) → length w ≡ length work
    → Lent n work ipiv → Lent n w ipiv
lent_length w e p = record { sized = e ∙ p.sized; pivots = p.pivots; below = p.below }
