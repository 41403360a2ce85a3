-- The orders, columns and counters of a run stay in range, whatever the floats. They are taken out of the record as
-- plain numbers (`Core`), so that a change of any other field leaves the statement as it stands.
--     Within                    the ranges with `under` steps under way: icount + nst never falls below `base`, there
--                               are at most `most` steps, and ialth is at most 13, or `more` above it: 0 in a run
--     counters-of, range-of     what is asked of them between two calls, and by a step's functions
--     within-..                 what each change of the record between two passes keeps of them
-- Assumes nothing.
use mathlib.Core.Bool.{Bool, true, false}
use mathlib.Core.List.{List}
use Prim.Native.Nat.{ℕ, ◌+◌, ◌-◌, ◌^◌, ◌≤◌, ◌<◌}
use native.Mathlib.Nat.{mul-mod_left}
use native.Mathlib.Omega.{arith}
use lib.Ieee.{Float}
use Rattle.common.specs.declared.MethodFamily.{MethodFamily}
use Rattle.common.specs.declared.MethodFamily.TheVariants.{Adams, Bdf}
use Rattle.common.specs.declared.Settings.{Settings}
use Rattle.common.specs.declared.Common.{Common}
use Rattle.common.specs.Limits.{maxord_of}
use Rattle.common.specs.Record.{with_column}
use Rattle.common.specs.Rules.{first_call_init_of, reset_of}
use Rattle.common.specs.Ranges.{Accepted, Shape, shape_of, StepNumbers, step_numbers_of, Orders, Counters, StepInRange}
use Rattle.common.proofs.Ranges.{step-in-range, lower-orders, wider}
use Rattle.history.specs.Steps.{adjust_of, predicted_of}
use Rattle.between_steps.specs.Begin.{is_cut, cut_of, setup_of, prepared_at, prepared_of, predicted_at}
use Rattle.between_steps.specs.Begin.{first_prediction_of}
use Rattle.between_steps.specs.Start.{restart_of}

pub record Core : Type 0 where
  pub shape : Shape
  pub step : StepNumbers
  pub nslp : ℕ
  pub nst : ℕ

abbrev pub core_of : Common → Core
core_of c = record { shape = shape_of c; step = step_numbers_of c; nslp = c.nslp; nst = c.nst }

pub record Within (s : Settings) (base most more under : ℕ) (k : Core) : Type 0 where
  pub orders : Orders s k.shape
  pub counters : Counters s (base - k.nst) k.step
  pub ialth : k.step.ialth ≤ 13 + more
  pub nslp : k.nslp < 2 ^ 62
  pub steps : k.nst + under ≤ most

module _ {s : Settings} (acc : Accepted s) {base most more under : ℕ} (c : Common)
    (p : Within s base most more under (core_of c)) where
  -- while icount cannot have fallen below 20
  pub counters-of : 20 + most ≤ base + under → Counters s 20 (step_numbers_of c)
  counters-of h = wider (omega (arith, p.steps)) (omega arith) (omega arith) p.counters

  pub range-of : StepInRange s c
  range-of = step-in-range c acc p.orders p.nslp

  pub within-column : (j : ℕ) → j < s.n → Within s base most more under (core_of (with_column j c))
  within-column j h =
      let k = p.counters in
      record {
        orders = p.orders;
        counters =
            record { ialth = k.ialth; icount = k.icount; kflag = k.kflag; ncf = k.ncf; m = k.m; column = h };
        ialth = p.ialth;
        nslp = p.nslp;
        steps = p.steps;
      }

  -- order 1: nqnyh stays
  pub within-restart : Within s base most more under (core_of (restart_of c))
  within-restart = record {
    orders = lower-orders 1 p.orders (omega arith, p.orders.nq.0);
    counters = p.counters;
    ialth = p.ialth;
    nslp = p.nslp;
    steps = p.steps;
  }

  within-cut : (work : List Float) → Within s base most more under (core_of (cut_of s c work).common)
  unfolding cut_of adjust_of
  within-cut work =
      let k = p.counters in
      record {
        orders = p.orders;
        counters = record {
          ialth = omega arith;
          icount = k.icount;
          kflag = k.kflag;
          ncf = k.ncf;
          m = k.m;
          column = k.column;
        };
        ialth = omega (arith, p.orders.nq);
        nslp = p.nslp;
        steps = p.steps;
      }

  maxord-range : (f : MethodFamily) → (1 ≤ maxord_of s f) × (maxord_of s f ≤ 12)
  maxord-range Adams = (omega (arith, acc.mxordn), omega arith)
  maxord-range Bdf = (omega (arith, acc.mxords), omega arith)

  within-setup : Within s base most more under (core_of (setup_of s c))
  unfolding setup_of reset_of first_call_init_of
  within-setup =
      let q = maxord-range c.meth in
      let k = p.counters in
      record {
        orders = record {
          nq = omega arith;
          lmax = (omega (arith, q), omega (arith, q), omega (arith, q));
          nqnyh = (mul-mod_left 1 s.n, omega arith, omega arith);
          table = omega arith;
        };
        counters = record {
          ialth = omega arith;
          icount = (omega (arith, k.icount), omega arith);
          kflag = k.kflag;
          ncf = k.ncf;
          m = k.m;
          column = k.column;
        };
        ialth = omega arith;
        nslp = omega arith;
        steps = p.steps;
      }

  prepared-at : (work : List Float) (cut due : Bool)
      → Within s base most more under (core_of (prepared_at s cut due c work).common)
  unfolding prepared_at
  prepared-at work true due = within-cut work
  prepared-at work false true = within-setup
  prepared-at work false false = p

  pub within-prepared : (work : List Float) → Within s base most more under (core_of (prepared_of s c work).common)
  unfolding prepared_of
  within-prepared work = prepared-at work (is_cut s c) c.setup

  -- a step begins with no failure
  pub within_first : (work : List Float) → Within s base most more under (core_of (first_prediction_of s c work).common)
  unfolding first_prediction_of predicted_at predicted_of
  within_first work =
      let q = within-prepared work in
      let k = q.counters in
      record {
        orders = q.orders;
        counters = record {
          ialth = k.ialth;
          icount = k.icount;
          kflag = omega arith;
          ncf = omega arith;
          m = k.m;
          column = k.column;
        };
        ialth = q.ialth;
        nslp = q.nslp;
        steps = q.steps;
      }

  pub within-another : c.nst + 1 ≤ most → Within s base most more 1 (core_of c)
  within-another h =
      record { orders = p.orders; counters = p.counters; ialth = p.ialth; nslp = p.nslp; steps = h }
