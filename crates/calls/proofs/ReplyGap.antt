-- The coefficient gap, where a step is accepted: when it comes is said by the rules (`step-said`), here what it leaves.
--     gap          of any record and work
--     gap-held     what holds of the record that the gap leaves
-- Assumes nothing.
use mathlib.Core.List.{List}
use mathlib.Core.Path.{◌≡◌}
use Prim.Native.Nat.{ℕ, ◌-◌, ◌≤◌, ◌<◌}
use lib.Ieee.{Float}
use borrow.Author.Tests.{lt-ltb}
use Rattle.common.specs.declared.MethodFamily.TheVariants.{Bdf}
use Rattle.common.specs.declared.Settings.{Settings}
use Rattle.common.specs.declared.Common.{Common}
use Rattle.common.specs.State.{given, state}
use Rattle.history.specs.Columns.{correct_columns_of}
use Rattle.acceptance.specs.Family.{to_adams_of, change_of}
use Rattle.acceptance.specs.declared.Branch.{Branch}
use Rattle.acceptance.specs.Accept.{corrected_of, took_branch, tested_of, test_family_of, accept_of}
use Rattle.between_steps.specs.declared.Status.TheVariants as Status
use Rattle.questions.specs.Turns.{finished_of}
use Rattle.passes.specs.Pass.{accepted_at, accepted_of}
use Rattle.rules.proofs.Said.{step-said}
use Rattle.calls.specs.ReplyMeans.{GapExactly}

module _ (s : Settings) (c : Common) (dsm : Float) (work : List Float) where
  abbrev Meets : Type 0
  Meets = (c.meth ≡ Bdf) × (6 ≤ c.nq) × (c.icount - 1 < 1000000)

  abbrev branch : Branch
  branch = (accept_of s c dsm work).branch

  meets : branch ≡ Branch.CoefficientGap → Meets
  meets = (step-said.gap s c dsm work).gap.0

  -- what the gap leaves
  gap-leaves : Meets
      → accept_of s c dsm work ≡ took_branch Branch.CoefficientGap (corrected_of c) (correct_columns_of s c work)
  unfolding accept_of test_family_of corrected_of change_of to_adams_of tested_of
  gap-leaves m = rw (m.0, lt-ltb 5 c.nq m.1, lt-ltb (c.icount - 1) 1000000 m.2)

  pub gap-held : branch ≡ Branch.CoefficientGap
      → let d = (accept_of s c dsm work).common in (d.meth ≡ Bdf) × (6 ≤ d.nq) × (d.icount < 1000000)
  unfolding corrected_of
  gap-held e = let m = meets e in rw (gap-leaves m) m

  ends : (rtol atol : List Float) (pivots : List ℕ) → branch ≡ Branch.CoefficientGap
      → (accepted_of (given s rtol atol) (state c work pivots) dsm).question
      ≡ (finished_of (corrected_of c) Status.CoefficientGap).question
  unfolding accepted_of accepted_at
  ends rtol atol pivots e = rw (gap-leaves (meets e))

  pub gap : GapExactly s c dsm work
  unfolding finished_of corrected_of
  gap = record { exactly = (step-said.gap s c dsm work).gap; ends = ends }
