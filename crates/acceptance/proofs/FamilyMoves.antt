-- What the family test keeps of the record and the work, way by way through its definitions.
-- Assumes nothing.
use mathlib.Core.Path.{refl}
use mathlib.Core.List.{List}
use mathlib.Core.Logic.{inr}
use Prim.Native.Nat.{◌-◌, ◌≤◌}
use native.Mathlib.Omega.{arith}
use lib.Dec.{eqb, ltb}
use lib.Ieee.{Float}
use borrow.Author.Tests.{eqb-false}
use Rattle.loops.proofs.Test.{chosen_by}
use Rattle.common.specs.declared.Settings.{Settings}
use Rattle.common.specs.declared.Common.{Common}
use Rattle.common.proofs.Ranges.{lower-orders}
use Rattle.history.specs.Steps.{adjust_of}
use Rattle.history.proofs.Laws.{length-rescale}
use Rattle.acceptance.specs.declared.family.Change.{Change}
use Rattle.acceptance.specs.declared.family.Change.TheVariants.{Stay, Gap, To}
use Rattle.acceptance.specs.declared.family.Proposal.{Proposal}
use Rattle.acceptance.specs.Family.{change_of, changed_of}
use Rattle.acceptance.proofs.ChangeOrder.{order_within, change-within}
use Rattle.acceptance.specs.declared.Branch.TheVariants.{Unchanged, CoefficientGap}
use Rattle.acceptance.proofs.OrderMoves.{Moves, moves_from, waits-moves, choose-order-moves}
use Rattle.acceptance.specs.Accept.{counted_down, keep_family_of, changed_family, tested_of, test_family_of}

module _ (s : Settings) (dsm : Float) where
  keep-moves : (c : Common) (work : List Float) → Moves s c c.ialth work (keep_family_of s c dsm work)
  unfolding keep_family_of
  keep-moves c work =
      chosen_by (Moves s c c.ialth work) (eqb (c.ialth - 1) 0)
      (λ e.
      moves_from s c c.ialth (counted_down c) work work _ refl refl refl
      (λ t l o. o) refl
      (choose-order-moves s c.ialth (counted_down c) dsm work))
      (λ e.
      let more = eqb-false (c.ialth - 1) 0 e in
      waits-moves s c c.ialth Unchanged (c.ialth - 1) work (λ h. omega (arith, more)) (omega arith))

  changed-moves : (c : Common) (to : Proposal) (work : List Float)
      → ((1 ≤ s.mxordn) × (1 ≤ s.mxords) → 1 ≤ c.nq → (1 ≤ to.order) × (to.order ≤ c.nq))
      → Moves s c c.ialth work (changed_family (changed_of s c to work))
  unfolding changed_of adjust_of
  changed-moves c to work within =
      record {
        fields = refl;
        sized = length-rescale s.n _ _ work;
        icount = inr refl;
        meth = λ n. absurd (n refl);
        ialth = λ h. omega arith;
        ialth-most = inr refl;
        orders = λ t l p. lower-orders to.order p (within l p.nq.0);
      }

  tested-moves : (c : Common) (work : List Float) (change : Change)
      → ((1 ≤ s.mxordn) × (1 ≤ s.mxords) → 1 ≤ c.nq → order_within c.nq change)
      → Moves s c c.ialth work (tested_of s c dsm work change)
  unfolding tested_of order_within
  tested-moves c work Stay within = keep-moves c work
  tested-moves c work Gap within = waits-moves s c c.ialth CoefficientGap c.ialth work (λ h. h) (omega arith)
  tested-moves c work (To to) within = changed-moves c to work within

  pub test-moves : (c : Common) (work : List Float) → Moves s c c.ialth work (test_family_of s c dsm work)
  unfolding test_family_of
  test-moves c work =
      chosen_by (Moves s c c.ialth work) (ltb c.icount 1000000)
      (λ e. tested-moves c work (change_of s c dsm work)
      (λ l q. change-within s c dsm work q l.0 l.1))
      (λ e. keep-moves c work)
