-- What the proofs pass on: a change of family goes to an order from 1 to the one in force (`change-within`, and
-- `change_order` for an attribute).
-- Assumes nothing.
use mathlib.Core.Path.{◌≡◌, refl}
use mathlib.Core.Bool.{Bool, true, false, cond}
use mathlib.Core.List.{List}
use Prim.Native.Nat.{ℕ, ◌≤◌}
use native.Mathlib.Omega.{arith}
use lib.Dec.{leb, ltb}
use lib.Ieee.{Float}
use borrow.Author.Tests.{leb-false, ltb-true}
use Rattle.common.specs.declared.Settings.{Settings}
use Rattle.common.specs.declared.Common.{Common}
use Rattle.common.specs.declared.MethodFamily.{MethodFamily}
use Rattle.common.specs.declared.MethodFamily.TheVariants.{Adams, Bdf}
use Rattle.common.specs.Limits.{mxordn_of, mxords_of}
use Rattle.acceptance.specs.declared.family.Change.{Change}
use Rattle.acceptance.specs.declared.family.Change.TheVariants.{Stay, Gap, To}
use Rattle.acceptance.specs.declared.family.Proposal.{Proposal}
use Rattle.acceptance.specs.Family.{bdf_proposal_of, adams_proposal_of, move_if, to_bdf_of, to_adams_at, to_adams_of}
use Rattle.acceptance.specs.Family.{change_in, change_of}

-- ---- the order of a change

-- the smaller of the order in force and a family's limit
smaller : (q m : ℕ) (b : Bool) → leb q m ≡ b → 1 ≤ q → 1 ≤ m → (1 ≤ cond b q m) × (cond b q m ≤ q)
smaller q m true e h k = (h, omega arith)
smaller q m false e h k = (k, omega (arith, leb-false q m e))

picked : (q m : ℕ) (b : Bool) (p r : Proposal) → ltb m q ≡ b → p.order ≡ m → r.order ≡ q → 1 ≤ q → 1 ≤ m
    → (1 ≤ (cond b p r).order) × ((cond b p r).order ≤ q)
picked q m true p r e i j h k = (omega arith, omega (arith, ltb-true m q e))
picked q m false p r e i j h k = (omega arith, omega arith)

module _ (s : Settings) (c : Common) (dsm : Float) (work : List Float) (one : 1 ≤ c.nq) where
  pub adams-order : 1 ≤ s.mxordn
      → let p = (adams_proposal_of s c dsm work).proposal in (1 ≤ p.order) × (p.order ≤ c.nq)
  unfolding adams_proposal_of
  adams-order limit = smaller c.nq (mxordn_of s) _ refl one (omega arith)

  bdf-order : 1 ≤ s.mxords
      → (1 ≤ (bdf_proposal_of s c dsm work).order) × ((bdf_proposal_of s c dsm work).order ≤ c.nq)
  unfolding bdf_proposal_of
  bdf-order limit = picked c.nq (mxords_of s) _ _ _ refl refl refl one (omega arith)

-- a change goes to an order from 1 to q
unfoldable pub order_within : ℕ → Change → Type 0
order_within q Stay = 0 ≤ q
order_within q Gap = 0 ≤ q
order_within q (To m) = (1 ≤ m.order) × (m.order ≤ q)

move-within : (b : Bool) (c : Common) (rh : Float) (order : ℕ) → (1 ≤ order) × (order ≤ c.nq)
    → order_within c.nq (move_if b c rh order)
unfolding order_within move_if
move-within true c rh order h = h
move-within false c rh order h = omega arith

module _ (s : Settings) (c : Common) (dsm : Float) (work : List Float) (one : 1 ≤ c.nq)
    (adams : 1 ≤ s.mxordn) (bdf : 1 ≤ s.mxords) where
  to-bdf-within : order_within c.nq (to_bdf_of s c dsm work)
  unfolding to_bdf_of
  to-bdf-within = move-within _ c _ _ (bdf-order s c dsm work one bdf)

  to-adams-within : (b : Bool) → order_within c.nq (cond b Gap (to_adams_at c dsm (adams_proposal_of s c dsm work)))
  unfolding order_within
  to-adams-within true = omega arith
  to-adams-within false = move-within _ c _ _ (adams-order s c dsm work one adams)

  change-in-within : (m : MethodFamily) → order_within c.nq (change_in m s c dsm work)
  unfolding to_adams_of
  change-in-within Adams = to-bdf-within
  change-in-within Bdf = to-adams-within (ltb 5 c.nq)

  pub change-within : order_within c.nq (change_of s c dsm work)
  unfolding change_of
  change-within = change-in-within c.meth

  pub change_order : (to : Proposal) → change_of s c dsm work ≡ To to → (1 ≤ to.order) × (to.order ≤ c.nq)
  unfolding order_within
  change_order to e = rw e at change-within
