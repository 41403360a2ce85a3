-- An accepted step keeps the record's floats of the format: the family test, the order choice and what they lead to.
-- Assumes nothing.
use mathlib.Core.Bool.{◌||◌}
use mathlib.Core.List.{List}
use Prim.Native.Nat.{ℕ, ◌+◌, ◌-◌}
use lib.Dec.{eqb, ltb}
use lib.Ieee as Ieee
use lib.Ieee.{Float}
use Rattle.loops.proofs.Test.{chosen}
use Rattle.numbers.specs.Float.{d1_1}
use Rattle.common.specs.declared.Settings.{Settings}
use Rattle.common.specs.declared.Common.{Common}
use Rattle.common.specs.Record.{is_bdf, with_nq}
use Rattle.history.specs.Columns.{correct_columns_of}
use Rattle.acceptance.specs.declared.family.Change.{Change}
use Rattle.acceptance.specs.declared.family.Change.TheVariants.{Stay, Gap, To}
use Rattle.acceptance.specs.declared.family.Proposal.{Proposal}
use Rattle.acceptance.specs.Family.{change_of, changed_of}
use Rattle.acceptance.specs.declared.Branch.{Branch}
use Rattle.acceptance.specs.declared.order.Factors.{Factors}
use Rattle.acceptance.specs.Order.{Settled, held_of, at_order, settle_of, raise_of, lower_of, same_largest, choose_of}
use Rattle.acceptance.specs.Order.{forgotten_of, factors_of, limited_factors_of, raised_left_of, choose_order_of}
use Rattle.acceptance.specs.Accept.{corrected_of, counted_down, keep_family_of, tested_of, test_family_of, accept_of}
use Rattle.session.proofs.Fits.{Fit}
use Rattle.invariants.proofs.Floats.{literal}
use Rattle.invariants.proofs.Records.{CommonFits, put-hu, put-pdest, put-pdlast}
use Rattle.invariants.proofs.Steps.{reset-fits, adjust-fits}

abbrev SettledFits : Settled → Type 0
SettledFits x = CommonFits x.common

module _ (s : Settings) where
  at-order : (c : Common) (q : ℕ) → CommonFits c → CommonFits (at_order s c q)
  at-order c q f = chosen CommonFits (eqb q c.nq) f (reset-fits s (with_nq q c) f)

  settled-fits : (c : Common) (p : Proposal) (branch : Branch) (work : List Float) → CommonFits c
      → SettledFits (settle_of s c p branch work)
  unfolding settle_of
  settled-fits c p branch work f =
      chosen SettledFits (held_of c p) f
      (chosen SettledFits (Ieee.lt p.rh d1_1) f (adjust-fits s _ _ (at-order c p.order f)))

  raise-fits : (c : Common) (up : Float) (work : List Float) → CommonFits c → SettledFits (raise_of s c up work)
  unfolding raise_of
  raise-fits c up work f =
      chosen SettledFits (eqb (c.nq + 1) c.lmax || Ieee.lt up d1_1) f (settled-fits c _ _ _ f)

  lower-fits : (c : Common) (down : Float) (work : List Float) → CommonFits c → SettledFits (lower_of s c down work)
  unfolding lower_of
  lower-fits c down work f = chosen SettledFits (eqb c.nq 1) f (settled-fits c _ _ work f)

  choose-fits : (c : Common) (x : Factors) (work : List Float) → CommonFits c → SettledFits (choose_of s c x work)
  unfolding choose_of
  choose-fits c x work f =
      chosen SettledFits (same_largest x) (settled-fits c _ _ work f)
      (chosen SettledFits (Ieee.lt x.down x.up) (raise-fits c x.up work f) (lower-fits c x.down work f))

  choose-order : (c : Common) (dsm : Float) (work : List Float) → CommonFits c
      → SettledFits (choose_order_of s c dsm work)
  unfolding choose_order_of
  choose-order c dsm work f =
      choose-fits (forgotten_of c) (limited_factors_of c (factors_of s c dsm work)) (raised_left_of s c work)
      (put-pdest (chosen Fit (is_bdf c.meth) f.pdest (literal _)) f)

  keep-family : (c : Common) (dsm : Float) (work : List Float) → CommonFits c
      → SettledFits (keep_family_of s c dsm work)
  unfolding keep_family_of
  keep-family c dsm work f =
      chosen SettledFits (eqb (c.ialth - 1) 0) (choose-order (counted_down c) dsm work f) f

  changed-fits : (c : Common) (to : Proposal) (work : List Float) → CommonFits c
      → CommonFits (changed_of s c to work).common
  unfolding changed_of
  changed-fits c to work f = adjust-fits s _ to.rh (put-pdlast (literal _) f)

  tested-fits : (c : Common) (dsm : Float) (work : List Float) (change : Change) → CommonFits c
      → SettledFits (tested_of s c dsm work change)
  unfolding tested_of
  tested-fits c dsm work Stay f = keep-family c dsm work f
  tested-fits c dsm work Gap f = f
  tested-fits c dsm work (To to) f = changed-fits c to work f

  test-family : (c : Common) (dsm : Float) (work : List Float) → CommonFits c
      → SettledFits (test_family_of s c dsm work)
  unfolding test_family_of
  test-family c dsm work f =
      chosen SettledFits (ltb c.icount 1000000)
      (tested-fits c dsm work (change_of s c dsm work) f) (keep-family c dsm work f)

  pub accept-fits : (c : Common) (dsm : Float) (work : List Float) → CommonFits c
      → CommonFits (accept_of s c dsm work).common
  unfolding accept_of corrected_of
  accept-fits c dsm work f = test-family (corrected_of c) dsm (correct_columns_of s c work) (put-hu f.h f)
