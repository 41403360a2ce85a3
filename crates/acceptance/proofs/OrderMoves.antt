-- What the order choice keeps of the record and the work, way by way through its definitions.
-- Assumes nothing.
use mathlib.Core.Path.{◌≡◌, refl, ap, ◌∙◌}
use mathlib.Core.Bool.{◌||◌}
use mathlib.Core.List.{List}
use mathlib.Core.Logic.{◌⊎◌, inl, inr}
use Prim.Native.Nat.{ℕ, ◌+◌, ◌≤◌, max}
use native.Mathlib.Omega.{arith}
use lib.Dec.{eqb}
use lib.ListN.{length, length-set}
use lib.Ieee as Ieee
use lib.Ieee.{Float}
use borrow.Author.Tests.{eqb-false}
use Rattle.std.proofs.lemmas.Bool.{or_parts}
use Rattle.loops.proofs.Stores.{length-for}
use Rattle.loops.proofs.Test.{chosen_by}
use Rattle.numbers.specs.Float.{d1_1}
use Rattle.numbers.specs.Order.{max_of}
use Rattle.common.specs.declared.Settings.{Settings}
use Rattle.common.specs.declared.Common.{Common}
use Rattle.common.specs.Record.{with_h, with_hu, with_rc, with_el0, with_conit, with_pdest, with_pdlast, with_meth}
use Rattle.common.specs.Record.{with_nq, with_nqnyh, with_ialth, with_icount}
use Rattle.common.specs.Rules.{reset_of, icount20}
use Rattle.common.specs.Ranges.{shape_of, OrdersTo}
use Rattle.common.proofs.Ranges.{reset-orders}
use Rattle.history.specs.Steps.{least_of, limited_of, adjust_of}
use Rattle.history.proofs.Laws.{length-rescale}
use Rattle.acceptance.specs.declared.family.Proposal.{Proposal}
use Rattle.acceptance.specs.declared.Branch.{Branch}
use Rattle.acceptance.specs.declared.Branch.TheVariants.{SmallGain, Lowered, Kept, Raised, HeldBySm1}
use Rattle.acceptance.specs.declared.Branch.TheVariants.{FamilyChanged}
use Rattle.acceptance.specs.declared.order.Factors.{Factors}
use Rattle.acceptance.specs.Order.{Settled, raised_at, raised_work_of, raised_left_of, held_of, waits_of}
use Rattle.acceptance.specs.Order.{order_taken_of}
use Rattle.acceptance.specs.Order.{settle_of, raise_column_at, raise_column_of, raise_of, lower_of, same_largest}
use Rattle.acceptance.specs.Order.{choose_of, forgotten_of, choose_order_of}

-- c with what the tests of an accepted step may move taken from d
abbrev pub tests_moved : Common → Common → Common
tests_moved d c =
    with_h d.h
    (with_hu d.hu
    (with_rc d.rc
    (with_el0 d.el0
    (with_conit d.conit
    (with_pdest d.pdest
    (with_pdlast d.pdlast
    (with_meth d.meth
    (with_nq d.nq
    (with_nqnyh d.nqnyh
    (with_ialth d.ialth
    (with_icount d.icount c)))))))))))

-- orders and columns stay in range, whatever the greatest table, where the orders of both families may be 1
abbrev pub OrdersKept : Settings → Common → Common → Type 0
OrdersKept s c d = (tables : ℕ) → (1 ≤ s.mxordn) × (1 ≤ s.mxords) → OrdersTo s tables (shape_of c)
    → OrdersTo s tables (shape_of d)

-- what the tests keep of the record c and the work; k is what ialth was before it was counted down
pub record Moves (s : Settings) (c : Common) (k : ℕ) (work : List Float) (r : Settled) : Type 0 where
  pub fields : r.common ≡ tests_moved r.common c
  pub sized : length r.work ≡ length work
  pub icount : (r.common.icount ≡ c.icount) ⊎ (r.common.icount ≡ icount20)
  pub meth : (r.branch ≡ FamilyChanged → ⊥) → r.common.meth ≡ c.meth
  pub ialth : 1 ≤ k → 1 ≤ r.common.ialth
  pub ialth-most : (r.common.ialth ≤ max k 3) ⊎ (r.common.ialth ≡ r.common.nq + 1)
  pub orders : OrdersKept s c r.common

-- ---- the order choice

module _ (s : Settings) (c : Common) (k : ℕ) where
  -- from a record and a work that the tests may have come from
  pub moves_from : (d : Common) (work w : List Float) (r : Settled) → d ≡ tests_moved d c → d.icount ≡ c.icount
      → d.meth ≡ c.meth → OrdersKept s c d → length w ≡ length work → Moves s d k w r → Moves s c k work r
  moves_from d work w r e i m p l q =
      record {
        fields = q.fields ∙ ap (tests_moved r.common) e;
        sized = q.sized ∙ l;
        icount = rw i at q.icount;
        meth = λ n. q.meth n ∙ m;
        ialth = q.ialth;
        ialth-most = q.ialth-most;
        orders = λ t l o. q.orders t l (p t l o);
      }

  -- ialth alone is another
  pub waits-moves : (branch : Branch) (v : ℕ) (work : List Float) → (1 ≤ k → 1 ≤ v) → v ≤ max k 3
      → Moves s c k work (record { branch = branch; common = with_ialth v c; work = work })
  waits-moves branch v work h most =
      record {
        fields = refl;
        sized = refl;
        icount = inl refl;
        meth = λ n. refl;
        ialth = h;
        ialth-most = inl most;
        orders = λ t l p. p;
      }

  three : (branch : Branch) (work : List Float) → Moves s c k work (waits_of branch c work)
  three branch work = waits-moves branch 3 work (λ h. omega arith) (omega arith)

  taken-moves : (rh : Float) (branch : Branch) (work : List Float)
      → Moves s c k work (order_taken_of s c rh branch work)
  unfolding adjust_of
  taken-moves rh branch work =
      record {
        fields = refl;
        sized = length-rescale s.n (c.nq + 1) (limited_of c rh) work;
        icount = inl refl;
        meth = λ n. refl;
        ialth = λ h. omega arith;
        ialth-most = inr refl;
        orders = λ t l p. p;
      }

module _ (s : Settings) (k : ℕ) where
  settled-moves : (c : Common) (p : Proposal) (branch : Branch) (work : List Float)
      → ((tables : ℕ) → OrdersTo s tables (shape_of c) → (1 ≤ p.order) × (p.order + 1 ≤ c.lmax))
      → Moves s c k work (settle_of s c p branch work)
  unfolding settle_of reset_of
  settled-moves c p branch work within =
      let rh = max_of p.rh (least_of c) in
      let other = reset_of s (with_nq p.order c) in
      let to-other =
      moves_from s c k other work work _ refl refl refl (λ t l o. reset-orders p.order o (within t o)) refl
      (taken-moves s other k rh branch work)
      in
      let taken = chosen_by (λ d. Moves s c k work (order_taken_of s d rh branch work)) (eqb p.order c.nq)
      (λ e. taken-moves s c k rh branch work) (λ e. to-other)
      in
      chosen_by (Moves s c k work) (held_of c p) (λ e. three s c k HeldBySm1 work)
      (λ e. chosen_by (Moves s c k work) (Ieee.lt p.rh d1_1) (λ e. three s c k SmallGain work) (λ e. taken))

  length-raise-column : (n j : ℕ) (r : Float) (work : List Float) → length (raise_column_of n j r work) ≡ length work
  unfolding raise_column_of
  length-raise-column n j r work = length-for (raise_column_at n j r) 0 n work (λ i t. simp length-set)

  raise-moves : (c : Common) (up : Float) (work : List Float) → Moves s c k work (raise_of s c up work)
  unfolding raise_of
  raise-moves c up work =
      let last = eqb (c.nq + 1) c.lmax in
      let small = Ieee.lt up d1_1 in
      chosen_by (Moves s c k work) (last || small) (λ e. three s c k SmallGain work)
      (λ e.
      let more = eqb-false (c.nq + 1) c.lmax (or_parts last small e).0 in
      moves_from s c k c work _ _ refl refl refl (λ t l o. o) (length-raise-column s.n (c.nq + 1) _ work)
      (settled-moves c _ Raised _ (λ t o. (omega arith, omega (arith, more, o.lmax)))))

  lower-moves : (c : Common) (down : Float) (work : List Float) → Moves s c k work (lower_of s c down work)
  unfolding lower_of
  lower-moves c down work =
      chosen_by (Moves s c k work) (eqb c.nq 1) (λ e. three s c k SmallGain work)
      (λ e.
      let more = eqb-false c.nq 1 e in
      settled-moves c _ Lowered work (λ t o. (omega (arith, more, o.nq), omega (arith, o.lmax))))

  choose-moves : (c : Common) (f : Factors) (work : List Float) → Moves s c k work (choose_of s c f work)
  unfolding choose_of
  choose-moves c f work =
      chosen_by (Moves s c k work) (same_largest f)
      (λ e. settled-moves c _ Kept work (λ t o. (o.nq.0, o.lmax.2)))
      (λ e. chosen_by (Moves s c k work) (Ieee.lt f.down f.up) (λ e. raise-moves c f.up work)
      (λ e. lower-moves c f.down work))

  length-raised-left : (c : Common) (work : List Float) → length (raised_left_of s c work) ≡ length work
  unfolding raised_left_of raised_work_of
  length-raised-left c work =
      chosen_by (λ (l : List Float). length l ≡ length work) (eqb (c.nq + 1) c.lmax) (λ e. refl)
      (λ e. length-for (raised_at s.n c.lmax) 0 s.n work (λ i t. simp length-set))

  pub choose-order-moves : (c : Common) (dsm : Float) (work : List Float)
      → Moves s c k work (choose_order_of s c dsm work)
  unfolding choose_order_of
  choose-order-moves c dsm work =
      moves_from s c k (forgotten_of c) work (raised_left_of s c work) _ refl refl refl
      (λ t l o. o) (length-raised-left c work)
      (choose-moves (forgotten_of c) _ _)
