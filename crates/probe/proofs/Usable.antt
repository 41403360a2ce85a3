-- What the tests of sizes and of a lent record tell: what the callees require. Assumes nothing.
use Prim.Native.Nat.{ℕ, ◌+◌, ◌*◌, ◌≤◌}
use mathlib.Core.Path.{◌≡◌, sym, ◌∙◌}
use mathlib.Core.Bool.{Bool, true}
use mathlib.Core.List.{List}
use native.Mathlib.Omega.{arith}
use lib.Dec.{eqb, leb}
use lib.ListN.{length, get_or}
use lib.Ieee.{Float}
use borrow.Author.Tests.{leb-true, ltb-true, eqb-true}
use Rattle.common.specs.Limits.{max_states}
use Rattle.common.specs.Layout.{ewt_at, matrix_at}
use Rattle.std.proofs.lemmas.Bool.{and_parts}
use Rattle.common.specs.declared.Settings.{Settings}
use Rattle.common.specs.declared.Common.{Common}
use Rattle.common.specs.Ranges.{StepInRange}
use Rattle.probe.specs.Lent.{lent_settings, lent_common, are_columns, in_range, are_limits, is_usable}

pub columns-fit : (n nq nqnyh len : ℕ) → are_columns n nq nqnyh len ≡ true
    → (nq ≤ 12) × (nq * n ≤ nqnyh) × (nqnyh + n ≤ len)
unfolding are_columns
columns-fit n nq nqnyh len h =
    let p = and_parts (leb nq 12) _ (and_parts (leb n max_states) _ h).1 in
    let q = and_parts (leb (nq * n) nqnyh) (leb (nqnyh + n) len) p.1 in
    (leb-true nq 12 p.0, leb-true (nq * n) nqnyh q.0, leb-true (nqnyh + n) len q.1)

pub record Usable (fs : List Float) (cs : List ℕ) (work : ℕ) : Type 0 where
  pub lists : (length fs ≡ 11) × (length cs ≡ 14)
  pub range : StepInRange (lent_settings fs cs) (lent_common fs cs)
  pub long : matrix_at (lent_settings fs cs).n ≤ work
  pub limits : ((lent_settings fs cs).mxordn ≤ 1000000) × ((lent_settings fs cs).mxords ≤ 1000000)

pub usable : (fs : List Float) (cs : List ℕ) (work : ℕ) → is_usable fs cs work ≡ true → Usable fs cs work
unfolding is_usable lent_settings lent_common are_limits in_range
usable fs cs work h =
    let p = and_parts (eqb (length fs) 11) _ h in
    let q = and_parts (eqb (length cs) 14) _ p.1 in
    let r = and_parts (are_limits (get_or cs 1 0) (get_or cs 2 0) (get_or cs 3 0) (get_or cs 11 0)) _ q.1 in
    let l1 = and_parts (leb (get_or cs 1 0) 1000000) _ r.0 in
    let l2 = and_parts (leb (get_or cs 2 0) 1000000) _ l1.1 in
    let l3 = and_parts (leb (get_or cs 3 0) 1000000) _ l2.1 in
    let n = get_or cs 0 0 in
    let r1 = and_parts (leb 1 n) _ r.1 in
    let r2 = and_parts (leb n max_states) _ r1.1 in
    let r3 = and_parts (leb 1 (get_or cs 5 0)) _ r2.1 in
    let r4 = and_parts (leb (get_or cs 10 0) 2) _ r3.1 in
    let r5 = and_parts (leb (matrix_at n) work) _ r4.1 in
    let k = columns-fit n (get_or cs 5 0) (get_or cs 7 0) (ewt_at n) r5.1 in
    record {
      lists = (eqb-true (length fs) 11 p.0, eqb-true (length cs) 14 q.0);
      range = record {
        n = (leb-true 1 n r1.0, leb-true n max_states r2.0);
        order = (leb-true 1 (get_or cs 5 0) r3.0, k.0);
        table = leb-true (get_or cs 10 0) 2 r4.0;
        used = (k.1, omega (arith, k.2));
        steps = (ltb-true (get_or cs 11 0) _ l3.1, leb-true (get_or cs 3 0) 1000000 l3.0);
      };
      long = leb-true (matrix_at n) work r5.0;
      limits = (leb-true (get_or cs 1 0) 1000000 l1.0, leb-true (get_or cs 2 0) 1000000 l2.0);
    }

module _ (fs : List Float) (cs : List ℕ) (work : ℕ) (r : Bool) (e : r ≡ is_usable fs cs work) (h : r ≡ true) where
  facts : Usable fs cs work
  facts = usable fs cs work (sym e ∙ h)

  pub floats-lent : length fs ≡ 11
  floats-lent = facts.lists.0

  pub counts-lent : length cs ≡ 14
  counts-lent = facts.lists.1

  module _ (s : Settings) (is : s ≡ lent_settings fs cs) where
    pub work-long : matrix_at s.n ≤ work
    work-long = rw is facts.long

    module _ (c : Common) (like : c ≡ lent_common fs cs) where
      pub step-in-range : StepInRange s c
      step-in-range = rw (is, like) facts.range

      pub within-range : (1 ≤ s.n) × (s.n ≤ max_states) × (c.table ≤ 2) × (1 ≤ c.nq) × (c.nq ≤ 12)
      within-range =
          let t = step-in-range in
          (t.n.0, t.n.1, t.table, t.order.0, t.order.1)

-- what a record that is taken is, for a function's attribute
pub ruleset taken = (floats-lent, counts-lent, work-long, within-range)

-- the same where the record is given by the numbers that are lent, for a function that is passed to `on_record`
module _ (fs : List Float) (cs : List ℕ) (long : ℕ) (h : is_usable fs cs long ≡ true) where
  pub lent-range : StepInRange (lent_settings fs cs) (lent_common fs cs)
  lent-range = (usable fs cs long h).range

  pub lent-long : (v w : List Float) → long ≡ length v → w ≡ v → matrix_at (lent_settings fs cs).n ≤ length w
  lent-long v w e like = rw (like, sym e) (usable fs cs long h).long

  pub lent-order : ((lent_settings fs cs).n ≤ max_states) × ((lent_common fs cs).table ≤ 2)
      × (1 ≤ (lent_common fs cs).nq) × ((lent_common fs cs).nq ≤ 12)
  lent-order = (lent-range.n.1, lent-range.table, lent-range.order.0, lent-range.order.1)

  pub lent-limits : ((lent_settings fs cs).mxordn ≤ 1000000) × ((lent_settings fs cs).mxords ≤ 1000000)
  lent-limits = (usable fs cs long h).limits

pub ruleset lent = (lent-range, lent-long, lent-order, lent-limits)
