-- What callers need of the definitions: each keeps the length of the list, predict and retract leave every number
-- from nqnyh on, and a prediction and another order keep what a step's functions ask of the record (`StepInRange`).
-- Assumes nothing.
use mathlib.Core.Path.{◌≡◌, refl, ◌∙◌}
use mathlib.Core.List.{List}
use Prim.Native.Nat.{ℕ, ◌+◌, ◌*◌, ◌<◌, ◌≤◌}
use native.Mathlib.Nat.{mul-le-mul_right}
use native.Mathlib.Omega.{arith}
use lib.ListN.{length, get_or, length-set, replicate, length-replicate}
use lib.Seq.{get_or-set_other}
use lib.Ieee.{Float, nan}
use borrow.Rule.Slice.PartMut.{same_len_mid}
use Rattle.loops.proofs.For.{keeps, always}
use Rattle.loops.proofs.Stores.{length-for}
use Rattle.loops.specs.Part.{part}
use Rattle.loops.proofs.Part.{length-put_part}
use Rattle.numbers.specs.Float.{◌⊕◌, ◌⊖◌, ◌⊗◌}
use Rattle.common.specs.declared.Settings.{Settings}
use Rattle.common.specs.declared.Common.{Common}
use Rattle.common.specs.Record.{with_nq}
use Rattle.common.specs.Rules.{reset_of}
use Rattle.history.specs.Columns.{sweep_at, sweep_of, passes_of, predict_columns_of, retract_columns_of, times_at}
use Rattle.history.specs.Columns.{times_of, Rescaled, rescale_at}
use Rattle.history.specs.Columns.{rescale_columns_of, add_scaled_at, add_scaled_of, correct_at, correct_columns_of}
use Rattle.history.specs.Columns.{copy_at, copy_of, slope_at, slope_of, fill_of, scale_part_of}
use Rattle.common.specs.Ranges.{StepInRange}
use Rattle.history.specs.Steps.{predicted_of, adjust_of}

-- the passes of predict and retract, which differ in op
module _ (op : Float → Float → Float) (n nqnyh : ℕ) where
  length-passes : (nq : ℕ) (yh : List Float) → length (passes_of op n nq nqnyh yh) ≡ length yh
  length-passes nq yh = length-for _ 0 nq yh (λ k s. length-for _ _ nqnyh s (λ i t. simp length-set))

  same-pass : (a i : ℕ) (yh : List Float) → a ≤ nqnyh → nqnyh ≤ i
      → get_or (sweep_of op n a nqnyh yh) i nan ≡ get_or yh i nan
  same-pass a i yh begins beyond =
      let one : (k : ℕ) (t : List Float) → k < nqnyh → get_or (sweep_at op n k t) i nan ≡ get_or t i nan =
      λ k t below. get_or-set_other t k i _ nan (λ e. omega arith)
      in
      keeps (λ t. get_or t i nan ≡ get_or yh i nan) _ nqnyh (λ k t below p. one k t below ∙ p) a yh begins refl

  same-passes : (nq i : ℕ) (yh : List Float) → nqnyh ≤ i → get_or (passes_of op n nq nqnyh yh) i nan ≡ get_or yh i nan
  same-passes nq i yh beyond =
      always (λ s. get_or s i nan ≡ get_or yh i nan) _ 0 nq yh (λ k s p. same-pass _ i s (omega arith) beyond ∙ p) refl

module _ (n nq nqnyh : ℕ) (yh : List Float) where
  pub length-predict : length (predict_columns_of n nq nqnyh yh) ≡ length yh
  unfolding predict_columns_of
  length-predict = length-passes ◌⊕◌ n nqnyh nq yh

  pub same-predict : (i : ℕ) → nqnyh ≤ i → get_or (predict_columns_of n nq nqnyh yh) i nan ≡ get_or yh i nan
  unfolding predict_columns_of
  same-predict i beyond = same-passes ◌⊕◌ n nqnyh nq i yh beyond

  pub length-retract : length (retract_columns_of n nq nqnyh yh) ≡ length yh
  unfolding retract_columns_of
  length-retract = length-passes ◌⊖◌ n nqnyh nq yh

  pub same-retract : (i : ℕ) → nqnyh ≤ i → get_or (retract_columns_of n nq nqnyh yh) i nan ≡ get_or yh i nan
  unfolding retract_columns_of
  same-retract i beyond = same-passes ◌⊖◌ n nqnyh nq i yh beyond

length-scale : (r : Float) (v : List Float) → length (times_of r v) ≡ length v
length-scale r v = length-for (times_at r) 0 (length v) v (λ i t. simp length-set)

pub length-scale-part : (n at : ℕ) (r : Float) (work : List Float) → length (scale_part_of n at r work) ≡ length work
unfolding scale_part_of
length-scale-part n at r work = same_len_mid at n work (times_of r (part at n work)) (length-scale r (part at n work))

pub length-rescale : (n l : ℕ) (rh : Float) (yh : List Float) → length (rescale_columns_of n l rh yh) ≡ length yh
unfolding rescale_columns_of
length-rescale n l rh yh =
    let kept : Rescaled → Type 0 = λ s. length s.yh ≡ length yh in
    always kept (rescale_at n rh) 1 l _ (λ j s p. length-scale-part n (j * n) (s.r ⊗ rh) s.yh ∙ p) refl

length-add-scaled : (n j : ℕ) (e : Float) (at : ℕ) (l : List Float) → length (add_scaled_of n j e at l) ≡ length l
unfolding add_scaled_of
length-add-scaled n j e at l = length-for (add_scaled_at n j e at) 0 n l (λ i t. simp length-set)

pub length-correct : (s : Settings) (c : Common) (work : List Float)
    → length (correct_columns_of s c work) ≡ length work
unfolding correct_columns_of
length-correct s c work = length-for (correct_at s c) 0 (c.nq + 1) work (λ j t. length-add-scaled s.n j _ _ t)

pub length-copy : (n to from : ℕ) (work : List Float) → length (copy_of n to from work) ≡ length work
unfolding copy_of
length-copy n to from work = length-for (copy_at to from) 0 n work (λ i t. simp length-set)

pub length-slope : (n : ℕ) (h : Float) (work : List Float) → length (slope_of n h work) ≡ length work
unfolding slope_of
length-slope n h work = length-for (slope_at n h) 0 n work (λ i t. simp length-set)

pub length-fill : (n at : ℕ) (x : Float) (work : List Float) → at + n ≤ length work
    → length (fill_of n at x work) ≡ length work
unfolding fill_of
length-fill n at x work h = length-put_part at n work h (replicate n x) (length-replicate n x)

-- a record with the same order, table and places is in range where the other is
pub same-range : {s : Settings} {c : Common} (d : Common)
    → d.nq ≡ c.nq → d.table ≡ c.table → d.nqnyh ≡ c.nqnyh → d.nslp ≡ c.nslp → StepInRange s c → StepInRange s d
same-range d nq table nqnyh nslp p =
    record {
      n = p.n;
      order = rw nq p.order;
      table = rw table p.table;
      used = rw (nq, nqnyh) p.used;
      steps = rw nslp p.steps;
    }

-- a record with a lower order, and otherwise the same places
pub lower-range : {s : Settings} {c : Common} (d : Common) (q : ℕ)
    → d.nq ≡ q → d.table ≡ c.table → d.nqnyh ≡ c.nqnyh → d.nslp ≡ c.nslp
    → 1 ≤ q → q ≤ c.nq → StepInRange s c → StepInRange s d
lower-range {s} {c} d q nq table nqnyh nslp one below p =
    record {
      n = p.n;
      order = rw nq (one, omega (arith, p.order));
      table = rw table p.table;
      used = rw (nq, nqnyh) (omega (arith, mul-le-mul_right s.n below, p.used), p.used.1);
      steps = rw nslp p.steps;
    }

-- a record with an order from 1 to 12 whose places are those of that order
pub own-range : {s : Settings} {c : Common} (d : Common) → StepInRange s c
    → 1 ≤ d.nq → d.nq ≤ 12 → d.table ≡ c.table → d.nqnyh ≡ d.nq * s.n → d.nslp ≡ c.nslp → StepInRange s d
own-range {s} d p one most table nqnyh nslp =
    record {
      n = p.n;
      order = (one, most);
      table = rw table p.table;
      used = rw nqnyh (omega arith, mul-le-mul_right s.n most);
      steps = rw nslp p.steps;
    }

-- as after a reset
pub reset-range : {s : Settings} {c : Common} (q : ℕ) → 1 ≤ q → q ≤ 12 → StepInRange s c
    → StepInRange s (reset_of s (with_nq q c))
unfolding reset_of
reset-range q one most p = own-range _ p one most refl refl refl

pub in-range-predicted : (s : Settings) (c : Common) → StepInRange s c → StepInRange s (predicted_of s c)
unfolding predicted_of
in-range-predicted s c p = same-range _ refl refl refl refl p

pub in-range-adjust : (s : Settings) (c : Common) (rh : Float) → StepInRange s c → StepInRange s (adjust_of c rh)
unfolding adjust_of
in-range-adjust s c rh p = same-range _ refl refl refl refl p

-- for a function's attribute: the range of a record that a step's function is given
pub ruleset in_range = (same-range, own-range)
