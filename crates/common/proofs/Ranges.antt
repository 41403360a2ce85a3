-- Orders, columns and counters in range.
--     step-in-range                   what a step's functions ask follows
--     lower-orders, reset-orders      another order keeps them
--     wider, counts-wider             wider bounds hold
-- Assumes nothing.
use Prim.Native.Nat.{ℕ, ◌+◌, ◌*◌, ◌^◌, ◌≤◌, ◌<◌}
use native.Mathlib.Nat.{mul-le-mul_right, mul-mod_left}
use native.Mathlib.Omega.{arith}
use Rattle.common.specs.declared.Settings.{Settings}
use Rattle.common.specs.declared.Common.{Common}
use Rattle.common.specs.Ranges.{Accepted, Counts, Shape, shape_of, StepNumbers, OrdersTo, Orders, CountersTo}
use Rattle.common.specs.Ranges.{StepInRange}

pub step-in-range : {s : Settings} (c : Common) → Accepted s → Orders s (shape_of c) → c.nslp < 2 ^ 62
    → StepInRange s c
step-in-range c a p few = record {
  n = a.n;
  order = p.nq;
  table = omega (arith, p.table);
  used = (p.nqnyh.1, p.nqnyh.2);
  steps = (few, a.msbp);
}

module _ {s : Settings} {tables : ℕ} {k : Shape} (q : ℕ) (p : OrdersTo s tables k) where
  -- at a lower order nqnyh stays
  pub lower-orders : (1 ≤ q) × (q ≤ k.nq)
      → OrdersTo s tables (record { nq = q; lmax = k.lmax; nqnyh = k.nqnyh; table = k.table })
  lower-orders h = record {
    nq = (h.0, omega (arith, h, p.nq));
    lmax = (p.lmax.0, p.lmax.1, omega (arith, h, p.lmax));
    nqnyh = (p.nqnyh.0, omega (arith, mul-le-mul_right s.n h.1, p.nqnyh.1), p.nqnyh.2);
    table = p.table;
  }

  -- after a reset nqnyh is that of the new order
  pub reset-orders : (1 ≤ q) × (q + 1 ≤ k.lmax)
      → OrdersTo s tables (record { nq = q; lmax = k.lmax; nqnyh = q * s.n; table = k.table })
  reset-orders h = record {
    nq = (h.0, omega (arith, h, p.lmax));
    lmax = (p.lmax.0, p.lmax.1, h.1);
    nqnyh = (mul-mod_left q s.n, omega arith, mul-le-mul_right s.n (omega (arith, h, p.lmax)));
    table = p.table;
  }

pub wider : {s : Settings} {k : StepNumbers} {i1 f1 n1 i2 f2 n2 : ℕ} → i2 ≤ i1 → f1 ≤ f2 → n1 ≤ n2
    → CountersTo s i1 f1 n1 k → CountersTo s i2 f2 n2 k
wider i f n p = record {
  ialth = p.ialth;
  icount = (omega (arith, p.icount, i), p.icount.1);
  kflag = omega (arith, p.kflag, f);
  ncf = omega (arith, p.ncf, n);
  m = p.m;
  column = p.column;
}

-- made by tools/record.py: a wider bound of the counts
pub counts-wider : {c : Common} {a b : ℕ} → a ≤ b → Counts c a → Counts c b
counts-wider h k = record {
  nslp = omega (arith, k.nslp);
  nst = omega (arith, k.nst);
  nfe = omega (arith, k.nfe);
  nje = omega (arith, k.nje);
  nlu = omega (arith, k.nlu);
  rejected = omega (arith, k.rejected);
  total = omega (arith, k.total);
  count = omega (arith, k.count);
}

-- end of a wider bound of the counts
