-- Every range of the record, once: the settings (`Accepted`), the counts (`Counts`), orders and columns (`Orders`), the
-- counters of a step (`Counters`), work and pivots (`Lent`). What is asked at a place is put together from these:
--     Ranges         between two calls: the ranges of 13, of every run and of every session that a reply takes
--     Inside         by the functions inside a reply: a count rises at most twice in a reply, so that below 2^62 none
--                    can overflow
--     StepInRange    by the functions of a step: where they index the work and the coefficients; the weakest
-- (icount is kept with 1,000,000 added, kflag as the number of error failures.)
-- Nothing is said of the floats, which may be any, nor that a session in range is of a run.
use Rattle.std.specs.Prelude.{List, ◌≡◌, ℕ, ◌+◌, ◌-◌, ◌*◌, ◌%◌, ◌^◌, ◌≤◌, ◌<◌, length, get_or, Float}
use Rattle.common.specs.declared.Settings.{Settings}
use Rattle.common.specs.declared.Common.{Common}
use Rattle.common.specs.Layout.{work_length}
use Rattle.common.specs.Limits.{max_states, mxncf_of}
use Rattle.common.specs.Rules.{icount20}

-- made by tools/record.py: the ranges of settings and counts
-- settings as start accepts
pub record Accepted (s : Settings) : Type 0 where
  pub n : (1 ≤ s.n) × (s.n ≤ max_states)
  pub maxsteps : (1 ≤ s.maxsteps) × (s.maxsteps ≤ 1000000)
  pub mxordn : (1 ≤ s.mxordn) × (s.mxordn ≤ 1000000)
  pub mxords : (1 ≤ s.mxords) × (s.mxords ≤ 1000000)
  pub maxcor : (1 ≤ s.maxcor) × (s.maxcor ≤ 1000000)
  pub msbp : s.msbp ≤ 1000000
  pub mxncf : s.mxncf ≤ 1000000

-- the counts, each at most a bound
pub record Counts (c : Common) (b : ℕ) : Type 0 where
  pub nslp : c.nslp ≤ b
  pub nst : c.nst ≤ b
  pub nfe : c.nfe ≤ b
  pub nje : c.nje ≤ b
  pub nlu : c.nlu ≤ b
  pub rejected : c.rejected ≤ b
  pub total : c.total ≤ b
  pub count : c.count ≤ b

-- end of the ranges of settings and counts

-- Orders, columns and counters as plain numbers, so that a change of any other field leaves what is said of them.
pub record Shape : Type 0 where
  pub nq : ℕ
  pub lmax : ℕ
  pub nqnyh : ℕ
  pub table : ℕ

pub record StepNumbers : Type 0 where
  pub ialth : ℕ
  pub icount : ℕ
  pub kflag : ℕ
  pub ncf : ℕ
  pub m : ℕ
  pub column : ℕ

abbrev pub shape_of : Common → Shape
shape_of c = record { nq = c.nq; lmax = c.lmax; nqnyh = c.nqnyh; table = c.table }

abbrev pub step_numbers_of : Common → StepNumbers
step_numbers_of c = record {
  ialth = c.ialth;
  icount = c.icount;
  kflag = c.kflag;
  ncf = c.ncf;
  m = c.m;
  column = c.column;
}

-- orders and columns: table up to a greatest number
pub record OrdersTo (s : Settings) (tables : ℕ) (k : Shape) : Type 0 where
  pub nq : (1 ≤ k.nq) × (k.nq ≤ 12)
  pub lmax : (2 ≤ k.lmax) × (k.lmax ≤ 13) × (k.nq + 1 ≤ k.lmax)
  pub nqnyh : (k.nqnyh % s.n ≡ 0) × (k.nq * s.n ≤ k.nqnyh) × (k.nqnyh ≤ 12 * s.n)
  pub table : k.table ≤ tables

abbrev pub Orders : Settings → Shape → Type 0
Orders s k = OrdersTo s 1 k

-- the counters of a step: icount from a least value on, kflag up to a greatest one, ncf below a bound; ialth, which is
-- at most 13 in a run, has no upper end
pub record CountersTo (s : Settings) (icounts kflags ncfs : ℕ) (k : StepNumbers) : Type 0 where
  pub ialth : 1 ≤ k.ialth
  pub icount : (icounts ≤ k.icount) × (k.icount ≤ icount20)
  pub kflag : k.kflag ≤ kflags
  pub ncf : k.ncf < ncfs
  pub m : k.m < s.maxcor
  pub column : k.column < s.n

abbrev pub Counters : Settings → ℕ → StepNumbers → Type 0
Counters s icounts k = CountersTo s icounts 9 (mxncf_of s) k

-- where a run is over, the failure that ended it is counted
abbrev pub EndedCounters : Settings → StepNumbers → Type 0
EndedCounters s k = CountersTo s 0 10 (mxncf_of s + 1) k

-- counts below 2^62
pub record Ranges (s : Settings) (c : Common) : Type 0 where
  pub settings : Accepted s
  pub counts : Counts c (2 ^ 62 - 1)
  pub orders : Orders s (shape_of c)
  pub counters : Counters s 20 (step_numbers_of c)

-- nslp becomes nst where a Jacobian is made
pub record Inside (s : Settings) (c : Common) : Type 0 where
  pub settings : Accepted s
  pub orders : Orders s (shape_of c)
  pub counters : Counters s 20 (step_numbers_of c)
  pub steps : (c.nslp < 2 ^ 62) × (c.nst < 2 ^ 62)
  pub counts : (c.nfe < 2 ^ 63) × (c.count < 2 ^ 63) × (c.rejected < 2 ^ 63)

pub record StepInRange (s : Settings) (c : Common) : Type 0 where
  pub n : (1 ≤ s.n) × (s.n ≤ max_states)
  pub order : (1 ≤ c.nq) × (c.nq ≤ 12)
  pub table : c.table ≤ 2
  pub used : (c.nq * s.n ≤ c.nqnyh) × (c.nqnyh ≤ 12 * s.n)
  pub steps : (c.nslp < 2 ^ 62) × (s.msbp ≤ 1000000)

-- the whole of the work, n pivots, each below n
pub record Lent (n : ℕ) (work : List Float) (ipiv : List ℕ) : Type 0 where
  pub sized : length work ≡ work_length n
  pub pivots : length ipiv ≡ n
  pub below : (k : ℕ) → k < n → get_or ipiv k 0 < n
