-- A record that is lent as numbers: 11 floats and 14 counts. The fields that these leave out are 0.
--     floats   0 hmxi   1 tn   2 h   3 hu   4 rc   5 el0   6 conit   7 rmax   8 pdest   9 pdlast   10 convrate
--     counts   0 n   1 mxordn   2 mxords   3 msbp   4 family   5 nq   6 lmax   7 nqnyh   8 ialth   9 icount   10 table
--              11 nslp   12 nst   13 due
use Rattle.std.specs.Prelude.{Bool, false, cond, ◌&&◌, List, ℕ, ◌+◌, ◌*◌, ◌^◌, eqb, leb, ltb, length, get_or, set}
use Rattle.std.specs.Prelude.{Float}
use Rattle.std.specs.Float.{nan}
use Rattle.numbers.specs.Float.{zero_f}
use Rattle.common.specs.declared.MethodFamily.{MethodFamily}
use Rattle.common.specs.declared.MethodFamily.TheVariants.{Adams, Bdf}
use Rattle.common.specs.declared.Settings.{Settings}
use Rattle.common.specs.declared.Common.{Common}
use Rattle.common.specs.Limits.{max_states}
use Rattle.common.specs.Layout.{ewt_at, matrix_at}

-- 2 is BDF, and any other number Adams
unfoldable pub lent_family : ℕ → MethodFamily
lent_family k = cond (eqb k 2) Bdf Adams

abbrev pub number1 : Bool → ℕ
number1 flag = cond flag 1 0

-- made by tools/record.py: the record from the numbers that are lent
unfoldable pub lent_settings : List Float → List ℕ → Settings
lent_settings fs cs = record {
  n = get_or cs 0 0;
  xend = zero_f;
  direction = zero_f;
  maxsteps = 0;
  mxordn = get_or cs 1 0;
  mxords = get_or cs 2 0;
  maxcor = 0;
  msbp = get_or cs 3 0;
  mxncf = 0;
  supplied = false;
  given = false;
  nrtol = 0;
  natol = 0;
}

unfoldable pub lent_common : List Float → List ℕ → Common
lent_common fs cs = record {
  hmin = zero_f;
  hmxi = get_or fs 0 nan;
  tn = get_or fs 1 nan;
  h = get_or fs 2 nan;
  hu = get_or fs 3 nan;
  told = zero_f;
  rc = get_or fs 4 nan;
  el0 = get_or fs 5 nan;
  conit = get_or fs 6 nan;
  rmax = get_or fs 7 nan;
  pdest = get_or fs 8 nan;
  pdlast = get_or fs 9 nan;
  pdnorm = zero_f;
  convrate = get_or fs 10 nan;
  pnorm = zero_f;
  rate = zero_f;
  delp = zero_f;
  meth = lent_family (get_or cs 4 0);
  nq = get_or cs 5 0;
  lmax = get_or cs 6 0;
  nqnyh = get_or cs 7 0;
  ialth = get_or cs 8 0;
  icount = get_or cs 9 0;
  table = get_or cs 10 0;
  nslp = get_or cs 11 0;
  nst = get_or cs 12 0;
  nfe = 0;
  nje = 0;
  nlu = 0;
  rejected = 0;
  total = 0;
  count = 0;
  kflag = 0;
  ncf = 0;
  m = 0;
  column = 0;
  due = eqb (get_or cs 13 0) 1;
  jcur = false;
  setup = false;
}

-- end of the record from the numbers that are lent

-- the floats and counts of a record, written back
unfoldable pub written_floats : Common → List Float → List Float
written_floats c fs =
    set (set (set (set (set (set (set (set (set (set fs 1 c.tn) 2 c.h) 3 c.hu) 4 c.rc) 5 c.el0)
    6 c.conit) 7 c.rmax) 8 c.pdest) 9 c.pdlast) 10 c.convrate

unfoldable pub written_counts : Common → List ℕ → List ℕ
written_counts c cs =
    set (set (set (set (set (set (set (set (set cs 5 c.nq) 6 c.lmax) 7 c.nqnyh) 8 c.ialth) 9 c.icount)
    10 c.table) 11 c.nslp) 12 c.nst) 13 (number1 c.due)

-- nq passes over the columns up to nqnyh, and the column behind it, lie within so many numbers
unfoldable pub are_columns : ℕ → ℕ → ℕ → ℕ → Bool
are_columns n nq nqnyh len = leb n max_states && (leb nq 12 && (leb (nq * n) nqnyh && leb (nqnyh + n) len))

-- the ranges that a step's functions ask for, and work up to the matrix
unfoldable pub in_range : ℕ → ℕ → ℕ → ℕ → ℕ → Bool
in_range n nq nqnyh table work =
    leb 1 n && (leb n max_states && (leb 1 nq && (leb table 2
    && (leb (matrix_at n) work && are_columns n nq nqnyh (ewt_at n)))))

unfoldable pub are_limits : ℕ → ℕ → ℕ → ℕ → Bool
are_limits mxordn mxords msbp nslp =
    leb mxordn 1000000 && (leb mxords 1000000 && (leb msbp 1000000 && ltb nslp (2 ^ 62)))

unfoldable pub is_usable : List Float → List ℕ → ℕ → Bool
is_usable fs cs work =
    eqb (length fs) 11 &&
    (eqb (length cs) 14 && (are_limits (get_or cs 1 0) (get_or cs 2 0) (get_or cs 3 0) (get_or cs 11 0)
    && in_range (get_or cs 0 0) (get_or cs 5 0) (get_or cs 7 0) (get_or cs 10 0) work))
