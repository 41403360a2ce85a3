-- A session's fields as words and back, and the ranges of 13 that one word says. The order is that of docs/SESSION.md.
-- Made by tools/record.py from the structs of crates/common/src/lib.rt.
use Rattle.std.specs.Prelude.{false, List, [], ◌∷◌, ℕ, get_or, Float}
use Rattle.std.specs.Float.{nan}
use Rattle.common.specs.declared.MethodFamily.{MethodFamily}
use Rattle.common.specs.declared.MethodFamily.TheVariants.{Adams}
use Rattle.common.specs.declared.Settings.{Settings}
use Rattle.common.specs.declared.Common.{Common}
use Rattle.common.specs.Limits.{max_states}
use Rattle.questions.specs.declared.Session.{Session}
use Rattle.session.specs.States.{flag_number, flag_of, family_number, family_of, phase_number, phase_of}

-- ---- the counts, flags and states among them, and the floats

abbrev pub counts_of : Session → List ℕ
counts_of x =
    phase_number x.phase ∷ x.settings.n ∷ x.settings.maxsteps ∷ x.settings.mxordn ∷ x.settings.mxords
    ∷ x.settings.maxcor ∷ x.settings.msbp ∷ x.settings.mxncf ∷ flag_number x.settings.supplied
    ∷ flag_number x.settings.given ∷ x.settings.nrtol ∷ x.settings.natol ∷ family_number x.common.meth
    ∷ x.common.nq ∷ x.common.lmax ∷ x.common.nqnyh ∷ x.common.ialth ∷ x.common.icount ∷ x.common.table
    ∷ x.common.nslp ∷ x.common.nst ∷ x.common.nfe ∷ x.common.nje ∷ x.common.nlu ∷ x.common.rejected
    ∷ x.common.total ∷ x.common.count ∷ x.common.kflag ∷ x.common.ncf ∷ x.common.m ∷ x.common.column
    ∷ flag_number x.common.due ∷ flag_number x.common.jcur ∷ flag_number x.common.setup ∷ []

abbrev pub floats_of : Session → List Float
floats_of x =
    x.settings.xend ∷ x.settings.direction ∷ x.common.hmin ∷ x.common.hmxi ∷ x.common.tn ∷ x.common.h ∷ x.common.hu
    ∷ x.common.told ∷ x.common.rc ∷ x.common.el0 ∷ x.common.conit ∷ x.common.rmax ∷ x.common.pdest
    ∷ x.common.pdlast ∷ x.common.pdnorm ∷ x.common.convrate ∷ x.common.pnorm ∷ x.common.rate ∷ x.common.delp ∷ []

-- ---- the record from its counts u and its floats f

abbrev pub settings_of : List ℕ → List Float → Settings
settings_of u f = record {
  n = get_or u 1 0;
  maxsteps = get_or u 2 0;
  mxordn = get_or u 3 0;
  mxords = get_or u 4 0;
  maxcor = get_or u 5 0;
  msbp = get_or u 6 0;
  mxncf = get_or u 7 0;
  supplied = flag_of (get_or u 8 0);
  given = flag_of (get_or u 9 0);
  nrtol = get_or u 10 0;
  natol = get_or u 11 0;
  xend = get_or f 0 nan;
  direction = get_or f 1 nan;
}

-- the floats alone
abbrev pub floats_alone_of : List Float → Common
floats_alone_of f = record {
  meth = Adams;
  nq = 0;
  lmax = 0;
  nqnyh = 0;
  ialth = 0;
  icount = 0;
  table = 0;
  nslp = 0;
  nst = 0;
  nfe = 0;
  nje = 0;
  nlu = 0;
  rejected = 0;
  total = 0;
  count = 0;
  kflag = 0;
  ncf = 0;
  m = 0;
  column = 0;
  due = false;
  jcur = false;
  setup = false;
  hmin = get_or f 2 nan;
  hmxi = get_or f 3 nan;
  tn = get_or f 4 nan;
  h = get_or f 5 nan;
  hu = get_or f 6 nan;
  told = get_or f 7 nan;
  rc = get_or f 8 nan;
  el0 = get_or f 9 nan;
  conit = get_or f 10 nan;
  rmax = get_or f 11 nan;
  pdest = get_or f 12 nan;
  pdlast = get_or f 13 nan;
  pdnorm = get_or f 14 nan;
  convrate = get_or f 15 nan;
  pnorm = get_or f 16 nan;
  rate = get_or f 17 nan;
  delp = get_or f 18 nan;
}

-- a record with its family and its counts replaced
abbrev pub with_counts : MethodFamily → List ℕ → Common → Common
with_counts family u c = record {
  meth = family;
  nq = get_or u 13 0;
  lmax = get_or u 14 0;
  nqnyh = get_or u 15 0;
  ialth = get_or u 16 0;
  icount = get_or u 17 0;
  table = get_or u 18 0;
  nslp = get_or u 19 0;
  nst = get_or u 20 0;
  nfe = get_or u 21 0;
  nje = get_or u 22 0;
  nlu = get_or u 23 0;
  rejected = get_or u 24 0;
  total = get_or u 25 0;
  count = get_or u 26 0;
  kflag = get_or u 27 0;
  ncf = get_or u 28 0;
  m = get_or u 29 0;
  column = get_or u 30 0;
  due = flag_of (get_or u 31 0);
  jcur = flag_of (get_or u 32 0);
  setup = flag_of (get_or u 33 0);
  hmin = c.hmin;
  hmxi = c.hmxi;
  tn = c.tn;
  h = c.h;
  hu = c.hu;
  told = c.told;
  rc = c.rc;
  el0 = c.el0;
  conit = c.conit;
  rmax = c.rmax;
  pdest = c.pdest;
  pdlast = c.pdlast;
  pdnorm = c.pdnorm;
  convrate = c.convrate;
  pnorm = c.pnorm;
  rate = c.rate;
  delp = c.delp;
}

abbrev pub common_of : List ℕ → List Float → Common
common_of u f = with_counts (family_of (get_or u 12 0)) u (floats_alone_of f)

abbrev pub session_of : List ℕ → List Float → Session
session_of u f = record { settings = settings_of u f; common = common_of u f; phase = phase_of (get_or u 0 0) }

-- ---- least and greatest value of each count; 2^64 - 1 is no limit

unfoldable pub lowest : List ℕ
lowest =
    0  -- phase
    ∷ 1  -- n
    ∷ 1  -- maxsteps
    ∷ 1  -- mxordn
    ∷ 1  -- mxords
    ∷ 1  -- maxcor
    ∷ 0  -- msbp
    ∷ 0  -- mxncf
    ∷ 0  -- supplied
    ∷ 0  -- given
    ∷ 0  -- nrtol
    ∷ 0  -- natol
    ∷ 1  -- meth
    ∷ 1  -- nq
    ∷ 2  -- lmax
    ∷ 0  -- nqnyh
    ∷ 1  -- ialth
    ∷ 20  -- icount
    ∷ 0  -- table
    ∷ 0  -- nslp
    ∷ 0  -- nst
    ∷ 0  -- nfe
    ∷ 0  -- nje
    ∷ 0  -- nlu
    ∷ 0  -- rejected
    ∷ 0  -- total
    ∷ 0  -- count
    ∷ 0  -- kflag
    ∷ 0  -- ncf
    ∷ 0  -- m
    ∷ 0  -- column
    ∷ 0  -- due
    ∷ 0  -- jcur
    ∷ 0  -- setup
    ∷ []

unfoldable pub highest : List ℕ
highest =
    10  -- phase
    ∷ max_states  -- n
    ∷ 1000000  -- maxsteps
    ∷ 1000000  -- mxordn
    ∷ 1000000  -- mxords
    ∷ 1000000  -- maxcor
    ∷ 1000000  -- msbp
    ∷ 1000000  -- mxncf
    ∷ 1  -- supplied
    ∷ 1  -- given
    ∷ 18446744073709551615  -- nrtol
    ∷ 18446744073709551615  -- natol
    ∷ 2  -- meth
    ∷ 12  -- nq
    ∷ 13  -- lmax
    ∷ 18446744073709551615  -- nqnyh
    ∷ 18446744073709551615  -- ialth
    ∷ 1000020  -- icount
    ∷ 1  -- table
    ∷ 4611686018427387903  -- nslp
    ∷ 4611686018427387903  -- nst
    ∷ 4611686018427387903  -- nfe
    ∷ 4611686018427387903  -- nje
    ∷ 4611686018427387903  -- nlu
    ∷ 4611686018427387903  -- rejected
    ∷ 4611686018427387903  -- total
    ∷ 4611686018427387903  -- count
    ∷ 9  -- kflag
    ∷ 18446744073709551615  -- ncf
    ∷ 18446744073709551615  -- m
    ∷ 18446744073709551615  -- column
    ∷ 1  -- due
    ∷ 1  -- jcur
    ∷ 1  -- setup
    ∷ []
