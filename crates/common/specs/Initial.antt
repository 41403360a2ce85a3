-- The record at the start. Made by tools/record.py from the structs of src/lib.rt and what it says of each field.
use Rattle.std.specs.Prelude.{true, false, ◌+◌, max, Float}
use Rattle.numbers.specs.Float.{zero_f, one_f, d0_7}
use Rattle.common.specs.declared.MethodFamily.TheVariants.{Adams}
use Rattle.common.specs.declared.Settings.{Settings}
use Rattle.common.specs.declared.Common.{Common}
use Rattle.common.specs.Limits.{mxordn_of, mxords_of}
use Rattle.common.specs.Rules.{icount20}

-- h is the first step where it is given; the first derivative is asked for
unfoldable pub initial_of : Settings → Float → Float → Float → Float → Common
initial_of s x0 h hmin hmxi = record {
  hmin = hmin;
  hmxi = hmxi;
  tn = x0;
  h = h;
  hu = zero_f;
  told = x0;
  rc = zero_f;
  el0 = one_f;
  conit = zero_f;
  rmax = zero_f;
  pdest = zero_f;
  pdlast = zero_f;
  pdnorm = zero_f;
  convrate = d0_7;
  pnorm = zero_f;
  rate = zero_f;
  delp = zero_f;
  nq = 1;
  lmax = max (mxordn_of s) (mxords_of s) + 1;
  nqnyh = s.n;
  ialth = 2;
  icount = icount20;
  table = 0;
  nslp = 0;
  nst = 0;
  nfe = 1;
  nje = 0;
  nlu = 0;
  rejected = 0;
  total = 0;
  count = 0;
  kflag = 0;
  ncf = 0;
  m = 0;
  column = 0;
  meth = Adams;
  due = false;
  jcur = false;
  setup = true;
}
