-- That the floats of the record `Common` are of the format, said of the floats one by one, so that it stands as it is
-- where another field is set; one law for the setter of each float; a session's floats and those of its record; and the
-- record at the start. Made by tools/record.py from the structs of crates/common/src/lib.rt. Assumes nothing.
use lib.Ieee.{Float}
use Rattle.common.specs.declared.Settings.{Settings}
use Rattle.common.specs.declared.Common.{Common}
use Rattle.common.specs.Initial.{initial_of}
use Rattle.questions.specs.declared.Session.{Session}
use Rattle.session.proofs.Fits.{Fit, FloatsFit}
use Rattle.invariants.proofs.Floats.{literal}

pub record Floats (
    hmin₀ hmxi₀ tn₀ h₀ hu₀ told₀ rc₀ el0₀ conit₀ rmax₀ pdest₀ pdlast₀ pdnorm₀ convrate₀ pnorm₀ rate₀ delp₀
    : Float) : Type 0 where
  pub hmin : Fit hmin₀
  pub hmxi : Fit hmxi₀
  pub tn : Fit tn₀
  pub h : Fit h₀
  pub hu : Fit hu₀
  pub told : Fit told₀
  pub rc : Fit rc₀
  pub el0 : Fit el0₀
  pub conit : Fit conit₀
  pub rmax : Fit rmax₀
  pub pdest : Fit pdest₀
  pub pdlast : Fit pdlast₀
  pub pdnorm : Fit pdnorm₀
  pub convrate : Fit convrate₀
  pub pnorm : Fit pnorm₀
  pub rate : Fit rate₀
  pub delp : Fit delp₀

abbrev pub CommonFits : Common → Type 0
CommonFits c =
    Floats c.hmin c.hmxi c.tn c.h c.hu c.told c.rc c.el0 c.conit c.rmax c.pdest c.pdlast c.pdnorm c.convrate c.pnorm
    c.rate c.delp

module _ {
    hmin₀ hmxi₀ tn₀ h₀ hu₀ told₀ rc₀ el0₀ conit₀ rmax₀ pdest₀ pdlast₀ pdnorm₀ convrate₀ pnorm₀ rate₀ delp₀
    v : Float}
    (p : Fit v)
    (f : Floats
    hmin₀ hmxi₀ tn₀ h₀ hu₀ told₀ rc₀ el0₀ conit₀ rmax₀ pdest₀ pdlast₀ pdnorm₀ convrate₀ pnorm₀ rate₀ delp₀)
  where
    pub put-tn : Floats
        hmin₀ hmxi₀ v h₀ hu₀ told₀ rc₀ el0₀ conit₀ rmax₀ pdest₀ pdlast₀ pdnorm₀ convrate₀ pnorm₀ rate₀ delp₀
    put-tn = record {
      hmin = f.hmin;
      hmxi = f.hmxi;
      tn = p;
      h = f.h;
      hu = f.hu;
      told = f.told;
      rc = f.rc;
      el0 = f.el0;
      conit = f.conit;
      rmax = f.rmax;
      pdest = f.pdest;
      pdlast = f.pdlast;
      pdnorm = f.pdnorm;
      convrate = f.convrate;
      pnorm = f.pnorm;
      rate = f.rate;
      delp = f.delp;
    }

    pub put-h : Floats
        hmin₀ hmxi₀ tn₀ v hu₀ told₀ rc₀ el0₀ conit₀ rmax₀ pdest₀ pdlast₀ pdnorm₀ convrate₀ pnorm₀ rate₀ delp₀
    put-h = record {
      hmin = f.hmin;
      hmxi = f.hmxi;
      tn = f.tn;
      h = p;
      hu = f.hu;
      told = f.told;
      rc = f.rc;
      el0 = f.el0;
      conit = f.conit;
      rmax = f.rmax;
      pdest = f.pdest;
      pdlast = f.pdlast;
      pdnorm = f.pdnorm;
      convrate = f.convrate;
      pnorm = f.pnorm;
      rate = f.rate;
      delp = f.delp;
    }

    pub put-hu : Floats
        hmin₀ hmxi₀ tn₀ h₀ v told₀ rc₀ el0₀ conit₀ rmax₀ pdest₀ pdlast₀ pdnorm₀ convrate₀ pnorm₀ rate₀ delp₀
    put-hu = record {
      hmin = f.hmin;
      hmxi = f.hmxi;
      tn = f.tn;
      h = f.h;
      hu = p;
      told = f.told;
      rc = f.rc;
      el0 = f.el0;
      conit = f.conit;
      rmax = f.rmax;
      pdest = f.pdest;
      pdlast = f.pdlast;
      pdnorm = f.pdnorm;
      convrate = f.convrate;
      pnorm = f.pnorm;
      rate = f.rate;
      delp = f.delp;
    }

    pub put-told : Floats
        hmin₀ hmxi₀ tn₀ h₀ hu₀ v rc₀ el0₀ conit₀ rmax₀ pdest₀ pdlast₀ pdnorm₀ convrate₀ pnorm₀ rate₀ delp₀
    put-told = record {
      hmin = f.hmin;
      hmxi = f.hmxi;
      tn = f.tn;
      h = f.h;
      hu = f.hu;
      told = p;
      rc = f.rc;
      el0 = f.el0;
      conit = f.conit;
      rmax = f.rmax;
      pdest = f.pdest;
      pdlast = f.pdlast;
      pdnorm = f.pdnorm;
      convrate = f.convrate;
      pnorm = f.pnorm;
      rate = f.rate;
      delp = f.delp;
    }

    pub put-rc : Floats
        hmin₀ hmxi₀ tn₀ h₀ hu₀ told₀ v el0₀ conit₀ rmax₀ pdest₀ pdlast₀ pdnorm₀ convrate₀ pnorm₀ rate₀ delp₀
    put-rc = record {
      hmin = f.hmin;
      hmxi = f.hmxi;
      tn = f.tn;
      h = f.h;
      hu = f.hu;
      told = f.told;
      rc = p;
      el0 = f.el0;
      conit = f.conit;
      rmax = f.rmax;
      pdest = f.pdest;
      pdlast = f.pdlast;
      pdnorm = f.pdnorm;
      convrate = f.convrate;
      pnorm = f.pnorm;
      rate = f.rate;
      delp = f.delp;
    }

    pub put-el0 : Floats
        hmin₀ hmxi₀ tn₀ h₀ hu₀ told₀ rc₀ v conit₀ rmax₀ pdest₀ pdlast₀ pdnorm₀ convrate₀ pnorm₀ rate₀ delp₀
    put-el0 = record {
      hmin = f.hmin;
      hmxi = f.hmxi;
      tn = f.tn;
      h = f.h;
      hu = f.hu;
      told = f.told;
      rc = f.rc;
      el0 = p;
      conit = f.conit;
      rmax = f.rmax;
      pdest = f.pdest;
      pdlast = f.pdlast;
      pdnorm = f.pdnorm;
      convrate = f.convrate;
      pnorm = f.pnorm;
      rate = f.rate;
      delp = f.delp;
    }

    pub put-conit : Floats
        hmin₀ hmxi₀ tn₀ h₀ hu₀ told₀ rc₀ el0₀ v rmax₀ pdest₀ pdlast₀ pdnorm₀ convrate₀ pnorm₀ rate₀ delp₀
    put-conit = record {
      hmin = f.hmin;
      hmxi = f.hmxi;
      tn = f.tn;
      h = f.h;
      hu = f.hu;
      told = f.told;
      rc = f.rc;
      el0 = f.el0;
      conit = p;
      rmax = f.rmax;
      pdest = f.pdest;
      pdlast = f.pdlast;
      pdnorm = f.pdnorm;
      convrate = f.convrate;
      pnorm = f.pnorm;
      rate = f.rate;
      delp = f.delp;
    }

    pub put-rmax : Floats
        hmin₀ hmxi₀ tn₀ h₀ hu₀ told₀ rc₀ el0₀ conit₀ v pdest₀ pdlast₀ pdnorm₀ convrate₀ pnorm₀ rate₀ delp₀
    put-rmax = record {
      hmin = f.hmin;
      hmxi = f.hmxi;
      tn = f.tn;
      h = f.h;
      hu = f.hu;
      told = f.told;
      rc = f.rc;
      el0 = f.el0;
      conit = f.conit;
      rmax = p;
      pdest = f.pdest;
      pdlast = f.pdlast;
      pdnorm = f.pdnorm;
      convrate = f.convrate;
      pnorm = f.pnorm;
      rate = f.rate;
      delp = f.delp;
    }

    pub put-pdest : Floats
        hmin₀ hmxi₀ tn₀ h₀ hu₀ told₀ rc₀ el0₀ conit₀ rmax₀ v pdlast₀ pdnorm₀ convrate₀ pnorm₀ rate₀ delp₀
    put-pdest = record {
      hmin = f.hmin;
      hmxi = f.hmxi;
      tn = f.tn;
      h = f.h;
      hu = f.hu;
      told = f.told;
      rc = f.rc;
      el0 = f.el0;
      conit = f.conit;
      rmax = f.rmax;
      pdest = p;
      pdlast = f.pdlast;
      pdnorm = f.pdnorm;
      convrate = f.convrate;
      pnorm = f.pnorm;
      rate = f.rate;
      delp = f.delp;
    }

    pub put-pdlast : Floats
        hmin₀ hmxi₀ tn₀ h₀ hu₀ told₀ rc₀ el0₀ conit₀ rmax₀ pdest₀ v pdnorm₀ convrate₀ pnorm₀ rate₀ delp₀
    put-pdlast = record {
      hmin = f.hmin;
      hmxi = f.hmxi;
      tn = f.tn;
      h = f.h;
      hu = f.hu;
      told = f.told;
      rc = f.rc;
      el0 = f.el0;
      conit = f.conit;
      rmax = f.rmax;
      pdest = f.pdest;
      pdlast = p;
      pdnorm = f.pdnorm;
      convrate = f.convrate;
      pnorm = f.pnorm;
      rate = f.rate;
      delp = f.delp;
    }

    pub put-pdnorm : Floats
        hmin₀ hmxi₀ tn₀ h₀ hu₀ told₀ rc₀ el0₀ conit₀ rmax₀ pdest₀ pdlast₀ v convrate₀ pnorm₀ rate₀ delp₀
    put-pdnorm = record {
      hmin = f.hmin;
      hmxi = f.hmxi;
      tn = f.tn;
      h = f.h;
      hu = f.hu;
      told = f.told;
      rc = f.rc;
      el0 = f.el0;
      conit = f.conit;
      rmax = f.rmax;
      pdest = f.pdest;
      pdlast = f.pdlast;
      pdnorm = p;
      convrate = f.convrate;
      pnorm = f.pnorm;
      rate = f.rate;
      delp = f.delp;
    }

    pub put-convrate : Floats
        hmin₀ hmxi₀ tn₀ h₀ hu₀ told₀ rc₀ el0₀ conit₀ rmax₀ pdest₀ pdlast₀ pdnorm₀ v pnorm₀ rate₀ delp₀
    put-convrate = record {
      hmin = f.hmin;
      hmxi = f.hmxi;
      tn = f.tn;
      h = f.h;
      hu = f.hu;
      told = f.told;
      rc = f.rc;
      el0 = f.el0;
      conit = f.conit;
      rmax = f.rmax;
      pdest = f.pdest;
      pdlast = f.pdlast;
      pdnorm = f.pdnorm;
      convrate = p;
      pnorm = f.pnorm;
      rate = f.rate;
      delp = f.delp;
    }

    pub put-pnorm : Floats
        hmin₀ hmxi₀ tn₀ h₀ hu₀ told₀ rc₀ el0₀ conit₀ rmax₀ pdest₀ pdlast₀ pdnorm₀ convrate₀ v rate₀ delp₀
    put-pnorm = record {
      hmin = f.hmin;
      hmxi = f.hmxi;
      tn = f.tn;
      h = f.h;
      hu = f.hu;
      told = f.told;
      rc = f.rc;
      el0 = f.el0;
      conit = f.conit;
      rmax = f.rmax;
      pdest = f.pdest;
      pdlast = f.pdlast;
      pdnorm = f.pdnorm;
      convrate = f.convrate;
      pnorm = p;
      rate = f.rate;
      delp = f.delp;
    }

    pub put-rate : Floats
        hmin₀ hmxi₀ tn₀ h₀ hu₀ told₀ rc₀ el0₀ conit₀ rmax₀ pdest₀ pdlast₀ pdnorm₀ convrate₀ pnorm₀ v delp₀
    put-rate = record {
      hmin = f.hmin;
      hmxi = f.hmxi;
      tn = f.tn;
      h = f.h;
      hu = f.hu;
      told = f.told;
      rc = f.rc;
      el0 = f.el0;
      conit = f.conit;
      rmax = f.rmax;
      pdest = f.pdest;
      pdlast = f.pdlast;
      pdnorm = f.pdnorm;
      convrate = f.convrate;
      pnorm = f.pnorm;
      rate = p;
      delp = f.delp;
    }

    pub put-delp : Floats
        hmin₀ hmxi₀ tn₀ h₀ hu₀ told₀ rc₀ el0₀ conit₀ rmax₀ pdest₀ pdlast₀ pdnorm₀ convrate₀ pnorm₀ rate₀ v
    put-delp = record {
      hmin = f.hmin;
      hmxi = f.hmxi;
      tn = f.tn;
      h = f.h;
      hu = f.hu;
      told = f.told;
      rc = f.rc;
      el0 = f.el0;
      conit = f.conit;
      rmax = f.rmax;
      pdest = f.pdest;
      pdlast = f.pdlast;
      pdnorm = f.pdnorm;
      convrate = f.convrate;
      pnorm = f.pnorm;
      rate = f.rate;
      delp = p;
    }

pub commons : (x : Session) → FloatsFit x → CommonFits x.common
commons x f = record {
  hmin = f.hmin;
  hmxi = f.hmxi;
  tn = f.tn;
  h = f.h;
  hu = f.hu;
  told = f.told;
  rc = f.rc;
  el0 = f.el0;
  conit = f.conit;
  rmax = f.rmax;
  pdest = f.pdest;
  pdlast = f.pdlast;
  pdnorm = f.pdnorm;
  convrate = f.convrate;
  pnorm = f.pnorm;
  rate = f.rate;
  delp = f.delp;
}

pub floats : (x : Session) → Fit x.settings.xend → Fit x.settings.direction → CommonFits x.common
    → FloatsFit x
floats x xend direction c = record {
  xend = xend;
  direction = direction;
  hmin = c.hmin;
  hmxi = c.hmxi;
  tn = c.tn;
  h = c.h;
  hu = c.hu;
  told = c.told;
  rc = c.rc;
  el0 = c.el0;
  conit = c.conit;
  rmax = c.rmax;
  pdest = c.pdest;
  pdlast = c.pdlast;
  pdnorm = c.pdnorm;
  convrate = c.convrate;
  pnorm = c.pnorm;
  rate = c.rate;
  delp = c.delp;
}

pub initial-fits : (s : Settings) (x0 h hmin hmxi : Float) → Fit x0 → Fit h → Fit hmin → Fit hmxi
    → CommonFits (initial_of s x0 h hmin hmxi)
unfolding initial_of
initial-fits s x0 h hmin hmxi p q m i = record {
  hmin = m;
  hmxi = i;
  tn = p;
  h = q;
  hu = literal _;
  told = p;
  rc = literal _;
  el0 = literal _;
  conit = literal _;
  rmax = literal _;
  pdest = literal _;
  pdlast = literal _;
  pdnorm = literal _;
  convrate = literal _;
  pnorm = literal _;
  rate = literal _;
  delp = literal _;
}
