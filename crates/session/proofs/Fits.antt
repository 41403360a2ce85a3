-- What a session's bytes can keep: counts of 64 bits, and floats of the format.
-- Made by tools/record.py from the structs of crates/common/src/lib.rt. Assumes nothing.
use mathlib.Core.List.{List}
use Prim.Native.Nat.{ℕ, ◌^◌, ◌<◌}
use lib.Dec.{T}
use lib.ListN.{length, get_or}
use lib.Ieee.{Float, nan, binary64, fits}
use Rattle.questions.specs.declared.Session.{Session}

pub record CountsFit (x : Session) : Type 0 where
  pub n : x.settings.n < 2 ^ 64
  pub maxsteps : x.settings.maxsteps < 2 ^ 64
  pub mxordn : x.settings.mxordn < 2 ^ 64
  pub mxords : x.settings.mxords < 2 ^ 64
  pub maxcor : x.settings.maxcor < 2 ^ 64
  pub msbp : x.settings.msbp < 2 ^ 64
  pub mxncf : x.settings.mxncf < 2 ^ 64
  pub nrtol : x.settings.nrtol < 2 ^ 64
  pub natol : x.settings.natol < 2 ^ 64
  pub nq : x.common.nq < 2 ^ 64
  pub lmax : x.common.lmax < 2 ^ 64
  pub nqnyh : x.common.nqnyh < 2 ^ 64
  pub ialth : x.common.ialth < 2 ^ 64
  pub icount : x.common.icount < 2 ^ 64
  pub table : x.common.table < 2 ^ 64
  pub nslp : x.common.nslp < 2 ^ 64
  pub nst : x.common.nst < 2 ^ 64
  pub nfe : x.common.nfe < 2 ^ 64
  pub nje : x.common.nje < 2 ^ 64
  pub nlu : x.common.nlu < 2 ^ 64
  pub rejected : x.common.rejected < 2 ^ 64
  pub total : x.common.total < 2 ^ 64
  pub count : x.common.count < 2 ^ 64
  pub kflag : x.common.kflag < 2 ^ 64
  pub ncf : x.common.ncf < 2 ^ 64
  pub m : x.common.m < 2 ^ 64
  pub column : x.common.column < 2 ^ 64

abbrev pub Fit : Float → Type 0
Fit v = T (fits binary64 v)

pub record FloatsFit (x : Session) : Type 0 where
  pub xend : Fit x.settings.xend
  pub direction : Fit x.settings.direction
  pub hmin : Fit x.common.hmin
  pub hmxi : Fit x.common.hmxi
  pub tn : Fit x.common.tn
  pub h : Fit x.common.h
  pub hu : Fit x.common.hu
  pub told : Fit x.common.told
  pub rc : Fit x.common.rc
  pub el0 : Fit x.common.el0
  pub conit : Fit x.common.conit
  pub rmax : Fit x.common.rmax
  pub pdest : Fit x.common.pdest
  pub pdlast : Fit x.common.pdlast
  pub pdnorm : Fit x.common.pdnorm
  pub convrate : Fit x.common.convrate
  pub pnorm : Fit x.common.pnorm
  pub rate : Fit x.common.rate
  pub delp : Fit x.common.delp

pub record Fits (x : Session) : Type 0 where
  pub counts : CountsFit x
  pub floats : FloatsFit x

-- every entry of a list
abbrev pub ListFits : List Float → Type 0
ListFits list = (i : ℕ) → i < length list → Fit (get_or list i nan)
