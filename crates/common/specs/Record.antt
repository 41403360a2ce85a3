-- The record of a run, by its fields: a setter for each field of Common that a run changes; a start fixes hmin and
-- hmxi. Made by tools/record.py from the structs of src/lib.rt.
use Rattle.std.specs.Prelude.{Bool, true, false, ℕ, Float}
use Rattle.common.specs.declared.MethodFamily.{MethodFamily}
use Rattle.common.specs.declared.MethodFamily.TheVariants.{Adams, Bdf}
use Rattle.common.specs.declared.Common.{Common}

abbrev pub is_bdf : MethodFamily → Bool
is_bdf Adams = false
is_bdf Bdf = true

abbrev pub with_tn : Float → Common → Common
with_tn v c = record c { tn = v }

abbrev pub with_h : Float → Common → Common
with_h v c = record c { h = v }

abbrev pub with_hu : Float → Common → Common
with_hu v c = record c { hu = v }

abbrev pub with_told : Float → Common → Common
with_told v c = record c { told = v }

abbrev pub with_rc : Float → Common → Common
with_rc v c = record c { rc = v }

abbrev pub with_el0 : Float → Common → Common
with_el0 v c = record c { el0 = v }

abbrev pub with_conit : Float → Common → Common
with_conit v c = record c { conit = v }

abbrev pub with_rmax : Float → Common → Common
with_rmax v c = record c { rmax = v }

abbrev pub with_pdest : Float → Common → Common
with_pdest v c = record c { pdest = v }

abbrev pub with_pdlast : Float → Common → Common
with_pdlast v c = record c { pdlast = v }

abbrev pub with_pdnorm : Float → Common → Common
with_pdnorm v c = record c { pdnorm = v }

abbrev pub with_convrate : Float → Common → Common
with_convrate v c = record c { convrate = v }

abbrev pub with_pnorm : Float → Common → Common
with_pnorm v c = record c { pnorm = v }

abbrev pub with_rate : Float → Common → Common
with_rate v c = record c { rate = v }

abbrev pub with_delp : Float → Common → Common
with_delp v c = record c { delp = v }

abbrev pub with_nq : ℕ → Common → Common
with_nq v c = record c { nq = v }

abbrev pub with_lmax : ℕ → Common → Common
with_lmax v c = record c { lmax = v }

abbrev pub with_nqnyh : ℕ → Common → Common
with_nqnyh v c = record c { nqnyh = v }

abbrev pub with_ialth : ℕ → Common → Common
with_ialth v c = record c { ialth = v }

abbrev pub with_icount : ℕ → Common → Common
with_icount v c = record c { icount = v }

abbrev pub with_table : ℕ → Common → Common
with_table v c = record c { table = v }

abbrev pub with_nslp : ℕ → Common → Common
with_nslp v c = record c { nslp = v }

abbrev pub with_nst : ℕ → Common → Common
with_nst v c = record c { nst = v }

abbrev pub with_nfe : ℕ → Common → Common
with_nfe v c = record c { nfe = v }

abbrev pub with_nje : ℕ → Common → Common
with_nje v c = record c { nje = v }

abbrev pub with_nlu : ℕ → Common → Common
with_nlu v c = record c { nlu = v }

abbrev pub with_rejected : ℕ → Common → Common
with_rejected v c = record c { rejected = v }

abbrev pub with_total : ℕ → Common → Common
with_total v c = record c { total = v }

abbrev pub with_count : ℕ → Common → Common
with_count v c = record c { count = v }

abbrev pub with_kflag : ℕ → Common → Common
with_kflag v c = record c { kflag = v }

abbrev pub with_ncf : ℕ → Common → Common
with_ncf v c = record c { ncf = v }

abbrev pub with_m : ℕ → Common → Common
with_m v c = record c { m = v }

abbrev pub with_column : ℕ → Common → Common
with_column v c = record c { column = v }

abbrev pub with_meth : MethodFamily → Common → Common
with_meth v c = record c { meth = v }

abbrev pub with_due : Bool → Common → Common
with_due v c = record c { due = v }

abbrev pub with_jcur : Bool → Common → Common
with_jcur v c = record c { jcur = v }

abbrev pub with_setup : Bool → Common → Common
with_setup v c = record c { setup = v }
