-- The rules that touch the record alone: `stoda_first_call_init`, `stoda_reset`, and which coefficients are in force.
-- el, el0 and conit change at a reset alone, so el is the row of the order nqnyh / n in the table in force.
-- Taken from the Rust line by line; that they are the Rust's is shown by runs, not by a theorem.
use Rattle.std.specs.Prelude.{Bool, ℕ, ◌+◌, ◌*◌, ◌/◌, Float}
use Rattle.std.specs.Float.Ieee as Ieee
use Rattle.numbers.specs.Float.{◌⊕◌, ◌⊗◌, ◌⊘◌, whole, zero_f, one_f, d0_5, d0_7, d2, d10000, d1_00001}
use Rattle.numbers.specs.Sign.{abs_of}
use Rattle.coefficients.specs.Table.{elco_of}
use Rattle.common.specs.declared.Settings.{Settings}
use Rattle.common.specs.declared.Common.{Common}
use Rattle.common.specs.Record.{is_bdf, with_lmax, with_nq, with_ialth, with_rmax, with_rc, with_el0, with_conit}
use Rattle.common.specs.Record.{with_convrate, with_nslp, with_due, with_icount, with_pdest, with_pdlast}
use Rattle.common.specs.Record.{with_table, with_nqnyh}
use Rattle.common.specs.Limits.{maxord_of}

-- icount is kept with 1,000,000 added, so that it is never below 0: this is 20
abbrev pub icount20 : ℕ
icount20 = 1000020

unfoldable pub first_call_init_of : Settings → Common → Common
first_call_init_of s c =
    with_lmax (maxord_of s c.meth + 1)
    (with_nq 1
    (with_ialth 2
    (with_rmax d10000
    (with_rc zero_f
    (with_el0 one_f
    (with_convrate d0_7
    (with_nslp 0
    (with_due (is_bdf c.meth)
    (with_icount icount20
    (with_pdest zero_f
    (with_pdlast zero_f
    (with_table 1 c))))))))))))

abbrev pub order_in_force_of : Settings → Common → ℕ
order_in_force_of s c = c.nqnyh / s.n

-- el[j]
abbrev pub el_of : Settings → Common → ℕ → Float
el_of s c j = elco_of c.table (order_in_force_of s c) j

unfoldable pub reset_of : Settings → Common → Common
reset_of s c =
    let el0 = elco_of c.table c.nq 0 in
    with_nqnyh (c.nq * s.n)
    (with_rc (c.rc ⊗ el0 ⊘ c.el0)
    (with_el0 el0
    (with_conit (d0_5 ⊘ (whole c.nq ⊕ d2)) c)))

-- |h| ≤ hmin·1.00001
abbrev pub tiny_of : Common → Bool
tiny_of c = Ieee.le (abs_of c.h) (c.hmin ⊗ d1_00001)
