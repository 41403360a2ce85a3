-- The coefficients of the Adams and BDF families by the recurrences of `cfode` (lsoda.rs), in its order of operations.
-- Its pass nq sets order nq + 1. An order has 13 numbers in elco and 3 in tesco; those that it does not set stay 0.
-- pc holds the coefficients of a polynomial, the lowest first. That these are the published numbers is not said here
-- but in Published, up to a few units in the last place.
use Rattle.std.specs.Prelude.{List, ◌++◌, cond, ℕ, ◌+◌, ◌-◌, ◌*◌, ltb, get_or, set, replicate, Float}
use Rattle.std.specs.Float.Ieee as Ieee
use Rattle.std.specs.Float.{nan}
use Rattle.loops.specs.For.{for, times}
use Rattle.numbers.specs.Float.{◌⊕◌, ◌⊗◌, ◌⊘◌, whole, zero_f, one_f, d0_5, d2, d3}

abbrev pub at : List Float → ℕ → Float
at l i = get_or l i nan

-- what a pass hands to the next: pc, Adams' rqfac or BDF's rq1fac, and the tables
pub record Rows : Type 0 where
  pub pc : List Float
  pub fac : Float
  pub elco : List Float
  pub tesco : List Float

-- pc, of degree n - 1, times (x + a): from the highest coefficient down, in place
abbrev pub multiply_at : ℕ → Float → ℕ → List Float → List Float
multiply_at n a ib pc = set pc (n - ib) (at pc (n - ib - 1) ⊕ a ⊗ at pc (n - ib))

unfoldable pub multiply : ℕ → Float → List Float → List Float
unfolding times Ieee.add Ieee.mul Ieee.of_bits
multiply n a pc =
    let up = for 0 n (multiply_at n a) (set pc n zero_f) in
    set up 0 (at up 0 ⊗ a)

-- the integrals from -1 to 0 of pc and of -x times pc, term by term with a sign that alternates
pub record Integrals : Type 0 where
  pub pint : Float
  pub xpin : Float
  pub tsign : Float

abbrev pub sum_at : List Float → ℕ → Integrals → Integrals
sum_at pc i s = record {
  pint = s.pint ⊕ Ieee.neg s.tsign ⊗ at pc i ⊘ (whole i ⊕ one_f);
  xpin = s.xpin ⊕ Ieee.neg s.tsign ⊗ at pc i ⊘ (whole i ⊕ d2);
  tsign = Ieee.neg s.tsign;
}

unfoldable pub integrals_of : ℕ → List Float → Integrals
unfolding times Ieee.add Ieee.mul Ieee.div Ieee.neg Ieee.of_int Ieee.of_bits
integrals_of nq pc = for 1 (nq + 1) (sum_at pc) (record { pint = at pc 0; xpin = d0_5 ⊗ at pc 0; tsign = one_f })

abbrev pub adams_elco_at : ℕ → List Float → Float → ℕ → List Float → List Float
adams_elco_at nq pc rq1fac i elco = set elco (i + 1 + nq * 13) (rq1fac ⊗ at pc i ⊘ (whole i ⊕ one_f))

unfoldable pub adams_elco : ℕ → List Float → Float → Float → List Float → List Float
unfolding times Ieee.add Ieee.mul Ieee.div Ieee.of_int Ieee.of_bits
adams_elco nq pc pint rq1fac elco =
    for 1 (nq + 1) (adams_elco_at nq pc rq1fac) (set (set elco (nq * 13) (pint ⊗ rq1fac)) (1 + nq * 13) one_f)

unfoldable pub adams_tesco : ℕ → Float → Float → List Float → List Float
unfolding Ieee.add Ieee.mul Ieee.div Ieee.of_int Ieee.of_bits
adams_tesco nq ragq rqfac tesco =
    let own = set tesco (1 + 3 * nq) ragq in
    let next = cond (ltb nq 11) (set own (3 * (nq + 1)) (ragq ⊗ rqfac ⊘ (whole nq ⊕ d2))) own in
    set next (2 + 3 * (nq - 1)) ragq

unfoldable pub adams_row : ℕ → Rows → Rows
unfolding multiply integrals_of adams_elco adams_tesco Ieee.add Ieee.mul Ieee.div Ieee.of_int Ieee.of_bits
adams_row nq s =
    let rqfac = s.fac ⊘ (whole nq ⊕ one_f) in
    let pc = multiply nq (whole nq) s.pc in
    let sum = integrals_of nq pc in
    record {
      pc = pc;
      fac = rqfac;
      elco = adams_elco nq pc sum.pint s.fac s.elco;
      tesco = adams_tesco nq (one_f ⊘ (rqfac ⊗ sum.xpin)) rqfac s.tesco;
    }

abbrev pub start_pc : List Float
start_pc = set (replicate 12 zero_f) 0 one_f

-- `cfode(Adams, elco, tesco)`
unfoldable pub adams : List Float → List Float → Rows
unfolding times adams_row Ieee.of_bits
adams elco tesco =
    for 1 12 adams_row
    (record {
      pc = start_pc;
      fac = one_f;
      elco = set (set elco 0 one_f) 1 one_f;
      tesco = set (set (set (set tesco 0 zero_f) 1 d2) 3 one_f) 35 zero_f;
    })

abbrev pub bdf_elco_at : ℕ → List Float → ℕ → List Float → List Float
bdf_elco_at nq pc i elco = set elco (i + nq * 13) (at pc i ⊘ at pc 1)

unfoldable pub bdf_row : ℕ → Rows → Rows
unfolding times multiply Ieee.add Ieee.div Ieee.of_int Ieee.of_bits
bdf_row nq s =
    let pc = multiply (nq + 1) (whole nq ⊕ one_f) s.pc in
    let elco = set (for 0 (nq + 2) (bdf_elco_at nq pc) s.elco) (1 + nq * 13) one_f in
    let own = set (set s.tesco (3 * nq) s.fac) (1 + 3 * nq) ((whole nq ⊕ d2) ⊘ at elco (nq * 13)) in
    record {
      pc = pc;
      fac = s.fac ⊘ (whole nq ⊕ one_f);
      elco = elco;
      tesco = set own (2 + 3 * nq) ((whole nq ⊕ d3) ⊘ at elco (nq * 13));
    }

-- `cfode(Bdf, elco, tesco)`
unfoldable pub bdf : List Float → List Float → Rows
unfolding times bdf_row Ieee.of_bits
bdf elco tesco = for 0 5 bdf_row (record { pc = start_pc; fac = one_f; elco = elco; tesco = tesco })

-- the tables of both families, each as `cfode` sets it in tables of zeros: elco and tesco of Adams, then those of BDF
abbrev pub no_elco : List Float
no_elco = replicate 156 zero_f

abbrev pub no_tesco : List Float
no_tesco = replicate 36 zero_f

unfoldable pub cfode_of : List Float
unfolding adams bdf
cfode_of =
    let first = adams no_elco no_tesco in
    let second = bdf no_elco no_tesco in
    first.elco ++ (first.tesco ++ (second.elco ++ second.tesco))
