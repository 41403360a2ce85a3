-- The Jacobian, the iterations and their verdict keep the record's floats of the format: of the work only norms enter
-- the record.
-- Assumes nothing.
use mathlib.Core.Bool.{Bool, true, false}
use mathlib.Core.List.{List}
use Prim.Native.Nat.{ℕ}
use lib.Dec.{eqb}
use lib.Ieee as Ieee
use lib.Ieee.{Float}
use Rattle.loops.proofs.Test.{chosen}
use Rattle.common.specs.Layout.{y_at, matrix_at}
use Rattle.numbers.specs.Float.{◌⊗◌, zero_f, one_f, uround, d100, d1024}
use Rattle.dense.specs.Solve.{solve_of}
use Rattle.common.specs.declared.Settings.{Settings}
use Rattle.common.specs.declared.Common.{Common}
use Rattle.common.specs.declared.MethodFamily.{MethodFamily}
use Rattle.common.specs.declared.MethodFamily.TheVariants.{Adams, Bdf}
use Rattle.common.specs.Record.{is_bdf}
use Rattle.jacobian.specs.Jacobian.{begin_of, finish_jacobian_of}
use Rattle.corrector.specs.Iterate.{Correction}
use Rattle.corrector.specs.declared.Verdict.{Verdict}
use Rattle.corrector.specs.Verdict.{rm_of, rated_of, dcon_of, pdest_of, estimated_of, judged_converged, give_up_of}
use Rattle.corrector.specs.Verdict.{strays}
use Rattle.corrector.specs.Verdict.{judged_further, judged_tested, rated_verdict, solved_verdict, judge_of}
use Rattle.corrector.specs.Iterate.{open_of, Corrected, adams_of, bdf_of, bdf_residual_of, correct_in, correct_of}
use Rattle.session.proofs.Fits.{Fit}
use Rattle.invariants.proofs.Floats.{literal, product, quotient, maximum}
use Rattle.invariants.proofs.Sizes.{norm}
use Rattle.invariants.proofs.Records.{CommonFits, put-rc, put-pdest, put-pdlast, put-pdnorm, put-convrate}
use Rattle.invariants.proofs.Records.{put-rate, put-delp}

-- ---- the Jacobian

pub begin-fits : (c : Common) → CommonFits c → CommonFits (begin_of c)
unfolding begin_of
begin-fits c f = f

pub finished-fits : (s : Settings) (c : Common) (work : List Float) (ipiv : List ℕ) → CommonFits c
    → CommonFits (finish_jacobian_of s c work ipiv).common
unfolding finish_jacobian_of
finished-fits s c work ipiv f = put-pdnorm (quotient _ _) (put-rc (literal _) (put-convrate (literal _) f))

-- ---- iterations

pub open-fits : (c : Common) → CommonFits c → CommonFits (open_of c)
unfolding open_of
open-fits c f = put-rate (literal _) (put-delp (literal _) f)

-- a correction's size is a norm, or 0
correct-in : (m : MethodFamily) (s : Settings) (c : Common) (ipiv : List ℕ) (work : List Float)
    → Fit (correct_in m s c ipiv work).del
unfolding adams_of bdf_of
correct-in Adams s c ipiv work = norm _ _
correct-in Bdf s c ipiv work =
    let x = solve_of s.n (matrix_at s.n) ipiv (y_at s.n) (bdf_residual_of s.n c.h work) in
    chosen (λ (r : Corrected). Fit r.del) x.ok (norm _ _) (literal _)

pub size_fits : (s : Settings) (c : Common) (ipiv : List ℕ) (work : List Float) → Fit (correct_of s c ipiv work).del
unfolding correct_of
size_fits s c ipiv work = correct-in c.meth s c ipiv work

-- ---- the verdict

abbrev VerdictFits : Verdict → Type 0
VerdictFits v = CommonFits v.common

rm_fits : (c : Common) (del : Float) → Fit (rm_of c del)
rm_fits c del = chosen Fit (Ieee.le del (d1024 ⊗ c.delp)) (quotient del c.delp) (literal _)

rated-fits : (c : Common) (del : Float) → CommonFits c → CommonFits (rated_of c del)
unfolding rated_of
rated-fits c del f =
    put-rate (maximum _ _ f.rate (rm_fits c del)) (put-convrate (maximum _ _ (product _ _) (rm_fits c del)) f)

estimated-fits : (s : Settings) (c : Common) → CommonFits c → CommonFits (estimated_of s c)
unfolding estimated_of
estimated-fits s c f =
    let p : Fit (pdest_of s c) = maximum _ _ f.pdest (quotient _ _) in
    put-pdest p (put-pdlast (chosen Fit (Ieee.ne (pdest_of s c) zero_f) p f.pdlast) f)

give-up-fits : (c : Common) → CommonFits c → VerdictFits (give_up_of c)
unfolding give_up_of
give-up-fits c f = f

module _ (s : Settings) (del : Float) (size : Fit del) where
  further-fits : (c : Common) → CommonFits c → VerdictFits (judged_further s c del)
  unfolding judged_further
  further-fits c f = chosen VerdictFits (strays s c del) (give-up-fits c f) (put-delp size f)

  tested-fits : (c : Common) → CommonFits c → VerdictFits (judged_tested s c del)
  unfolding judged_tested judged_converged
  tested-fits c f = chosen VerdictFits (Ieee.le (dcon_of c del) one_f) (estimated-fits s c f) (further-fits c f)

  rated-verdict : (first bdf : Bool) (c : Common) → CommonFits c → VerdictFits (rated_verdict s c del first bdf)
  rated-verdict true true c f = tested-fits c f
  rated-verdict true false c f = further-fits c f
  rated-verdict false bdf c f = tested-fits (rated_of c del) (rated-fits c del f)

  solved-fits : (c : Common) (pnorm : Float) → CommonFits c → VerdictFits (solved_verdict s c del pnorm)
  unfolding judged_converged
  solved-fits c pnorm f =
      chosen VerdictFits (Ieee.le del (d100 ⊗ pnorm ⊗ uround)) f
      (rated-verdict (eqb c.m 0) (is_bdf c.meth) c f)

pub judge-fits : (s : Settings) (c : Common) (x : Correction) (pnorm : Float) → Fit x.del → CommonFits c
    → VerdictFits (judge_of s c x pnorm)
unfolding judge_of
judge-fits s c x pnorm size f =
    chosen VerdictFits x.solved (solved-fits s x.del size c pnorm f) (give-up-fits c f)
