-- The verdict on an iteration, as in `stoda_corrector_loop`: converged, a further derivative, a retry (second family,
-- old Jacobian) or no convergence. The Rust's m, rate and delp are the record's; its ipup > 0 is due, its jcur a flag.
-- Converged means that the test passed, a NaN among its numbers or not; no solution is claimed.
use Rattle.std.specs.Prelude.{Bool, true, false, cond, not, ◌&&◌, ◌+◌, eqb, leb, Float}
use Rattle.std.specs.Float.Ieee as Ieee
use Rattle.numbers.specs.Float.{◌⊗◌, ◌⊘◌, zero_f, one_f, uround, d0_2, d1_5, d2, d100, d1024}
use Rattle.numbers.specs.Sign.{abs_of}
use Rattle.numbers.specs.Order.{max_of, min_of}
use Rattle.coefficients.specs.Table.{tesco_of}
use Rattle.common.specs.declared.Settings.{Settings}
use Rattle.common.specs.declared.Common.{Common}
use Rattle.common.specs.Record.{is_bdf, with_rate, with_convrate, with_pdest, with_pdlast, with_jcur, with_due, with_m}
use Rattle.common.specs.Record.{with_delp}
use Rattle.common.specs.Rules.{el_of}
use Rattle.history.specs.Parts.{norm_at_of}
use Rattle.corrector.specs.declared.Pass.TheVariants.{Converged, Retry, NoConvergence, Further}
use Rattle.corrector.specs.declared.Verdict.{Verdict}
use Rattle.corrector.specs.Iterate.{Correction, Corrected}

-- del / delp, or 1024 if that is more
abbrev pub rm_of : Common → Float → Float
rm_of c del = cond (Ieee.le del (d1024 ⊗ c.delp)) (del ⊘ c.delp) d1024

unfoldable pub rated_of : Common → Float → Common
rated_of c del = with_rate (max_of c.rate (rm_of c del)) (with_convrate (max_of (d0_2 ⊗ c.convrate) (rm_of c del)) c)

-- in the first iteration nothing new is known
unfoldable pub known_rate_of : Common → Float → Common
known_rate_of c del = cond (eqb c.m 0) c (rated_of c del)

-- del·min(1.5, convrate) / (tesco·conit)
unfoldable pub dcon_of : Common → Float → Float
dcon_of c del = del ⊗ min_of d1_5 c.convrate ⊘ (tesco_of c.table c.nq 1 ⊗ c.conit)

abbrev pub pdest_of : Settings → Common → Float
pdest_of s c = max_of c.pdest (c.rate ⊘ abs_of (c.h ⊗ el_of s c 0))

unfoldable pub estimated_of : Settings → Common → Common
estimated_of s c =
    with_pdest (pdest_of s c) (with_pdlast (cond (Ieee.ne (pdest_of s c) zero_f) (pdest_of s c) c.pdlast) c)

unfoldable pub judged_converged : Common → Verdict
judged_converged c = record { pass = Converged; common = with_jcur false c }

-- a Jacobian of the second family that was not made in this pass
abbrev pub old_jacobian : Common → Bool
old_jacobian c = is_bdf c.meth && not c.jcur

-- a retry makes a Jacobian due
unfoldable pub give_up_of : Common → Verdict
give_up_of c =
    record {
      pass = cond (old_jacobian c) Retry NoConvergence;
      common = with_due (cond (old_jacobian c) true c.due) c;
    }

-- maxcor iterations are done, or from the second on the corrections grow
abbrev pub strays : Settings → Common → Float → Bool
strays s c del = cond (eqb (c.m + 1) s.maxcor) true (leb 2 (c.m + 1) && Ieee.lt (d2 ⊗ c.delp) del)

unfoldable pub judged_further : Settings → Common → Float → Verdict
judged_further s c del =
    cond (strays s c del) (give_up_of c) (record { pass = Further; common = with_m (c.m + 1) (with_delp del c) })

unfoldable pub judged_tested : Settings → Common → Float → Verdict
judged_tested s c del =
    cond (Ieee.le (dcon_of c del) one_f) (judged_converged (estimated_of s c)) (judged_further s c del)

-- the first iteration of the Adams family is not tested
abbrev pub rated_verdict : Settings → Common → Float → Bool → Bool → Verdict
rated_verdict s c del true true = judged_tested s c del
rated_verdict s c del true false = judged_further s c del
rated_verdict s c del false bdf = judged_tested s (rated_of c del) del

-- below the noise of the prediction the pass has converged
abbrev pub solved_verdict : Settings → Common → Float → Float → Verdict
solved_verdict s c del pnorm =
    cond (Ieee.le del (d100 ⊗ pnorm ⊗ uround)) (judged_converged c)
    (rated_verdict s c del (eqb c.m 0) (is_bdf c.meth))

unfoldable pub judge_of : Settings → Common → Correction → Float → Verdict
judge_of s c x pnorm = cond x.solved (solved_verdict s c x.del pnorm) (give_up_of c)

-- of an iteration: its correction beside the norm of the prediction
abbrev pub verdict_of : Settings → Common → Corrected → Verdict
verdict_of s c x = judge_of s c (record { solved = x.solved; del = x.del }) (norm_at_of s.n 0 x.work).value
