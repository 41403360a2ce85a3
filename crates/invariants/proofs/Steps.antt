-- Setup and reset, rescale and prediction, and what follows a pass that is not accepted keep the record's floats of the
-- format.
-- Assumes nothing.
use mathlib.Core.Bool.{Bool, true, false}
use mathlib.Core.List.{List}
use lib.Dec.{eqb, ltb}
use lib.Ieee.{Float}
use Rattle.common.specs.declared.Settings.{Settings}
use Rattle.common.specs.declared.Common.{Common}
use Rattle.common.specs.Rules.{first_call_init_of, reset_of, tiny_of}
use Rattle.history.specs.Steps.{adjust_of, predicted_of}
use Rattle.attempt.specs.Attempt.{retracted_of, retracted_work, repredict_of, unconverged_of, poor_of, quartered_of}
use Rattle.attempt.specs.Attempt.{no_convergence_at, no_convergence_of, tenth_of, missed_at, missed_of, overshot_of}
use Rattle.attempt.specs.Attempt.{failed_of}
use Rattle.attempt.specs.Attempt.{lowered_of, restep_of}
use Rattle.invariants.proofs.Floats.{literal, sum, product, quotient}
use Rattle.invariants.proofs.Sizes.{elco}
use Rattle.invariants.proofs.Records.{CommonFits, put-tn, put-h, put-rc, put-el0, put-conit, put-rmax, put-pdest}
use Rattle.invariants.proofs.Records.{put-pdlast, put-convrate}

module _ (s : Settings) where
  -- ---- setup, rescale, prediction

  pub first-call-fits : (c : Common) → CommonFits c → CommonFits (first_call_init_of s c)
  unfolding first_call_init_of
  first-call-fits c f =
      put-rmax (literal _) (put-rc (literal _) (put-el0 (literal _) (put-convrate (literal _)
      (put-pdest (literal _) (put-pdlast (literal _) f)))))

  pub reset-fits : (c : Common) → CommonFits c → CommonFits (reset_of s c)
  unfolding reset_of
  reset-fits c f = put-rc (quotient _ _) (put-el0 (elco _ _ _) (put-conit (quotient _ _) f))

  pub adjust-fits : (c : Common) (rh : Float) → CommonFits c → CommonFits (adjust_of c rh)
  unfolding adjust_of
  adjust-fits c rh f = put-h (product _ _) (put-rc (product _ _) f)

  pub predicted-fits : (c : Common) → CommonFits c → CommonFits (predicted_of s c)
  unfolding predicted_of
  predicted-fits c f = put-tn (sum _ _) f

  -- ---- after a pass that was not accepted

  retracted-fits : (c : Common) → CommonFits c → CommonFits (retracted_of c)
  unfolding retracted_of
  retracted-fits c f = put-rmax (literal _) (put-tn f.told f)

  repredict-fits : (c : Common) (rh : Float) (work : List Float) → CommonFits c
      → CommonFits (repredict_of s c rh work).common
  unfolding repredict_of
  repredict-fits c rh work f = predicted-fits (adjust_of c rh) (adjust-fits c rh f)

  no-convergence-at : (poor : Bool) (c : Common) (work : List Float) → CommonFits c
      → CommonFits (no_convergence_at s poor c work).common
  unfolding no_convergence_at quartered_of
  no-convergence-at true c work f = f
  no-convergence-at false c work f = repredict-fits _ _ work f

  pub no-convergence-fits : (c : Common) (work : List Float) → CommonFits c
      → CommonFits (no_convergence_of s c work).common
  unfolding no_convergence_of unconverged_of
  no-convergence-fits c work f =
      no-convergence-at (poor_of s (unconverged_of c)) (unconverged_of c) (retracted_work s c work) (retracted-fits c f)

  missed-at : (dsm : Float) (tiny early last : Bool) (c : Common) (work : List Float) → CommonFits c
      → CommonFits (missed_at s dsm tiny early last c work).common
  unfolding missed_at tenth_of
  missed-at dsm true early last c work f = f
  missed-at dsm false true last c work f = repredict-fits c _ work f
  missed-at dsm false false true c work f = f
  missed-at dsm false false false c work f = put-h (product _ _) f

  pub failed-fits : (c : Common) (dsm : Float) (work : List Float) → CommonFits c
      → CommonFits (failed_of s c dsm work).common
  unfolding failed_of missed_of overshot_of
  failed-fits c dsm work f =
      let d = overshot_of c in
      missed-at dsm (tiny_of d) (ltb d.kflag 3) (eqb d.kflag 10) d (retracted_work s c work) (retracted-fits c f)

  lowered-fits : (same : Bool) (c : Common) → CommonFits c → CommonFits (lowered_of s same c)
  lowered-fits true c f = f
  lowered-fits false c f = reset-fits _ f

  pub restep-fits : (c : Common) (work : List Float) → CommonFits c → CommonFits (restep_of s c work).common
  unfolding restep_of
  restep-fits c work f = predicted-fits _ (lowered-fits (eqb c.nq 1) _ f)
